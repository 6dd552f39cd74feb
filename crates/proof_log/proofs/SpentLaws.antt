-- A log learns fewer clauses over n variables than 3 ^ n + 1, since they are distinct.
use Rattle.std.proofs.Common.{◌≡◌, ◌≢◌, ℕ, ◌+◌, ◌^◌, ◌<◌, ◌≤◌, Bool, true, false, cond, eqb, List, [], ◌∷◌, ◌++◌, length, Option, Some, None, inl, inr, refl, sym, ap, ◌∙◌, arith}
use Rattle.std.specs.Prelude.{slice_get}
use Rattle.std.specs.List.{AllPairs, All, list_any}
use Rattle.std.proofs.lemmas.Bool.{cases_lt, or_cases, cases_Bool, false≢true, eqb-true}
use Rattle.std.proofs.lemmas.Map.Made.{IsDistinct-from_AllPairs}
use Rattle.std.proofs.lemmas.Bool.Decides.{Decides-eqb}
use Rattle.std.proofs.lemmas.List.Elements.{All-nil, All-cons}
use Rattle.std.proofs.lemmas.List.Kept.{AllPairs-cons}
use Rattle.std.proofs.lemmas.Map.Steps.{length-le_from_distinct_below}
use Rattle.clause_store.specs.declared.Lit.{Lit}
use Rattle.clause_store.specs.Lits.{var_of, has, lit_eq, IsClause, AllBelow, SameLits}
use Rattle.proof_log.specs.declared.line.Line.{Line}
use Rattle.proof_log.specs.declared.line.Line.TheVariants.{Header, Learnt, Zero, One, Unsat, Spent, End}
use Rattle.proof_log.specs.Usefulness.{IsNew}
use Rattle.proof_log.specs.Lines.{added, with_added, settles, OfLearnt, EachLine, learnt_in}
use Rattle.proof_log.specs.Logs.{LineHolds}
use Rattle.proof_log.specs.Certificates.{AreOver, IsSpentLog}
use Rattle.clause_store.proofs.Sets.{one_sign, same_lit}
use Rattle.proof_log.proofs.Logs.{learnt_in-le}
use Rattle.proof_log.proofs.Distinct.{new-apart, get-front, get-last, get-kept, useful-news}
use Rattle.proof_log.proofs.Counting.{lit, number, number-small, number-digits}

abbrev code : Bool → Bool → ℕ
code a b = cond a 1 (cond b 2 0)

digit-positive : (a b p q : Bool) → code a b ≡ code p q → a ≡ p
digit-positive true b true q e = refl
digit-positive false b false q e = refl
digit-positive true b false true e = absurd (omega (arith, e))
digit-positive true b false false e = absurd (omega (arith, e))
digit-positive false true true q e = absurd (omega (arith, e))
digit-positive false false true q e = absurd (omega (arith, e))

digit-negative : (a b p q : Bool) → (a ≡ true → b ≡ true → ⊥) → (p ≡ true → q ≡ true → ⊥) → code a b ≡ code p q → b ≡ q
digit-negative true true p q f g e = absurd (f refl refl)
digit-negative true false true true f g e = absurd (g refl refl)
digit-negative true false true false f g e = refl
digit-negative true false false true f g e = absurd (omega (arith, e))
digit-negative true false false false f g e = refl
digit-negative false true true q f g e = absurd (omega (arith, e))
digit-negative false true false true f g e = refl
digit-negative false true false false f g e = absurd (omega (arith, e))
digit-negative false false true q f g e = absurd (omega (arith, e))
digit-negative false false false true f g e = absurd (omega (arith, e))
digit-negative false false false false f g e = refl

has-below : (n : ℕ) (c : List Lit) (l : Lit) → AllBelow n c → has c l ≡ true → var_of l < n
has-below n [] l b h = absurd (false≢true h)
has-below n (k ∷ c) l b h = elim (or_cases (lit_eq k l) (has c l) h) [ inl e ↦ rw (← same_lit k l e) b.0 | inr t ↦ has-below n c l b.1 t ]

not-both : (c : List Lit) (x : ℕ) → IsClause c → has c (lit x true) ≡ true → has c (lit x false) ≡ true → ⊥
not-both c x i h k = false≢true (sym (ap (λ (l : Lit). l.positive) (one_sign c (lit x true) (lit x false) i h k refl)))

-- a clause is known by its number
same-number : (n : ℕ) (c d : List Lit) → IsClause c → IsClause d → AllBelow n c → AllBelow n d → number n c ≡ number n d → SameLits c d
same-number n c d i j a b e l = elim (cases_lt (var_of l) n) [
  | inl lt ↦ here l.positive lt
  | inr ge ↦ outside c a ge ∙ sym (outside d b ge)
]
  where
    here : (p : Bool) → var_of l < n → has c (lit (var_of l) p) ≡ has d (lit (var_of l) p)
    here true lt = digit-positive _ _ _ _ (number-digits n c d e (var_of l) lt)
    here false lt = digit-negative _ _ _ _ (not-both c (var_of l) i) (not-both d (var_of l) j) (number-digits n c d e (var_of l) lt)

    outside : (c : List Lit) → AllBelow n c → n ≤ var_of l → has c l ≡ false
    outside c a ge = elim (cases_Bool (has c l)) [ inl t ↦ absurd (omega (arith, has-below n c l a t, ge)) | inr f ↦ f ]

module _ (n : ℕ) where
  numbers : List Line → List ℕ
  numbers [] = []
  numbers (Learnt id c chain ∷ ls) = number n c ∷ numbers ls
  numbers (Header x y z ∷ ls) = numbers ls
  numbers (Zero id b ∷ ls) = numbers ls
  numbers (One id b chain ∷ ls) = numbers ls
  numbers (Unsat chain ∷ ls) = numbers ls
  numbers (Spent ∷ ls) = numbers ls
  numbers (End ∷ ls) = numbers ls

  -- the numbers of clauses learnt after these are known
  record AreCounted (known : List (List Lit)) (xs : List ℕ) (count : ℕ) : Type 0 where
    size : length xs ≡ count
    small : (q : ℕ) → list_any (eqb q) xs ≡ true → q < 3 ^ n
    distinct : AllPairs (λ x y. x ≢ y) xs
    later : (k : ℕ) (d : List Lit) → slice_get known k ≡ Some d → IsClause d → AllBelow n d → All (λ y. number n d ≢ y) xs

  skip : (known : List (List Lit)) (o : Option (List Lit)) (xs : List ℕ) (count : ℕ) → AreCounted (with_added known o) xs count
      → AreCounted known xs (0 + count)
  skip known o xs count a = record {
    size = let s = a.size in omega (arith, s);
    small = a.small;
    distinct = a.distinct;
    later =
        λ k d e. a.later k d (get-kept known o k d e);
  }

  learn : (known : List (List Lit)) (c : List Lit) (xs : List ℕ) (count : ℕ) → IsClause c → AllBelow n c → IsNew known c
      → AreCounted (known ++ c ∷ []) xs count → AreCounted known (number n c ∷ xs) (1 + count)
  learn known c xs count i b w a = record {
    size = let s = a.size in omega (arith, s);
    small = λ q h. elim (or_cases (eqb q (number n c)) (list_any (eqb q) xs) h) [
      | inl e ↦ let f : q ≡ number n c =
          eqb-true q (number n c) e in let g = number-small n c in omega (arith, f, g)
      | inr t ↦ a.small q t
    ];
    distinct = AllPairs-cons (λ x y. x ≢ y) (number n c) xs (a.later (length known) c (get-last known c) i b) a.distinct;
    later = λ k d e j r. All-cons (λ y. number n d ≢ y) (number n c) xs (λ f. new-apart known c k d w e (same-number n d c j i r b f))
        (a.later k d (get-front known c k d e) j r);
  }

  counted : (bits : List Lit) (known : List (List Lit)) (m : ℕ) (ls : List Line) → EachLine (LineHolds bits) bits known m ls
      → EachLine (λ k m. OfLearnt (IsNew k)) bits known m ls → AreOver n ls → AreCounted known (numbers ls) (learnt_in ls)
  unfolding numbers
  counted bits known m [] h w r = record {
    size = refl;
    small = λ q e. absurd (false≢true e);
    distinct =
        λ i j d lt below. absurd (omega (arith, lt, below));
    later = λ k d e j r. All-nil _;
  }
  counted bits known m (l ∷ ls) h w r = by-line l h w r (counted bits (with_added known (added bits l)) (m + settles l) ls h.1 w.1 r.1)
    where
      by-line : (l : Line) → EachLine (LineHolds bits) bits known m (l ∷ ls) → EachLine (λ k m. OfLearnt (IsNew k)) bits known m (l ∷ ls)
          → AreOver n (l ∷ ls) → AreCounted (with_added known (added bits l)) (numbers ls) (learnt_in ls)
          → AreCounted known (numbers (l ∷ ls)) (learnt_in (l ∷ ls))
      by-line (Learnt id c chain) h w r a = learn known c (numbers ls) (learnt_in ls) h.0.1 r.0 w.0 a
      by-line (Header x y z) h w r a = skip known None (numbers ls) (learnt_in ls) a
      by-line (Zero id b) h w r a = skip known (added bits (Zero id b)) (numbers ls) (learnt_in ls) a
      by-line (One id b chain) h w r a = skip known (added bits (One id b chain)) (numbers ls) (learnt_in ls) a
      by-line (Unsat chain) h w r a = skip known None (numbers ls) (learnt_in ls) a
      by-line Spent h w r a = skip known None (numbers ls) (learnt_in ls) a
      by-line End h w r a = skip known None (numbers ls) (learnt_in ls) a

spent_bound : (vars : ℕ) (input : List (List Lit)) (bits : List Lit) (budget : ℕ) (lines : List Line)
    → IsSpentLog vars input bits budget lines → budget < 3 ^ vars
spent_bound vars input bits budget [] s = absurd s.sound
spent_bound vars input bits budget (l ∷ ls) s = by-line l s.sound.0 (useful-news input bits (l ∷ ls) s.useful) s.in_range s.count
  where
    by-line : (l : Line) → l ≡ Header vars (length input) (length bits) → EachLine (λ k m. OfLearnt (IsNew k)) bits input 0 (l ∷ ls)
        → AreOver vars (l ∷ ls) → learnt_in (l ∷ ls) ≡ budget + 1 → budget < 3 ^ vars
    by-line (Header x y z) e w r q =
        let a = counted vars bits input 0 ls s.sound.1 w.1 r.1 in
        let b = length-le_from_distinct_below (numbers vars ls) (3 ^ vars)
        (IsDistinct-from_AllPairs Decides-eqb (numbers vars ls) a.distinct) a.small in
        let c = a.size in
        omega (arith, b, c, q)
    by-line (Learnt id c chain) e w r q = cc
    by-line (Zero id b) e w r q = cc
    by-line (One id b chain) e w r q = cc
    by-line (Unsat chain) e w r q = cc
    by-line Spent e w r q = cc
    by-line End e w r q = cc

-- a spent budget is below 3 to the variables, and below the lines
pub spent_budget : (vars : ℕ) (input : List (List Lit)) (bits : List Lit) (budget : ℕ) (lines : List Line)
    → IsSpentLog vars input bits budget lines → (budget < 3 ^ vars) × (budget < length lines)
spent_budget vars input bits budget lines s =
    (spent_bound vars input bits budget lines s, let l = learnt_in-le lines in let c = s.count in omega (arith, l, c))
