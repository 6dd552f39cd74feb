-- At most one, and exactly one, by halves.
use Rattle.std.proofs.Common.{◌≡◌, refl, sym, ap, ◌∙◌, ℕ, zero, suc, ◌<◌, ◌≤◌, ◌-◌, ◌/◌, Bool, true, false, not, ◌&&◌, ◌||◌, List, [], ◌∷◌, ◌++◌, map, take, drop, length, inl, inr, nat_lt, arith, append_assoc}
use Rattle.std.proofs.lemmas.Bool.Decides.{nat_tests}
use Rattle.std.specs.Prelude.{if◌then◌else◌}
use Rattle.std.proofs.lemmas.Bool.{cases_Bool}
use Rattle.std.proofs.lemmas.List.{take-append-drop}
use Rattle.clause_store.specs.declared.Lit.{Lit}
use Rattle.clause_store.specs.Lits.{var_of, lit_true, AllBelow}
use Rattle.clause_store.proofs.Meaning.{lit_true-negation}
use Rattle.clause_formulas.specs.Statements.{Statement, eval, atom, no, opposite, any_statement, not_both, apart, truths, none_true, one_true, all_eval, SaidBelow}
use Rattle.clause_formulas.proofs.Words.{eval-all_of, all_eval-append, any_of-below, all_of-below}
use Rattle.clause_formulas.specs.Few.{few_true, none_of, halves_apart, half_count, few_of, few_among, one_among}

or-true : (a : Bool) → (a || true) ≡ true
or-true true = refl
or-true false = refl

or-false : (a : Bool) → (a || false) ≡ a
or-false true = refl
or-false false = refl

none-append : (bs cs : List Bool) → none_true (bs ++ cs) ≡ (none_true bs && none_true cs)
none-append [] cs = refl
none-append (true ∷ bs) cs = refl
none-append (false ∷ bs) cs = none-append bs cs

none-few : (bs : List Bool) → (none_true bs && few_true bs) ≡ none_true bs
none-few [] = refl
none-few (true ∷ bs) = refl
none-few (false ∷ bs) = none-few bs

few-append : (bs cs : List Bool) → few_true (bs ++ cs) ≡ ((none_true bs || none_true cs) && (few_true bs && few_true cs))
few-append [] cs = refl
few-append (true ∷ bs) cs = none-append bs cs ∙ by-bools (none_true bs) (none_true cs) (few_true cs) (none-few cs)
  where
    by-bools : (n m f : Bool) → (m && f) ≡ m → (n && m) ≡ (m && (n && f))
    by-bools true true f e = sym e
    by-bools true false f e = refl
    by-bools false true f e = refl
    by-bools false false f e = refl
few-append (false ∷ bs) cs = few-append bs cs

module _ (v : ℕ → Bool) where
  truths-append : (ks ls : List Lit) → truths v (ks ++ ls) ≡ truths v ks ++ truths v ls
  truths-append [] ls = refl
  truths-append (k ∷ ks) ls = ap (λ bs. lit_true v k ∷ bs) (truths-append ks ls)

  none-said : (ls : List Lit) → eval v (none_of ls) ≡ none_true (truths v ls)
  none-said [] = refl
  none-said (l ∷ ls) = elim (cases_Bool (lit_true v l)) [ inl t ↦ rw t refl | inr f ↦ rw f (none-said ls) ]

  halves-said : (ks ls : List Lit) → eval v (halves_apart ks ls) ≡ (none_true (truths v ks) || none_true (truths v ls))
  halves-said ks ls = rw (none-said ks, none-said ls) (ap (λ b. none_true (truths v ks) || b) (or-false (none_true (truths v ls))))

  apart-first : (l : Lit) (ls : List Lit) → all_eval v (map (not_both l) ls) ≡ (not (lit_true v l) || none_true (truths v ls))
  apart-first l [] = sym (or-true (not (lit_true v l)))
  apart-first l (k ∷ ls) = rw (lit_true-negation v l, lit_true-negation v k, apart-first l ls)
      (by-bools (lit_true v l) (lit_true v k) (none_true (truths v ls)))
    where
      by-bools : (a b c : Bool) → ((not a || (not b || false)) && (not a || c)) ≡ (not a || (not b && c))
      by-bools true true c = refl
      by-bools true false c = refl
      by-bools false b c = refl

  apart-few : (ls : List Lit) → all_eval v (apart ls) ≡ few_true (truths v ls)
  apart-few [] = refl
  apart-few (l ∷ ls) = all_eval-append v (map (not_both l) ls) (apart ls) ∙ rw (apart-first l ls, apart-few ls)
      (by-bools (lit_true v l) (none_true (truths v ls)) (few_true (truths v ls)) (none-few (truths v ls)))
    where
      by-bools : (t n f : Bool) → (n && f) ≡ n → ((not t || n) && f) ≡ (if t then n else f)
      by-bools true n f e = e
      by-bools false n f e = refl

  -- the formulas say that at most one is true
  pub few-said : (times : ℕ) (ls : List Lit) → all_eval v (few_of times ls) ≡ few_true (truths v ls)
  unfolding few_of
  few-said zero ls = apart-few ls
  few-said (suc times) ls =
      let front = few-said times (take (half_count ls) ls) in
      let back = few-said times (drop (half_count ls) ls) in
      elim (nat_lt 8 (length ls)) as (λ b. all_eval v (if b then halves_apart (take (half_count ls) ls) (drop (half_count ls) ls)
      ∷ (few_of times (take (half_count ls) ls) ++ few_of times (drop (half_count ls) ls)) else apart ls) ≡ few_true (truths v ls)) [
        | true ↦ ap (λ b. eval v (halves_apart (take (half_count ls) ls) (drop (half_count ls) ls)) && b)
            (all_eval-append v (few_of times (take (half_count ls) ls)) (few_of times (drop (half_count ls) ls)))
            ∙ rw (halves-said (take (half_count ls) ls) (drop (half_count ls) ls), front, back) refl
            ∙ sym (few-append (truths v (take (half_count ls) ls)) (truths v (drop (half_count ls) ls)))
            ∙ ap few_true (sym (truths-append (take (half_count ls) ls) (drop (half_count ls) ls)))
            ∙ ap (λ l. few_true (truths v l)) (take-append-drop (half_count ls) ls)
        | false ↦ apart-few ls
      ]

  one-few : (bs : List Bool) → (not (none_true bs) && few_true bs) ≡ one_true bs
  one-few [] = refl
  one-few (true ∷ bs) = refl
  one-few (false ∷ bs) = one-few bs

  any-said : (ls : List Lit) → eval v (any_statement (map atom ls)) ≡ not (none_true (truths v ls))
  any-said [] = refl
  any-said (l ∷ ls) = elim (cases_Bool (lit_true v l)) [ inl t ↦ rw t refl | inr f ↦ rw f (any-said ls) ]

  -- and that exactly one is
  pub one-said : (ls : List Lit) → eval v (one_among ls) ≡ one_true (truths v ls)
  one-said ls = eval-all_of v (any_statement (map atom ls) ∷ few_among ls)
      ∙ rw (any-said ls, few-said (length ls / 8) ls) (one-few (truths v ls))

-- ---- the variables

module _ (n : ℕ) where
  parts-below : (i : ℕ) (ls : List Lit) → AllBelow n ls → AllBelow n (take i ls) × AllBelow n (drop i ls)
  parts-below zero ls h = (tt, h)
  parts-below (suc i) [] h = (tt, tt)
  parts-below (suc i) (l ∷ ls) h = let rest = parts-below i ls h.1 in ((h.0, rest.0), rest.1)

  atoms-below : (ls : List Lit) → AllBelow n ls → SaidBelow n (any_statement (map atom ls))
  atoms-below [] h = tt
  atoms-below (l ∷ ls) h = (h.0, atoms-below ls h.1)

  not_both-below : (l : Lit) (ls : List Lit) → var_of l < n → AllBelow n ls → SaidBelow n (any_statement (map (not_both l) ls))
  not_both-below l [] h b = tt
  not_both-below l (k ∷ ls) h b = ((h, (b.0, tt)), not_both-below l ls h b.1)

  apart-below : (ls : List Lit) → AllBelow n ls → SaidBelow n (any_statement (apart ls))
  apart-below [] b = tt
  apart-below (l ∷ ls) b = any_of-below n (map (not_both l) ls) (apart ls) (not_both-below l ls b.0 b.1) (apart-below ls b.1)

  pub few-below : (times : ℕ) (ls : List Lit) → AllBelow n ls → SaidBelow n (any_statement (few_of times ls))
  unfolding few_of
  few-below zero ls h = apart-below ls h
  few-below (suc times) ls h =
      let parts = parts-below (half_count ls) ls h in
      let front = few-below times (take (half_count ls) ls) parts.0 in
      let back = few-below times (drop (half_count ls) ls) parts.1 in
      elim (nat_lt 8 (length ls)) as (λ b. SaidBelow n
      (any_statement (if b then halves_apart (take (half_count ls) ls) (drop (half_count ls) ls)
      ∷ (few_of times (take (half_count ls) ls) ++ few_of times (drop (half_count ls) ls)) else apart ls))) [
        | true ↦ (
          (atoms-below (take (half_count ls) ls) parts.0, (atoms-below (drop (half_count ls) ls) parts.1, tt)),
          any_of-below n (few_of times (take (half_count ls) ls)) (few_of times (drop (half_count ls) ls)) front back,
        )
        | false ↦ apart-below ls h
      ]

  pub one_among-below : (ls : List Lit) → AllBelow n ls → SaidBelow n (one_among ls)
  one_among-below ls h = all_of-below n (any_statement (map atom ls) ∷ few_among ls) (atoms-below ls h, few-below (length ls / 8) ls h)

-- ---- step by step

-- with no halving left all pairs are kept apart
pub few-none : (times : ℕ) (ls : List Lit) → times ≡ 0 → few_of times ls ≡ apart ls
unfolding few_of
few-none times ls e = rw e refl

-- a short list is not halved
pub few-short : (times : ℕ) (ls : List Lit) → length ls ≤ 8 → few_of times ls ≡ apart ls
unfolding few_of
few-short zero ls le = refl
few-short (suc times) ls le = let short : nat_lt 8 (length ls) ≡ false = grind (arith, nat_tests) in rw short refl

-- a long one is
pub few-long : (times : ℕ) (ls : List Lit) → (times ≡ 0 → ⊥) → 8 < length ls
    → few_of times ls ≡ halves_apart (take (half_count ls) ls) (drop (half_count ls) ls)
    ∷ (few_of (times - 1) (take (half_count ls) ls) ++ few_of (times - 1) (drop (half_count ls) ls))
unfolding few_of
few-long zero ls some lt = absurd (some refl)
few-long (suc times) ls some lt =
    let long : nat_lt 8 (length ls) ≡ true = grind (arith, nat_tests) in
    let less : suc times - 1 ≡ times = omega arith in
    rw (long, less) refl

-- the code's halves are the definition's
pub few-joined : (old one two three : List Statement) (times : ℕ) (ls : List Lit) (h : Statement) → (times ≡ 0 → ⊥) → 8 < length ls
    → one ≡ old ++ h ∷ [] → h ≡ halves_apart (take (half_count ls) ls) (drop (half_count ls) ls)
    → two ≡ one ++ few_of (times - 1) (take (half_count ls) ls) → three ≡ two ++ few_of (times - 1) (drop (half_count ls) ls)
    → three ≡ old ++ few_of times ls
few-joined old one two three times ls h some lt pushed halves front back =
    let a = few_of (times - 1) (take (half_count ls) ls) in
    let b = few_of (times - 1) (drop (half_count ls) ls) in
    back ∙ ap (λ xs. xs ++ b) (front ∙ ap (λ xs. xs ++ a) pushed)
    ∙ append_assoc (old ++ h ∷ []) a b ∙ append_assoc old (h ∷ []) (a ++ b)
    ∙ ap (λ k. old ++ k ∷ (a ++ b)) halves ∙ ap (λ fs. old ++ fs) (sym (few-long times ls some lt))

-- the opposite of an any-of is a none-of
pub opposite-any : (fs : List Statement) → opposite (any_statement fs) ≡ no (any_statement fs)
opposite-any [] = refl
opposite-any (f ∷ fs) = refl
