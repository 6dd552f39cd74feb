-- Marks that are listed, and the false literals that they stand for.
use Rattle.std.proofs.Common.{◌≡◌, ℕ, zero, suc, ◌+◌, ◌<◌, ◌≤◌, Bool, true, false, not, eqb, List, [], ◌∷◌, ◌++◌, length, get_or, set, replicate, Some, None, ◌⊎◌, inl, inr, refl, sym, ap, ◌∙◌, subst, arith}
use Rattle.std.specs.Prelude.{slice_get}
use Rattle.std.proofs.lemmas.Bool.{cases_eq, cases_lt, cases_Bool, or_left, or_right, or_cases, false≢true, eq-eqb}
use Rattle.std.proofs.lemmas.List.{length-set, get_or-set_same, get_or-set_other}
use Rattle.std.proofs.lemmas.Option.{none-some, same_Some, get_or_from_slice_get, slice_get_within}
use Rattle.clause_store.specs.declared.Lit.{Lit}
use Rattle.clause_store.specs.Lits.{var_of, negation, has, lit_eq, SameLits}
use Rattle.clause_store.proofs.Sets.{same_lit}
use Rattle.proof_log.specs.Known.{has_var}
use Rattle.proof_log.specs.Usefulness.{IsConsistent}
use Rattle.clause_watch.specs.declared.trail.Placed.{Placed}
use Rattle.clause_watch.specs.Trails.{lits_of, value_in}
use Rattle.clause_watch.proofs.Meaning.{value-has}
use Rattle.clause_solver.specs.Seen.{seen_at, AreClear, AreListed, IsFalseLit, falsified}
use Rattle.clause_solver.proofs.SeenLaws.{clear-replicate, has_var-push}
use Rattle.clause_solver.proofs.Resolving.{falsified-same}

get-more : (xs : List ℕ) (y j x : ℕ) → slice_get xs j ≡ Some x → slice_get (xs ++ y ∷ []) j ≡ Some x
get-more [] y j x e = absurd (none-some x e)
get-more (z ∷ xs) y zero x e = e
get-more (z ∷ xs) y (suc j) x e = get-more xs y j x e

get-end : (xs : List ℕ) (y : ℕ) → slice_get (xs ++ y ∷ []) (length xs) ≡ Some y
get-end [] y = refl
get-end (z ∷ xs) y = get-end xs y

get-parts : (xs : List ℕ) (y j x : ℕ) → slice_get (xs ++ y ∷ []) j ≡ Some x → (slice_get xs j ≡ Some x) ⊎ (y ≡ x)
get-parts [] y zero x e = inr (same_Some y x e)
get-parts [] y (suc j) x e = absurd (none-some x e)
get-parts (z ∷ xs) y zero x e = inl e
get-parts (z ∷ xs) y (suc j) x e = get-parts xs y j x e

-- no variable is seen at first
pub listed-none : (n : ℕ) → AreListed (replicate n false) []
listed-none n = record { below = λ j x e. absurd (none-some x e); has = λ x t. absurd (false≢true (sym (clear-replicate n x) ∙ t)) }

-- a variable is seen and listed
pub listed-see : (table : List Bool) (listed more : List ℕ) (var : ℕ) → AreListed table listed → var < length table
    → more ≡ listed ++ var ∷ [] → AreListed (set table var true) more
listed-see table listed more var a h e =
    let n = length-set table var true in
    subst (AreListed (set table var true)) (sym e) (record {
      below = λ j x g. elim (get-parts listed var j x g) [
        | inl f ↦ let b = a.below j x f in omega (arith, n, b)
        | inr s ↦
            omega (arith, n, h, s)
      ];
      has = λ x t. elim (cases_eq x var) [
        | inl s ↦ (length listed, get-end listed var ∙ ap Some (sym s))
        | inr ne ↦ let g = a.has x (sym (get_or-set_other table var x true false ne) ∙ t) in (g.0, get-more listed var g.0 x g.1)
      ];
    })

unseen-apart : (table : List Bool) (var x : ℕ) → var < length table → seen_at (set table var false) x ≡ true → (x ≡ var → ⊥)
    × (seen_at table x ≡ true)
unseen-apart table var x h t =
    elim (cases_eq x var) [
      | inl s ↦ absurd (false≢true (sym (get_or-set_same table var false false h) ∙ ap (seen_at (set table var false)) (sym s) ∙ t))
      | inr ne ↦ (ne, sym (get_or-set_other table var x false false ne) ∙ t)
    ]

-- a variable is forgotten, and may stay in the list
pub listed-forget : (table : List Bool) (listed : List ℕ) (var : ℕ) → AreListed table listed → var < length table
    → AreListed (set table var false) listed
listed-forget table listed var a h =
    let n = length-set table var false in record {
      below = λ j x g. let b = a.below j x g in omega (arith, n, b);
      has = λ x t. a.has x (unseen-apart table var x h t).1;
    }

-- the last variable leaves the list, and is forgotten
pub listed-last : (table : List Bool) (listed rest : List ℕ) (var : ℕ) → AreListed table listed → listed ≡ rest ++ var ∷ []
    → var < length table
listed-last table listed rest var a e = a.below (length rest) var (ap (λ xs. slice_get xs (length rest)) e ∙ get-end rest var)

-- the last listed variable is forgotten
pub listed-pop : (table : List Bool) (listed rest : List ℕ) (var : ℕ) → AreListed table listed → listed ≡ rest ++ var ∷ []
    → AreListed (set table var false) rest
listed-pop table listed rest var a e =
    let n = length-set table var false in
    let h = listed-last table listed rest var a e in record {
      below = λ j x g. let b = a.below j x (ap (λ xs. slice_get xs j) e ∙ get-more rest var j x g) in omega (arith, n, b);
      has = λ x t.
          let u = unseen-apart table var x h t in
          let g = a.has x u.1 in
          elim (get-parts rest var g.0 x (ap (λ xs. slice_get xs g.0) (sym e) ∙ g.1)) [ inl f ↦ (g.0, f) | inr s ↦ absurd (u.0 (sym s)) ];
    }

-- where none is listed none is seen
pub listed-clear : (table : List Bool) (listed : List ℕ) → AreListed table listed → listed ≡ [] → AreClear table
listed-clear table listed a e x =
    elim (cases_Bool (seen_at table x)) [
      | inr f ↦ f
      | inl t ↦ let g = a.has x t in absurd (none-some x (ap (λ xs. slice_get xs g.0) (sym e) ∙ g.1))
    ]

has-push : (ls : List Lit) (l k : Lit) → has (ls ++ l ∷ []) k ≡ true → (has ls k ≡ true) ⊎ (l ≡ k)
has-push [] l k h = elim (or_cases (lit_eq l k) false h) [ inl e ↦ inr (same_lit l k e) | inr f ↦ absurd (false≢true f) ]
has-push (m ∷ ls) l k h = elim (or_cases (lit_eq m k) (has (ls ++ l ∷ []) k) h) [
  | inl e ↦ inl (or_left (lit_eq m k) (has ls k) e)
  | inr t ↦ elim (has-push ls l k t) [ inl y ↦ inl (or_right (lit_eq m k) (has ls k) y) | inr e ↦ inr e ]
]

-- the literals so far are false and seen, and each listed variable so far that is seen and has a value stands among them
pub record AreFalsified (m : ℕ → Bool) (ps : List Placed) (listed : List ℕ) (count : ℕ) (lits : List Lit) : Type 0 where
  pub sound : (l : Lit) → has lits l ≡ true → (m (var_of l) ≡ true) × (has (lits_of ps) (negation l) ≡ true)
  pub full : (j x : ℕ) → j < count → slice_get listed j ≡ Some x → m x ≡ true → has_var (lits_of ps) x ≡ true → has_var lits x ≡ true

module _ (table : List Bool) (ps : List Placed) (listed : List ℕ) where
  abbrev m : ℕ → Bool
  m = seen_at table

  -- no literal was gathered yet
  pub falsified-start : AreFalsified m ps listed 0 []
  falsified-start = record { sound = λ l h. absurd (false≢true h); full = λ j x lt. absurd (omega arith) }

  module _ (i d : ℕ) (lits : List Lit) (h : i < length listed) (a : AreFalsified m ps listed i lits) where
    here : (j x : ℕ) → i ≤ j → j < i + 1 → slice_get listed j ≡ Some x → get_or listed i d ≡ x
    here j x ge lt e = let s : i ≡ j = omega arith in get_or_from_slice_get listed i x d (ap (slice_get listed) s ∙ e)

    -- the variable is not seen, or has no value
    pub falsified-passed : IsFalseLit m ps (get_or listed i d) None → AreFalsified m ps listed (i + 1) lits
    falsified-passed none = record {
      sound = a.sound;
      full = λ j x lt e t o. elim (cases_lt j i) [
        | inl low ↦ a.full j x low e t o
        | inr ge ↦
            let s = here j x ge lt e in
            absurd (false≢true (sym (none (ap m s ∙ t)) ∙ ap (has_var (lits_of ps)) s ∙ o))
      ];
    }

    -- one more literal
    pub falsified-more : (l : Lit) (more : List Lit) → IsFalseLit m ps (get_or listed i d) (Some l) → more ≡ lits ++ l ∷ []
        → AreFalsified m ps listed (i + 1) more
    falsified-more l more some e = subst (AreFalsified m ps listed (i + 1)) (sym e) (record {
      sound = λ k g. elim (has-push lits l k g) [
        | inl old ↦ a.sound k old
        | inr s ↦ subst (λ (z : Lit). (m (var_of z) ≡ true) × (has (lits_of ps) (negation z) ≡ true)) s (ap m some.0 ∙ some.1, some.2)
      ];
      full = λ j x lt f t o. has_var-push lits l x ∙ elim (cases_lt j i) [
        | inl low ↦ or_left (has_var lits x) (eqb (var_of l) x) (a.full j x low f t o)
        | inr ge ↦ or_right (has_var lits x) (eqb (var_of l) x) (eq-eqb (var_of l) x (some.0 ∙ here j x ge lt f))
      ];
    })

  -- what was gathered from the whole list is the seen clause
  pub falsified-all : (n : ℕ) (lits : List Lit) → IsConsistent (lits_of ps) → AreListed table listed → length listed ≤ n
      → AreFalsified m ps listed n lits → SameLits lits (falsified m ps)
  falsified-all n lits consistent l le a = falsified-same m ps lits consistent a.sound (λ x t o. let g = l.has x t in let w =
      slice_get_within listed g.0 x g.1 in a.full g.0 x (omega (arith, w, le)) g.1 t o)

-- the false literal of a variable with a value
pub false-lit : (ps : List Placed) (x : ℕ) (l : Lit) (b : Bool) → var_of l ≡ x → l.positive ≡ not b → Some b ≡ value_in ps x
    → has (lits_of ps) (negation l) ≡ true
false-lit ps x l b e p v = value-has ps (negation l) (ap (value_in ps) e ∙ sym v ∙ ap Some (sym (ap not p ∙ not-not b)))
  where
    not-not : (b : Bool) → not (not b) ≡ b
    not-not true = refl
    not-not false = refl
