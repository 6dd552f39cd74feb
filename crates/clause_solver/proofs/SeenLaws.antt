-- Marks on a table.
use Rattle.std.proofs.Common.{◌≡◌, ℕ, zero, suc, ◌+◌, ◌<◌, ◌≤◌, Bool, true, false, ◌||◌, eqb, List, [], ◌∷◌, ◌++◌, length, get_or, take, drop, set, replicate, Some, inl, inr, refl, sym, ap, ◌∙◌, subst, arith}
use Rattle.std.specs.Prelude.{slice_get}
use Rattle.std.proofs.lemmas.Bool.{cases_eq, cases_lt, eq-eqb, ne_eqb}
use Rattle.std.proofs.lemmas.List.{get_or-set_same, get_or-set_other, take_more, take_all, drop_more}
use Rattle.std.proofs.lemmas.Option.{same_Some}
use Rattle.clause_store.specs.declared.Lit.{Lit}
use Rattle.clause_store.specs.Lits.{var_of, AllBelow}
use Rattle.proof_log.specs.Known.{has_var}
use Rattle.clause_watch.specs.declared.trail.Placed.{Placed}
use Rattle.clause_watch.specs.Trails.{lits_of}
use Rattle.clause_solver.specs.Seen.{seen_at, AreSeen, AreClear, NoneSeen, IsVarAt}

or-false : (b : Bool) → b ≡ (b || false)
or-false true = refl
or-false false = refl

pub has_var-push : (ls : List Lit) (l : Lit) (x : ℕ) → has_var (ls ++ l ∷ []) x ≡ (has_var ls x || eqb (var_of l) x)
has_var-push [] l x = sym (or-false (eqb (var_of l) x))
has_var-push (k ∷ ls) l x = ap (λ b. eqb (var_of k) x || b) (has_var-push ls l x)
    ∙ or-assoc (eqb (var_of k) x) (has_var ls x) (eqb (var_of l) x)
  where
    or-assoc : (a b c : Bool) → (a || (b || c)) ≡ ((a || b) || c)
    or-assoc true b c = refl
    or-assoc false b c = refl

-- a table of truth values that one more variable changes
module _ (ls : List Lit) (i : ℕ) (d : Lit) (new : List Bool) (h : i < length ls) (b : var_of (get_or ls i d) < length new) where
  abbrev l : Lit
  l = get_or ls i d

  front : (x : ℕ) → has_var (take (i + 1) ls) x ≡ (has_var (take i ls) x || eqb (var_of l) x)
  front x = ap (λ ms. has_var ms x) (take_more ls i d h) ∙ has_var-push (take i ls) l x

  -- one more variable of a clause is seen
  pub AreSeen-more : (old : List Bool) → AreSeen old new (take i ls) → AreSeen old (set new (var_of l) true) (take (i + 1) ls)
  AreSeen-more old a x =
      elim (cases_eq (var_of l) x) [
        | inl e ↦ subst (λ y. seen_at (set new (var_of l) true) y ≡ (seen_at old y || has_var (take (i + 1) ls) y)) e
            (get_or-set_same new (var_of l) true false b
            ∙ sym (rw (front (var_of l), eq-eqb (var_of l) (var_of l) refl)
            (two-true (seen_at old (var_of l)) (has_var (take i ls) (var_of l)))))
        | inr ne ↦ get_or-set_other new (var_of l) x true false (λ e. ne (sym e)) ∙ a x
            ∙ sym (rw (front x, ne_eqb (var_of l) x ne) (ap (λ c. seen_at old x || c) (sym (or-false (has_var (take i ls) x)))))
      ]
    where
      two-true : (a b : Bool) → (a || (b || true)) ≡ true
      two-true true b = refl
      two-true false true = refl
      two-true false false = refl

pub AreSeen-none : (seen : List Bool) → AreSeen seen seen []
AreSeen-none seen x = or-false (seen_at seen x)

-- all variables of a clause that was gone over are seen
pub AreSeen-all : (old new : List Bool) (ls : List Lit) (i : ℕ) → length ls ≤ i → AreSeen old new (take i ls) → AreSeen old new ls
AreSeen-all old new ls i h a = subst (AreSeen old new) (take_all i ls h) a

pub AllBelow-head : (n i : ℕ) (ls : List Lit) (d : Lit) → i < length ls → AllBelow n (drop i ls) → var_of (get_or ls i d) < n
AllBelow-head n i ls d h b = (subst (AllBelow n) (drop_more ls i d h) b).0

pub AllBelow-next : (n i : ℕ) (ls : List Lit) (d : Lit) → i < length ls → AllBelow n (drop i ls) → AllBelow n (drop (i + 1) ls)
AllBelow-next n i ls d h b = (subst (AllBelow n) (drop_more ls i d h) b).1

-- a literal, where any will do
abbrev pub some_lit : Lit
some_lit = record { var = record { 0 = 0 }; positive = false }

-- nothing is seen where the walk down has passed
pub NoneSeen-more : (m : ℕ → Bool) (ps : List Placed) (at end : ℕ) (p : Placed) → slice_get ps at ≡ Some p → m (var_of p.lit) ≡ false
    → NoneSeen m ps (at + 1) end → NoneSeen m ps at end
NoneSeen-more m ps at end p e f h k q lo hi g =
    elim (cases_lt at k) [
      | inl lt ↦ h k q (omega arith) hi g
      | inr ge ↦ let same : k ≡ at = omega arith in
          subst (λ (r : Placed). m (var_of r.lit) ≡ false) (same_Some p q (sym e ∙ ap (slice_get ps) (sym same) ∙ g)) f
    ]

-- the variable of a place, as the trail's literals have it
pub var-at : (ps : List Placed) (k x : ℕ) (d : Lit) → k < length ps → x ≡ var_of (get_or (lits_of ps) k d) → IsVarAt ps k x
var-at [] k x d h e = absurd (omega (arith, h))
var-at (p ∷ ps) zero x d h e = (p, refl, e)
var-at (p ∷ ps) (suc k) x d h e = var-at ps k x d (omega (arith, h)) e

-- a table of false has none seen
pub clear-replicate : (n : ℕ) → AreClear (replicate n false)
clear-replicate zero x = refl
clear-replicate (suc n) zero = refl
clear-replicate (suc n) (suc x) = clear-replicate n x
