-- The first element of a list that passes a test, as a loop from its front looks for it; and which literals are open.
use Rattle.std.proofs.Common.{◌≡◌, ℕ, zero, suc, ◌+◌, ◌<◌, ◌≤◌, Bool, true, false, ◌&&◌, not, cond, List, [], ◌∷◌, length, get_or, drop, Option, Some, None, refl, ap, ◌∙◌, arith}
use Rattle.std.specs.Prelude.{IfSome, nat_lt}
use Rattle.std.specs.List.{find}
use Rattle.std.specs.Option.{option_map}
use Rattle.std.proofs.lemmas.Bool.{lt-ltb, le-ltb}
use Rattle.std.proofs.lemmas.Option.{none-some}
use Rattle.clause_store.specs.declared.Lit.{Lit}
use Rattle.clause_store.specs.Lits.{var_of, negation}
use Rattle.proof_log.specs.Known.{has_var}
use Rattle.clause_watch.specs.declared.trail.Placed.{Placed}
use Rattle.clause_watch.specs.Trails.{lits_of}
use Rattle.clause_solver.specs.Models.{is_open}

-- the search from a place looks at the element there first
find-from : {A : Type 0} (p : A → Bool) (xs : List A) (i : ℕ) (d : A) → i < length xs
    → find p (drop i xs) ≡ cond (p (get_or xs i d)) (Some (get_or xs i d)) (find p (drop (suc i) xs))
find-from p [] i d h = absurd (omega arith)
find-from p (x ∷ xs) zero d h = refl
find-from p (x ∷ xs) (suc i) d h = find-from p xs i d (omega arith)

-- the element at a place passes, and none before it did
pub find-here : {A : Type 0} (p : A → Bool) (xs : List A) (i : ℕ) (d : A) → i < length xs → find p xs ≡ find p (drop i xs)
    → p (get_or xs i d) ≡ true → find p xs ≡ Some (get_or xs i d)
find-here p xs i d h e t = e ∙ find-from p xs i d h ∙ ap (λ b. cond b (Some (get_or xs i d)) (find p (drop (suc i) xs))) t

-- it does not either
pub find-on : {A : Type 0} (p : A → Bool) (xs : List A) (i : ℕ) (d : A) → i < length xs → find p xs ≡ find p (drop i xs)
    → p (get_or xs i d) ≡ false → find p xs ≡ find p (drop (i + 1) xs)
find-on p xs i d h e f =
    let s : suc i ≡ i + 1 = omega arith in
    e ∙ find-from p xs i d h ∙ ap (λ b. cond b (Some (get_or xs i d)) (find p (drop (suc i) xs))) f ∙ ap (λ k. find p (drop k xs)) s

-- none does
pub find-none : {A : Type 0} (p : A → Bool) (xs : List A) (i : ℕ) → length xs ≤ i → find p xs ≡ find p (drop i xs) → find p xs ≡ None
find-none {A = A} p xs i h e = e ∙ past xs i h
  where
    past : (ys : List A) (k : ℕ) → length ys ≤ k → find p (drop k ys) ≡ None
    past [] zero h = refl
    past [] (suc k) h = refl
    past (y ∷ ys) zero h = absurd (omega arith)
    past (y ∷ ys) (suc k) h = past ys k (omega arith)

and-false : (b : Bool) → (b && false) ≡ false
and-false true = refl
and-false false = refl

-- a literal over the variables without value is open
pub open-free : (ps : List Placed) (vars : ℕ) (l : Lit) → var_of l < vars → has_var (lits_of ps) (var_of l) ≡ false
    → is_open ps vars l ≡ true
open-free ps vars l h e =
    ap (λ b. b && not (has_var (lits_of ps) (var_of l))) (lt-ltb (var_of l) vars h) ∙ ap (λ b. true && not b) e

-- one with a value is not
pub open-given : (ps : List Placed) (vars : ℕ) (l : Lit) → has_var (lits_of ps) (var_of l) ≡ true → is_open ps vars l ≡ false
open-given ps vars l e = ap (λ b. nat_lt (var_of l) vars && not b) e ∙ and-false (nat_lt (var_of l) vars)

-- nor is one beyond the variables
pub open-over : (ps : List Placed) (vars : ℕ) (l : Lit) → vars ≤ var_of l → is_open ps vars l ≡ false
open-over ps vars l h = ap (λ b. b && not (has_var (lits_of ps) (var_of l))) (le-ltb (var_of l) vars h)

-- what is found is decided at its negation
pub first-some : (o r : Option Lit) → r ≡ option_map negation o → IfSome o (λ l. r ≡ Some (negation l))
first-some None r e = tt
first-some (Some l) r e = e

pub first-none : (o r : Option Lit) → None ≡ option_map negation o → IfSome o (λ l. r ≡ Some (negation l))
first-none None r e = tt
first-none (Some l) r e = absurd (none-some (negation l) e)
