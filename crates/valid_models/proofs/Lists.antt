-- What formulas and tests say of lists.
use Rattle.std.proofs.Common.{◌≡◌, refl, ◌∙◌, Bool, true, false, ◌&&◌, ℕ, List, [], ◌∷◌, map}
use Rattle.std.specs.Prelude.{if◌then◌else◌, filter}
use Rattle.std.specs.List.{list_all}
use Rattle.std.proofs.lemmas.Bool.{and_parts, and_from}
use Rattle.clause_formulas.specs.Statements.{Statement, eval, all_statements, any_statement, all_eval, SaidBelow}
use Rattle.clause_formulas.proofs.Words.{eval-all_of}

-- a formula of a list says each
pub all-said : {X : Type 0} (v : ℕ → Bool) (f : X → Statement) (xs : List X)
    → eval v (all_statements (map f xs)) ≡ list_all (λ x. eval v (f x)) xs
all-said v f xs = eval-all_of v (map f xs) ∙ all-said-cases xs
  where
    all-said-cases : (xs : List _) → all_eval v (map f xs) ≡ list_all (λ x. eval v (f x)) xs
    all-said-cases [] = refl
    all-said-cases (x ∷ xs) = rw (all-said-cases xs) refl

-- what two tests say of a list
pub all-alike : {X : Type 0} (p q test : X → Bool) → ((x : X) → test x ≡ true → p x ≡ q x) → (xs : List X) → list_all test xs ≡ true
    → list_all p xs ≡ list_all q xs
all-alike p q test same [] e = refl
all-alike p q test same (x ∷ xs) e = let h = and_parts (test x) (list_all test xs) e in rw (same x h.0, all-alike p q test same xs h.1) refl

-- what passes a test passes a weaker one
pub all-from : {X : Type 0} (p q : X → Bool) → ((x : X) → p x ≡ true → q x ≡ true) → (xs : List X) → list_all p xs ≡ true
    → list_all q xs ≡ true
all-from p q h [] e = refl
all-from p q h (x ∷ xs) e = let a = and_parts (p x) (list_all p xs) e in and_from (q x) _ (h x a.0) (all-from p q h xs a.1)

-- a list of formulas over so many variables
pub listed-below : {X : Type 0} (m : ℕ) (f : X → Statement) → ((x : X) → SaidBelow m (f x)) → (xs : List X)
    → SaidBelow m (any_statement (map f xs))
listed-below m f h [] = tt
listed-below m f h (x ∷ xs) = (h x, listed-below m f h xs)

-- a test of the filtered
pub all-filtered : {X : Type 0} (p q : X → Bool) (xs : List X) → list_all p xs ≡ true → list_all p (filter q xs) ≡ true
all-filtered p q [] e = refl
all-filtered p q (x ∷ xs) e = let h = and_parts (p x) (list_all p xs) e in all-filtered-cases (q x) h.0 (all-filtered p q xs h.1)
  where
    all-filtered-cases : (b : Bool) → p x ≡ true → list_all p (filter q xs) ≡ true
        → list_all p (if b then x ∷ filter q xs else filter q xs) ≡ true
    all-filtered-cases true a rest = and_from (p x) _ a rest
    all-filtered-cases false a rest = rest

-- of both of two lists that are tested
pub both-all : {X : Type 0} (p q : X → Bool) (xs : List X) → list_all p xs ≡ true → list_all q xs ≡ true
    → list_all (λ x. p x && q x) xs ≡ true
both-all p q [] e f = refl
both-all p q (x ∷ xs) e f =
    let a = and_parts (p x) (list_all p xs) e in
    let b = and_parts (q x) (list_all q xs) f in
    and_from (p x && q x) _ (and_from (p x) (q x) a.0 b.0) (both-all p q xs a.1 b.1)
