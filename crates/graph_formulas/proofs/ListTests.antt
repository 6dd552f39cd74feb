-- What tests say of some and of all of a list.
use Rattle.std.proofs.Common.{◌≡◌, refl, sym, ap, ◌∙◌, Bool, true, false, not, ◌||◌, ◌&&◌, List, [], ◌∷◌, filter, inl, inr}
use Rattle.std.specs.List.{list_any, list_all}
use Rattle.std.specs.Str.{bytes_eq}
use Rattle.std.proofs.lemmas.Bool.{cases_Bool}
use Rattle.graph_core.specs.Graphs.{Text}
use Rattle.condition_rules.specs.Words.{is_one_text}
use Rattle.graph_rules.proofs.Lists.{bytes_eq-same}

-- some of those that pass
pub any-filter : {T : Type 0} (test f : T → Bool) (xs : List T) → list_any test (filter f xs) ≡ list_any (λ x. test x && f x) xs
any-filter test f [] = refl
any-filter test f (x ∷ xs) = elim (cases_Bool (f x)) [
  | inl t ↦ rw (t, any-filter test f xs) (ap (λ b. b || list_any (λ x. test x && f x) xs) (and-true (test x)))
  | inr n ↦ rw (n, any-filter test f xs) (ap (λ b. b || list_any (λ x. test x && f x) xs) (and-false (test x)))
]
  where
    and-true : (a : Bool) → a ≡ (a && true)
    and-true true = refl
    and-true false = refl

    and-false : (a : Bool) → false ≡ (a && false)
    and-false true = refl
    and-false false = refl

-- tests that agree
pub any-same : {T : Type 0} (f g : T → Bool) → ((x : T) → f x ≡ g x) → (xs : List T) → list_any f xs ≡ list_any g xs
any-same f g same [] = refl
any-same f g same (x ∷ xs) = rw (same x, any-same f g same xs) refl

-- what a test passes that a weaker one passes first
pub any-narrowed : {T : Type 0} (test f : T → Bool) → ((x : T) → test x ≡ true → f x ≡ true) → (xs : List T)
    → list_any test (filter f xs) ≡ list_any test xs
any-narrowed test f weaker [] = refl
any-narrowed test f weaker (x ∷ xs) = elim (cases_Bool (f x)) [
  | inl t ↦ rw (t, any-narrowed test f weaker xs) refl
  | inr n ↦ rw (n, any-narrowed test f weaker xs) (ap (λ b. b || list_any test xs) (sym (fails (test x) (weaker x) n)))
]
  where
    fails : (b : Bool) → (b ≡ true → f x ≡ true) → f x ≡ false → b ≡ false
    fails true k n = sym (k refl) ∙ n
    fails false k n = refl

-- a test of all under what does not depend on them
pub any-and : {T : Type 0} (b : Bool) (test : T → Bool) (xs : List T) → list_any (λ x. b && test x) xs ≡ (b && list_any test xs)
any-and true test xs = refl
any-and false test [] = refl
any-and false test (x ∷ xs) = any-and false test xs

-- of a list of names, the one that is this
pub all-picked : (f : Text → Bool) (p : Text) (names : List Text)
    → list_all (λ n. not (bytes_eq p n) || f n) names ≡ (not (is_one_text names p) || f p)
all-picked f p [] = refl
all-picked f p (n ∷ names) = elim (cases_Bool (bytes_eq p n)) [
  | inl same ↦ rw (same, all-picked f p names, ← bytes_eq-same p n same) (absorb (f p) (is_one_text names p))
  | inr other ↦ rw (other, all-picked f p names) refl
]
  where
    absorb : (a b : Bool) → (a && (not b || a)) ≡ a
    absorb true true = refl
    absorb true false = refl
    absorb false b = refl

-- nothing is asked of the elements
pub all-true : {T : Type 0} (xs : List T) → list_all (λ x. true) xs ≡ true
all-true [] = refl
all-true (x ∷ xs) = all-true xs
