-- Steps that keep what holds, and lists.
use Rattle.std.proofs.Common.{◌≡◌, ℕ, Bool, true, List, [], ◌∷◌, ◌++◌, map, take, refl, zero, suc}
use Rattle.std.specs.Prelude.{Result, Ok, Err, IfOk, IfSome}
use Rattle.std.specs.List.{list_all, AllByRecursion, slice_get}
use Rattle.std.proofs.lemmas.Bool.{and_from}
use Rattle.directive_arguments.specs.Results.{then_do, steps}

-- ---- steps

-- what two steps lead to, by what the first leads to
pub ok_then : {A B E : Type 0} (P : A → Type 0) (Q : B → Type 0) (a : Result A E) (f : A → Result B E) → IfOk a P
    → ((x : A) → P x → IfOk (f x) Q) → IfOk (then_do a f) Q
ok_then P Q (Ok x) f p q = q x p
ok_then P Q (Err e) f p q = tt

-- what two steps lead to, whatever the first leads to
pub any_then : {A B E : Type 0} (Q : B → Type 0) (a : Result A E) (f : A → Result B E) → ((x : A) → IfOk (f x) Q) → IfOk (then_do a f) Q
any_then Q (Ok x) f q = q x
any_then Q (Err e) f q = tt

-- what leads to two things leads to both
pub ok_both : {A E : Type 0} (P Q : A → Type 0) (a : Result A E) → IfOk a P → IfOk a Q → IfOk a (λ x. P x × Q x)
ok_both P Q (Ok x) p q = (p, q)
ok_both P Q (Err e) p q = tt

-- what each step keeps all steps keep
pub steps_keep : {X S E : Type 0} (P : S → Type 0) (f : X → S → Result S E) → ((x : X) (s : S) → P s → IfOk (f x s) P)
    → (xs : List X) (s : S) → P s → IfOk (steps f xs s) P
steps_keep P f keep [] s p = p
steps_keep P f keep (x ∷ xs) s p = ok_then P P (f x s) (steps f xs) (keep x s p) (λ t q. steps_keep P f keep xs t q)

-- ---- lists

-- what holds of all of two lists holds of both together
pub all_append : {X : Type 0} (P : X → Type 0) (xs ys : List X) → AllByRecursion P xs → AllByRecursion P ys → AllByRecursion P (xs ++ ys)
all_append P [] ys p q = q
all_append P (x ∷ xs) ys p q = (p.0, all_append P xs ys p.1 q)

-- what holds of all and of one more holds of them together
pub all_push : {X : Type 0} (P : X → Type 0) (xs : List X) (x : X) → AllByRecursion P xs → P x → AllByRecursion P (xs ++ x ∷ [])
all_push P xs x p q = all_append P xs (x ∷ []) p (q, tt)

-- what holds of all holds of the first of them
pub all_take : {X : Type 0} (P : X → Type 0) (n : ℕ) (xs : List X) → AllByRecursion P xs → AllByRecursion P (take n xs)
all_take P zero xs p = tt
all_take P (suc n) [] p = tt
all_take P (suc n) (x ∷ xs) p = (p.0, all_take P n xs p.1)

-- what holds of all holds at each place
pub all_at : {X : Type 0} (P : X → Type 0) (xs : List X) (i : ℕ) → AllByRecursion P xs → IfSome (slice_get xs i) P
all_at P [] i p = tt
all_at P (x ∷ xs) zero p = p.0
all_at P (x ∷ xs) (suc i) p = all_at P xs i p.1

-- what holds of all, weakened
pub all_weaker : {X : Type 0} (P Q : X → Type 0) → ((x : X) → P x → Q x) → (xs : List X) → AllByRecursion P xs → AllByRecursion Q xs
all_weaker P Q f [] p = tt
all_weaker P Q f (x ∷ xs) p = (f x p.0, all_weaker P Q f xs p.1)

-- what holds of all images, by what holds of all
pub all_map : {X Y : Type 0} (P : X → Type 0) (Q : Y → Type 0) (f : X → Y) → ((x : X) → P x → Q (f x)) → (xs : List X) → AllByRecursion P xs
    → AllByRecursion Q (map f xs)
all_map P Q f p [] h = tt
all_map P Q f p (x ∷ xs) h = (p x h.0, all_map P Q f p xs h.1)

-- a test that each passes is passed by all
pub list_all_is : {X : Type 0} (test : X → Bool) (xs : List X) → AllByRecursion (λ x. test x ≡ true) xs → list_all test xs ≡ true
list_all_is test [] p = refl
list_all_is test (x ∷ xs) p = and_from (test x) (list_all test xs) p.0 (list_all_is test xs p.1)
