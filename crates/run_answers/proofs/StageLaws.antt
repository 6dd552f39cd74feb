-- Stages of reading, one after the other.
use Rattle.std.proofs.Common.{◌≡◌, refl, sym, ap, ◌∙◌, subst, Result, Ok, Err, inl, inr}
use Rattle.std.specs.Result.{IsErrAnd}
use Rattle.run_answers.specs.Stages.{Is, Then, ◌>>=◌}
use Rattle.run_answers.specs.Stops.{Gives}
use Rattle.run_answers.specs.declared.refusal.Refusal.{Refusal}
use Rattle.run_answers.specs.declared.stop.ReadStop.{ReadStop}
use Rattle.run_answers.specs.declared.stop.ReadStop.TheVariants.{Refused, Fault, NoMemory}

-- a stop that was handed on
pub carried : {T : Type 0} (stop : ReadStop) (result : Result T ReadStop) → IsErrAnd result (λ given. given ≡ stop) → result ≡ Err stop
carried stop (Ok x) h = absurd h
carried stop (Err given) h = ap Err h

-- the first stage stops
pub then_stop : {A B : Type 0} (first : Result A Refusal → Type 0) (next : A → Result B Refusal → Type 0) (stop : ReadStop)
    → Gives {T = A} (Err stop) first → Gives {T = B} (Err stop) (Then first next)
then_stop first next (Refused refusal) h = inl h
then_stop first next (Fault path) h = tt
then_stop first next NoMemory h = tt

-- the first stage gives something, and the second is as it is
pub then_gives : {A B : Type 0} (first : Result A Refusal → Type 0) (next : A → Result B Refusal → Type 0) (x : A)
    (result : Result B ReadStop) → first (Ok x) → Gives result (next x) → Gives result (Then first next)
then_gives first next x (Ok y) h g = (x, h, g)
then_gives first next x (Err (Refused refusal)) h g = inr (x, h, g)
then_gives first next x (Err (Fault path)) h g = tt
then_gives first next x (Err NoMemory) h g = tt

-- ---- one answer at most

abbrev pub IsOne : {A : Type 0} → (Result A Refusal → Type 0) → Type 0
IsOne {A} R = (a b : Result A Refusal) → R a → R b → a ≡ b

-- a computation gives one answer
pub one_is : {A : Type 0} (given : Result A Refusal) → IsOne (Is given)
one_is given a b x y = x ∙ sym y

-- an answer is one value, and no refusal; a refusal is one
pub ok_same : {A : Type 0} (x y : A) → (let T : Type 0 = Result A Refusal in let a : T = Ok x in let b : T = Ok y in a ≡ b) → x ≡ y
ok_same x y e = cc

-- no answer is a refusal
pub ok_not_err : {A B : Type 0} (x : A) (e : Refusal)
    → (let T : Type 0 = Result A Refusal in let a : T = Ok x in let b : T = Err e in a ≡ b) → B
ok_not_err x e same = absurd cc

-- and so do two stages of which each has one answer
pub one_then : {A B : Type 0} (first : Result A Refusal → Type 0) (next : A → Result B Refusal → Type 0) → IsOne first
    → ((x : A) → IsOne (next x)) → IsOne (Then first next)
one_then first next f n (Ok a) (Ok b) (x, p, q) (y, r, s) =
    n y (Ok a) (Ok b) (subst (λ z. next z (Ok a)) (ok_same x y (f (Ok x) (Ok y) p r)) q) s
one_then first next f n (Ok a) (Err b) (x, p, q) (inl r) = ok_not_err x b (f (Ok x) (Err b) p r)
one_then first next f n (Ok a) (Err b) (x, p, q) (inr (y, r, s)) =
    n y (Ok a) (Err b) (subst (λ z. next z (Ok a)) (ok_same x y (f (Ok x) (Ok y) p r)) q) s
one_then first next f n (Err a) (Ok b) (inl p) (y, r, s) = ok_not_err y a (f (Ok y) (Err a) r p)
one_then first next f n (Err a) (Ok b) (inr (x, p, q)) (y, r, s) =
    n y (Err a) (Ok b) (subst (λ z. next z (Err a)) (ok_same x y (f (Ok x) (Ok y) p r)) q) s
one_then first next f n (Err a) (Err b) (inl p) (inl r) = let e = f (Err a) (Err b) p r in cc
one_then first next f n (Err a) (Err b) (inl p) (inr (y, r, s)) = ok_not_err y a (f (Ok y) (Err a) r p)
one_then first next f n (Err a) (Err b) (inr (x, p, q)) (inl r) = ok_not_err x b (f (Ok x) (Err b) p r)
one_then first next f n (Err a) (Err b) (inr (x, p, q)) (inr (y, r, s)) =
    n y (Err a) (Err b) (subst (λ z. next z (Err a)) (ok_same x y (f (Ok x) (Ok y) p r)) q) s

-- ---- computations

-- a chain of stages that answers
pub then_ok : {A B : Type 0} (first : Result A Refusal) (next : A → Result B Refusal) (y : B) → (first >>= next) ≡ Ok y → (x : A)
    × (first ≡ Ok x) × (next x ≡ Ok y)
then_ok (Ok x) next y e = (x, refl, e)
then_ok (Err refusal) next y e = ok_not_err y refusal (sym e)
