-- Outcomes of steps that gave a value.
use Rattle.std.proofs.Common.{◌≡◌, sym, ap, subst, ℕ, List, Result, Ok, Err}
use Rattle.json_readers.specs.Faults.{Reading}
use Rattle.settings_reader.specs.Told.{ToldResult, Told, ToldThen, Goes, Below, raised, told_by}

-- ---- outcomes

-- a value is that of the outcome
pub ok_same : {T E : Type 0} (x y : T) → (let l : Result T E = Ok x in let r : Result T E = Ok y in l ≡ r) → x ≡ y
ok_same x y e = cc

-- an outcome is no value and a fault
pub ok_no : {T E : Type 0} (x : T) (m : E) → (let l : Result T E = Ok x in let r : Result T E = Err m in l ≡ r) → ⊥
ok_no x m e = cc

-- ---- steps that gave a value

-- both steps gave a value
abbrev pub Gave : {A B : Type 0} → Told A → (A → Told B) → B → Type 0
Gave {A = A} first next y = (x : A) × first (Ok x) × next x (Ok y)

goes_ok : {A B : Type 0} (first : Told A) (next : A → Told B) (y : B) (step : ToldResult A) → first step → Goes step next (Ok y)
    → Gave first next y
goes_ok first next y (Ok x) told goes = (x, told, goes)
goes_ok first next y (Err m) told goes = absurd (ok_no y m goes)

-- two steps that gave a value did so each
pub then_ok : {A B : Type 0} (first : Told A) (next : A → Told B) (y : B) → ToldThen first next (Ok y) → Gave first next y
then_ok first next y h = goes_ok first next y h.step h.told h.goes

raised_ok : {T : Type 0} (key : List ℕ) (told : Told T) (x : T) (inner : ToldResult T) → told inner → Ok x ≡ raised key inner → told (Ok x)
raised_ok key told x (Ok y) right is = subst (λ z. told (Ok z)) (sym (ok_same x y is)) right
raised_ok key told x (Err m) right is = absurd (ok_no x _ is)

-- a value that was told below a key
pub below_ok : {T : Type 0} (key : List ℕ) (told : Told T) (x : T) → Below key told (Ok x) → told (Ok x)
below_ok key told x h = raised_ok key told x h.inner h.right h.is

-- a value that was told of a reading
pub said_ok : {T : Type 0} (reading : Reading T) (x : T) → told_by reading (Ok x) → reading ≡ Ok x
said_ok (Ok y) x h = ap Ok (sym (ok_same x y h))
said_ok (Err m) x h = absurd (ok_no x _ h)
