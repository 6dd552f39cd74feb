-- Each step of reading settings has an outcome, and so have steps one after another.
use Rattle.std.proofs.Common.{refl, ℕ, List, [], ◌∷◌, Ok, Err, Option, Some, None}
use Rattle.serde_json.specs.Data.{Data, Members}
use Rattle.serde_json.specs.Find.{as_array, get_member}
use Rattle.json_readers.specs.Faults.{Reading, given}
use Rattle.settings_reader.specs.Told.{ToldResult, Told, Goes, ToldThen, Below, done, told_by, lift, raised}
use Rattle.settings_reader.specs.Parsed.{AreEach, IsListAt, IsListOf, IsOptional, items_at}

-- some outcome is right
abbrev pub Some-told : {T : Type 0} → Told T → Type 0
Some-told {T} told = (out : ToldResult T) × told out

goes_on : {A B : Type 0} (next : A → Told B) (step : ToldResult A) → ((x : A) → Some-told (next x))
    → (out : ToldResult B) × Goes step next out
goes_on next (Ok x) more = more x
goes_on next (Err m) more = (Err m, refl)

pub then_some : {A B : Type 0} (first : Told A) (next : A → Told B) → Some-told first → ((x : A) → Some-told (next x))
    → (out : ToldResult B) × ToldThen first next out
then_some first next some more =
    let rest = goes_on next some.0 more in (rest.0, record { step = some.0; told = some.1; goes = rest.1 })

pub computed : {T : Type 0} (reading : Reading T) → Some-told (told_by reading)
computed reading = (lift reading, refl)

pub is_done : {T : Type 0} (x : T) → Some-told (done x)
is_done x = (Ok x, refl)

pub below_some : {T : Type 0} (key : List ℕ) (told : Told T) → Some-told told → Some-told (Below key told)
below_some key told some = (raised key some.0, record { inner = some.0; right = some.1; is = refl })

-- ---- lists

pub each_some : {T V : Type 0} (tells : List ℕ → V → Told T) → ((key : List ℕ) (v : V) → Some-told (tells key v)) → (vs : List (List ℕ × V))
    → Some-told (AreEach tells vs)
each_some tells some [] = is_done []
each_some tells some (v ∷ vs) =
    then_some (Below v.0 (tells v.0 v.1)) _ (below_some v.0 (tells v.0 v.1) (some v.0 v.1)) (λ x.
    then_some (AreEach tells vs) _ (each_some tells some vs) (λ xs. is_done (x ∷ xs)))

pub list_some : {T : Type 0} (tells : Data → Told T) → ((d : Data) → Some-told (tells d)) → (d : Data) → Some-told (IsListOf tells d)
list_some tells some d =
    then_some (told_by (given (as_array d))) _ (computed (given (as_array d)))
    (λ ds. each_some (λ key. tells) (λ key. some) (items_at 0 ds))

pub optional_some : {T : Type 0} (tells : Data → Told (List T)) → ((d : Data) → Some-told (tells d)) → (o : Option Data)
    → Some-told (IsOptional tells o)
optional_some tells some None = is_done []
optional_some tells some (Some d) = some d

pub list_at_some : {T : Type 0} (tells : Data → Told T) → ((d : Data) → Some-told (tells d)) → (key : List ℕ) (ms : Members)
    → Some-told (IsListAt tells key ms)
list_at_some tells some key ms =
    below_some key (IsOptional (IsListOf tells) (get_member key ms))
    (optional_some (IsListOf tells) (list_some tells some) (get_member key ms))
