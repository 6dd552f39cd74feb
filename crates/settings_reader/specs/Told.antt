-- What reading a value gives: what it means, or the first thing that is wrong. Where texts of a grammar
-- stand in the value, that is told by a relation, and the steps of reading are put together by relations.
use Rattle.std.specs.Prelude.{◌≡◌, ℕ, List, Result, Ok, Err}
use Rattle.json_readers.specs.Faults.{Reading, pointed}
use Rattle.json_readers.specs.declared.fault.Misfit.{Misfit}
use Rattle.json_readers.specs.declared.fault.Wrong.{Wrong}
use Rattle.json_readers.specs.declared.fault.Wrong.TheVariants as wrong
use Rattle.json_readers.specs.declared.fault.JsonFault.{JsonFault}
use Rattle.json_readers.specs.declared.fault.JsonFault.TheVariants as json
use Rattle.settings_reader.specs.declared.stop.Misread.{Misread}
use Rattle.settings_reader.specs.declared.stop.Stop.{Stop}
use Rattle.settings_reader.specs.declared.stop.Stop.TheVariants as stop
use Rattle.settings_reader.specs.declared.stop.What.{What}
use Rattle.settings_reader.specs.declared.stop.What.TheVariants as what

abbrev pub ToldResult : Type 0 → Type 0
ToldResult T = Result T Misread

-- which outcomes are right
abbrev pub Told : Type 0 → Type 1
Told T = ToldResult T → Type 0

-- a call returned a right outcome; want of memory may come instead
abbrev pub Tells : {T : Type 0} → Result T Stop → Told T → Type 0
Tells (Ok x) told = told (Ok x)
Tells (Err (stop.Misread m)) told = told (Err m)
Tells (Err stop.OutOfMemory) told = Unit {0}

abbrev pub misread : What → List ℕ → Misread
misread kind at = record { what = kind; at = at }

-- ---- steps

-- what follows a step: nothing more where something was wrong
abbrev pub Goes : {A B : Type 0} → ToldResult A → (A → Told B) → Told B
Goes (Ok x) next out = next x out
Goes (Err m) next out = out ≡ Err m

-- a step, and what follows it
pub record ToldThen {A B : Type 0} (first : Told A) (next : A → Told B) (out : ToldResult B) : Type 0 where
  pub step : ToldResult A
  pub told : first step
  pub goes : Goes step next out

infixl 10 ◌>>=◌
abbrev pub ◌>>=◌ : {A B : Type 0} → Told A → (A → Told B) → Told B
(first >>= next) out = ToldThen first next out

abbrev pub done : {T : Type 0} → T → Told T
done x out = out ≡ Ok x

abbrev pub halt : {T : Type 0} → Misread → Told T
halt m out = out ≡ Err m

-- ---- values without texts of a grammar: what their readers compute

abbrev pub what_of : Wrong → What
what_of wrong.UnknownKey = what.UnknownKey
what_of wrong.WrongKind = what.WrongKind
what_of wrong.Empty = what.Empty
what_of wrong.TwiceNamed = what.TwiceNamed

abbrev pub misread_of : Misfit → Misread
misread_of m = misread (what_of m.wrong) m.at

abbrev pub stop_of : JsonFault → Stop
stop_of (json.Misfit m) = stop.Misread (misread_of m)
stop_of json.OutOfMemory = stop.OutOfMemory

abbrev pub lift : {T : Type 0} → Reading T → ToldResult T
lift (Ok x) = Ok x
lift (Err m) = Err (misread_of m)

abbrev pub told_by : {T : Type 0} → Reading T → Told T
told_by reading out = out ≡ lift reading

-- ---- pointers

-- an outcome, with its pointer a step further up
abbrev pub raised : {T : Type 0} → List ℕ → ToldResult T → ToldResult T
raised key (Ok x) = Ok x
raised key (Err m) = Err (misread m.what (pointed key m.at))

-- what is read below a key, or below a place of a list
pub record Below {T : Type 0} (key : List ℕ) (told : Told T) (out : ToldResult T) : Type 0 where
  pub inner : ToldResult T
  pub right : told inner
  pub is : out ≡ raised key inner

-- the same of what a call returned
abbrev pub Raises : {T : Type 0} → List ℕ → Result T Stop → Result T Stop → Type 0
Raises key (Ok x) result = result ≡ Ok x
Raises key (Err (stop.Misread m)) result = Tells result (λ out. out ≡ Err (misread m.what (pointed key m.at)))
Raises key (Err stop.OutOfMemory) result = result ≡ Err stop.OutOfMemory
