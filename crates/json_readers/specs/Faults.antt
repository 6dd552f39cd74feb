-- What reading a value gives: what it means, or the first thing that is wrong with its pointer.
use Rattle.std.specs.Prelude.{◌≡◌, ℕ, ◌==◌, List, [], ◌∷◌, ◌++◌, if◌then◌else◌, flat_map, Option, Some, None, Result, Ok, Err}
use Rattle.std.specs.Str.{chars, encode_utf8_all}
use Rattle.json_readers.specs.declared.fault.Misfit.{Misfit}
use Rattle.json_readers.specs.declared.fault.Wrong.{Wrong}
use Rattle.json_readers.specs.declared.fault.Wrong.TheVariants.{WrongKind}
use Rattle.json_readers.specs.declared.fault.JsonFault.{JsonFault}
use Rattle.json_readers.specs.declared.fault.JsonFault.TheVariants as fault

abbrev pub Reading : Type 0 → Type 0
Reading T = Result T Misfit

infixl 10 ◌>>=◌
abbrev pub ◌>>=◌ : {A B : Type 0} → Reading A → (A → Reading B) → Reading B
(Ok x) >>= f = f x
(Err m) >>= f = Err m

-- a call returned what reading gives; want of memory may come instead
abbrev pub Gives : {T : Type 0} → Result T JsonFault → Reading T → Type 0
Gives (Ok x) reading = reading ≡ Ok x
Gives (Err (fault.Misfit m)) reading = reading ≡ Err m
Gives (Err fault.OutOfMemory) reading = Unit {0}

abbrev pub misfit : Wrong → List ℕ → Misfit
misfit wrong at = record { wrong = wrong; at = at }

-- ---- pointers

-- `~0` for `~`, and `~1` for `/`
abbrev pub escaped : ℕ → List ℕ
escaped c = if c == 126 then 126 ∷ 48 ∷ [] else (if c == 47 then 126 ∷ 49 ∷ [] else c ∷ [])

-- a pointer that goes down by a key, and then on
unfoldable pub pointed : List ℕ → List ℕ → List ℕ
pointed key rest = 47 ∷ encode_utf8_all (flat_map escaped (chars key)) ++ rest

-- what is read below a key, or below a place of a list
abbrev pub below : {T : Type 0} → List ℕ → Reading T → Reading T
below key (Ok x) = Ok x
below key (Err m) = Err (misfit m.wrong (pointed key m.at))

-- a call returned what another one did, with its pointer a step further up
abbrev pub Raises : {T : Type 0} → List ℕ → Result T JsonFault → Result T JsonFault → Type 0
Raises key (Ok x) result = result ≡ Ok x
Raises key (Err (fault.Misfit m)) result = Gives result (Err (misfit m.wrong (pointed key m.at)))
Raises key (Err fault.OutOfMemory) result = result ≡ Err fault.OutOfMemory

-- ---- values without parts

-- the value itself is not of its form
abbrev pub wrong_kind : {T : Type 0} → Reading T
wrong_kind = Err (misfit WrongKind [])

-- what a value of its form gives
abbrev pub given : {T : Type 0} → Option T → Reading T
given None = wrong_kind
given (Some x) = Ok x

-- what a call returned, seen by a function
abbrev pub seen_as : {A B : Type 0} → (A → B) → Result A JsonFault → Result B JsonFault
seen_as f (Ok x) = Ok (f x)
seen_as f (Err e) = Err e
