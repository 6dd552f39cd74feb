-- What is read: a value, or the place at which something starts that is not read.
use Rattle.std.specs.Prelude.{◌≡◌, ℕ, List, ◌++◌, Result, Ok, Err}
use Rattle.recipe_values.specs.declared.fault.ValueFault.{ValueFault}
use Rattle.recipe_values.specs.declared.fault.ValueFault.TheVariants.{Unsupported, OutOfMemory}

abbrev pub Read : Type 0 → Type 0
Read A = Result A ℕ

abbrev pub then_read : {A B : Type 0} → Read A → (A → Read B) → Read B
then_read (Ok a) f = f a
then_read (Err place) f = Err place

-- one list behind another; the first fault counts
abbrev pub join : {A : Type 0} → Read (List A) → Read (List A) → Read (List A)
join (Ok a) (Ok b) = Ok (a ++ b)
join (Ok a) (Err place) = Err place
join (Err place) b = Err place

-- the fault of what is not read
abbrev pub Fails : {A : Type 0} → ValueFault → Read A → Type 0
Fails (Unsupported place) read = read ≡ Err place
Fails OutOfMemory read = Unit {0}

-- what a reader that adds to a list answers and leaves
abbrev pub Gives : {A : Type 0} → Read (Unit {0}) → List A → Read (List A) → Type 0
Gives (Ok done) new read = read ≡ Ok new
Gives (Err place) new read = read ≡ Err place

-- what is added to a list
abbrev pub Adds : {A : Type 0} → Read (Unit {0}) → List A → List A → Read (List A) → Type 0
Adds read old new part = Gives read new (join (Ok old) part)
