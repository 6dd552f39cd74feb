-- Lists.
use Rattle.std.specs.Prelude.{ℕ, ◌+◌, List, [], ◌∷◌, ◌++◌, if◌then◌else◌, decimal, Option, Some, None, Ok, Err}
use Rattle.std.specs.List.{list_any}
use Rattle.std.specs.Ordering.{is_eq}
use Rattle.std.specs.declared.cmp.Ordering.{Ordering}
use Rattle.serde_json.specs.Data.{Data, Items, no_items, item}
use Rattle.serde_json.specs.Find.{as_array}
use Rattle.json_readers.specs.Faults.{Reading, ◌>>=◌, below, given, misfit, pointed}
use Rattle.json_readers.specs.declared.fault.Wrong.TheVariants.{Empty, TwiceNamed}

abbrev pub and_then : {T : Type 0} → T → Reading (List T) → Reading (List T)
and_then x rest = rest >>= λ xs. Ok (x ∷ xs)

-- the items one after another, from a place on
abbrev pub items_from : {T : Type 0} → (Data → Reading T) → ℕ → Items → Reading (List T)
items_from read i no_items = Ok []
items_from read i (item d ds) = below (decimal i) (read d) >>= λ x. and_then x (items_from read (i + 1) ds)

-- a list whose items are read so
abbrev pub list_of : {T : Type 0} → (Data → Reading T) → Data → Reading (List T)
list_of read d = given (as_array d) >>= items_from read 0

-- at least one
abbrev pub not_empty : {T : Type 0} → List T → Reading (Unit {0})
not_empty [] = Err (misfit Empty [])
not_empty (x ∷ xs) = Ok tt

-- the place of the first that is equal to one before it
abbrev pub twice_after : {K : Type 0} → (K → K → Ordering) → List K → ℕ → List K → Option ℕ
twice_after cmp before i [] = None
twice_after cmp before i (x ∷ xs) = if list_any (λ b. is_eq (cmp b x)) before then Some i else twice_after cmp (x ∷ before) (i + 1) xs

abbrev pub unless_twice : Option ℕ → Reading (Unit {0})
unless_twice None = Ok tt
unless_twice (Some i) = Err (misfit TwiceNamed (pointed (decimal i) []))

-- none is equal to one before it
abbrev pub distinct : {K : Type 0} → (K → K → Ordering) → List K → Reading (Unit {0})
distinct cmp xs = unless_twice (twice_after cmp [] 0 xs)

-- what is read after some that were read
abbrev pub after : {T : Type 0} → List T → Reading (List T) → Reading (List T)
after xs rest = rest >>= λ ys. Ok (xs ++ ys)
