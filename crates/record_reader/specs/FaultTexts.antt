-- The texts of faults: the fault's name, and its fields with one space before each.
use Rattle.std.specs.Prelude.{ℕ, List, ◌++◌, codes}
use Rattle.reuse_db.specs.declared.fault.DbFault.{DbFault}
use Rattle.reuse_db.specs.declared.fault.DbFault.TheVariants.{NotJson, WrongKind, HashDiffers, TwiceHash, Dangling, OutOfMemory}

-- a name with a text
abbrev pub name_and_text : List ℕ → List ℕ → List ℕ
name_and_text name text = name ++ (codes " " ++ text)

-- a name with two texts
abbrev pub two_texts : List ℕ → List ℕ → List ℕ → List ℕ
two_texts name first second = name ++ (codes " " ++ (first ++ (codes " " ++ second)))

unfoldable pub fault_text : DbFault → List ℕ
fault_text NotJson = codes "NotJson"
fault_text (WrongKind at) = name_and_text (codes "WrongKind") at
fault_text (HashDiffers written computed) = two_texts (codes "HashDiffers") written computed
fault_text (TwiceHash hash) = name_and_text (codes "TwiceHash") hash
fault_text (Dangling parent child) = two_texts (codes "Dangling") parent child
fault_text OutOfMemory = codes "OutOfMemory"
