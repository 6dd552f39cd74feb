-- Values without parts.
use Rattle.std.specs.Prelude.{ℕ, Bool, List, Option, option_and_then}
use Rattle.serde_json.specs.Data.{Data}
use Rattle.serde_json.specs.Find.{as_str, as_bool, as_number, as_u64}
use Rattle.json_readers.specs.Faults.{Reading, given}

-- a text of a form, read as what the form says that it means
abbrev pub text_of : (List ℕ → Option (List ℕ)) → Data → Reading (List ℕ)
text_of means d = given (option_and_then means (as_str d))

-- a whole number from 0 to 2^64 - 1, written without `.`, `e` and a sign
abbrev pub whole_number : Data → Reading ℕ
whole_number d = given (option_and_then as_u64 (as_number d))

abbrev pub truth_value : Data → Reading Bool
truth_value d = given (as_bool d)
