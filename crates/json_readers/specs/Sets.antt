-- Lists in which nothing is repeated, as a part of the list's own form.
use Rattle.std.specs.Prelude.{ℕ, List, [], ◌∷◌, ◌++◌, Option, Some, None, Ok, option_and_then, option_map, option_to_list}
use Rattle.std.specs.Ordering.{nat_cmp}
use Rattle.std.specs.Cmp.Lexicographic.{slice_cmp}
use Rattle.serde_json.specs.Data.{Data, Items, no_items, item}
use Rattle.serde_json.specs.Find.{get, as_array, as_str}
use Rattle.json_readers.specs.Faults.{Reading, ◌>>=◌, given, wrong_kind}
use Rattle.json_readers.specs.Lists.{list_of, twice_after}

-- what a text means by the form, or the text
abbrev pub read_as : Option (List ℕ) → List ℕ → List ℕ
read_as None text = text
read_as (Some meaning) text = meaning

-- the text of an entry, or of its member at a key
abbrev pub text_by : Option (List ℕ) → Data → Option (List ℕ)
text_by None d = as_str d
text_by (Some key) d = option_and_then as_str (get key d)

-- what the texts of the entries mean; an entry that has none is passed over
abbrev pub texts_by : (List ℕ → Option (List ℕ)) → Option (List ℕ) → Items → List (List ℕ)
texts_by means key no_items = []
texts_by means key (item d ds) = option_to_list (option_map (λ text. read_as (means text) text) (text_by key d)) ++ texts_by means key ds

abbrev pub unless_repeated : Option ℕ → Reading (Unit {0})
unless_repeated None = Ok tt
unless_repeated (Some i) = wrong_kind

-- no text of the items stands twice
abbrev pub unrepeated : (List ℕ → Option (List ℕ)) → Option (List ℕ) → Items → Reading (Unit {0})
unrepeated means key ds = unless_repeated (twice_after (slice_cmp nat_cmp) [] 0 (texts_by means key ds))

-- a list without repeats
abbrev pub set_of : {T : Type 0} → (List ℕ → Option (List ℕ)) → Option (List ℕ) → (Data → Reading T) → Data → Reading (List T)
set_of means key read d = given (as_array d) >>= unrepeated means key >>= λ _. list_of read d

abbrev pub filled : {T : Type 0} → List T → Reading (List T)
filled [] = wrong_kind
filled (x ∷ xs) = Ok (x ∷ xs)

-- a list that is not empty
abbrev pub filled_by : {T : Type 0} → (Data → Reading (List T)) → Data → Reading (List T)
filled_by read d = read d >>= filled
