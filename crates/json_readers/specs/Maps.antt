-- Maps: objects whose keys are texts of a form.
use Rattle.std.specs.Prelude.{ℕ, List, [], ◌∷◌, ◌++◌, if◌then◌else◌, Option, Some, None, is_some, Ok}
use Rattle.serde_json.specs.Data.{Data, Members, no_members, member}
use Rattle.json_readers.specs.Faults.{Reading, ◌>>=◌, below, wrong_kind}
use Rattle.json_readers.specs.Objects.{members_of, unless_unknown}

abbrev pub and_entry : {T : Type 0} → List ℕ → T → Reading (List (List ℕ × T)) → Reading (List (List ℕ × T))
and_entry key x rest = rest >>= λ xs. Ok ((key, x) ∷ xs)

-- what stands at a key, where the key has the form
abbrev pub entry_of : {T : Type 0} → (List ℕ → Option (List ℕ)) → (Data → Reading T) → List ℕ → Data → Reading T
entry_of means read key d = below key (if is_some (means key) then read d else wrong_kind)

-- the members one after another, whose keys have a form
abbrev pub entries_of : {T : Type 0} → (List ℕ → Option (List ℕ)) → (Data → Reading T) → Members → Reading (List (List ℕ × T))
entries_of means read no_members = Ok []
entries_of means read (member key d ms) = entry_of means read key d >>= λ x. and_entry key x (entries_of means read ms)

-- a map from texts of a form
abbrev pub map_of : {T : Type 0} → (List ℕ → Option (List ℕ)) → (Data → Reading T) → Data → Reading (List (List ℕ × T))
map_of means read d = members_of d >>= λ ms. entries_of means read ms

-- the least key that has not a form
abbrev pub first_other : (List ℕ → Option (List ℕ)) → Members → Option (List ℕ)
first_other means no_members = None
first_other means (member key d ms) = if is_some (means key) then first_other means ms else Some key

-- the members of an object whose keys all have a form; another key is an unknown one
abbrev pub named : (List ℕ → Option (List ℕ)) → Data → Reading Members
named means d = members_of d >>= λ ms. unless_unknown ms (first_other means ms)

-- a map from texts of a form, where another key is an unknown one
abbrev pub known_map_of : {T : Type 0} → (List ℕ → Option (List ℕ)) → (Data → Reading T) → Data → Reading (List (List ℕ × T))
known_map_of means read d = named means d >>= λ ms. entries_of means read ms

-- what is read after some that were read
abbrev pub after_entries : {T : Type 0} → List (List ℕ × T) → Reading (List (List ℕ × T)) → Reading (List (List ℕ × T))
after_entries xs rest = rest >>= λ ys. Ok (xs ++ ys)
