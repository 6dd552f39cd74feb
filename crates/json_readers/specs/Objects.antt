-- Objects.
use Rattle.std.specs.Prelude.{ℕ, List, [], ◌∷◌, if◌then◌else◌, Option, Some, None, Ok, Err}
use Rattle.std.specs.List.{list_any}
use Rattle.std.specs.Ordering.{nat_cmp, match_ordering, is_le}
use Rattle.std.specs.Cmp.Lexicographic.{slice_cmp}
use Rattle.std.specs.Str.{bytes_eq}
use Rattle.serde_json.specs.Data.{Data, null, boolean, number, string, array, object, Members, no_members, member}
use Rattle.serde_json.specs.Find.{as_object, get_member}
use Rattle.json_readers.specs.Faults.{Reading, ◌>>=◌, below, given, misfit, pointed, wrong_kind}
use Rattle.json_readers.specs.declared.fault.Wrong.TheVariants.{UnknownKey, WrongKind}

-- the members of an object, in byte order of their keys, each key once
abbrev pub members_of : Data → Reading Members
members_of d = given (as_object d)

abbrev pub read_needed : {T : Type 0} → (Data → Reading T) → Option Data → Reading T
read_needed read None = wrong_kind
read_needed read (Some d) = read d

-- what stands at a key, which must be there
abbrev pub need : {T : Type 0} → (Data → Reading T) → List ℕ → Members → Reading T
need read key ms = below key (read_needed read (get_member key ms))

abbrev pub read_optional : {T : Type 0} → (Data → Reading T) → Option Data → Reading (Option T)
read_optional read None = Ok None
read_optional read (Some d) = read d >>= λ x. Ok (Some x)

-- what stands at a key, if it is there
abbrev pub may : {T : Type 0} → (Data → Reading T) → List ℕ → Members → Reading (Option T)
may read key ms = below key (read_optional read (get_member key ms))

-- null, or a value of another form
abbrev pub null_or : {T : Type 0} → (Data → Reading T) → Data → Reading (Option T)
null_or read null = Ok None
null_or read (boolean b) = read (boolean b) >>= λ x. Ok (Some x)
null_or read (number n) = read (number n) >>= λ x. Ok (Some x)
null_or read (string text) = read (string text) >>= λ x. Ok (Some x)
null_or read (array ds) = read (array ds) >>= λ x. Ok (Some x)
null_or read (object ms) = read (object ms) >>= λ x. Ok (Some x)

-- ---- objects whose unknown keys come first

-- the least key that is none of these
abbrev pub first_unknown : List (List ℕ) → Members → Option (List ℕ)
first_unknown keys no_members = None
first_unknown keys (member key d ms) = if list_any (bytes_eq key) keys then first_unknown keys ms else Some key

abbrev pub unless_unknown : Members → Option (List ℕ) → Reading Members
unless_unknown ms None = Ok ms
unless_unknown ms (Some key) = Err (misfit UnknownKey (pointed key []))

-- the members of an object that has none but these keys
abbrev pub known : List (List ℕ) → Data → Reading Members
known keys d = members_of d >>= λ ms. unless_unknown ms (first_unknown keys ms)

-- ---- objects whose keys go in byte order, missing and unknown ones among them

-- the least key that is only among these, which ascend, or only in the object
abbrev pub first_odd : List (List ℕ) → Members → Option (List ℕ)
first_odd [] no_members = None
first_odd [] (member key d ms) = Some key
first_odd (k ∷ ks) no_members = Some k
first_odd (k ∷ ks) (member key d ms) = match_ordering (slice_cmp nat_cmp k key) (Some k) (first_odd ks ms) (Some key)

-- no key up to this one is odd
abbrev pub unless_odd : {T : Type 0} → List ℕ → Option (List ℕ) → Reading T → Reading T
unless_odd key None reading = reading
unless_odd key (Some odd) reading = if is_le (slice_cmp nat_cmp odd key) then Err (misfit WrongKind (pointed odd [])) else reading

-- what stands at the next key
abbrev pub field : {T : Type 0} → (Data → Reading T) → Option (List ℕ) → List ℕ → Members → Reading T
field read odd key ms = unless_odd key odd (need read key ms)

-- no key is odd
abbrev pub none_odd : Option (List ℕ) → Reading (Unit {0})
none_odd None = Ok tt
none_odd (Some odd) = Err (misfit WrongKind (pointed odd []))
