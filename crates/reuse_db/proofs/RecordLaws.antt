-- A record is found at the place of its hash.
use Rattle.std.proofs.Common.{◌≡◌, refl, sym, ap, subst, ◌∙◌, ℕ, zero, suc, ◌<◌, Bool, true, false, ◌||◌, Option, Some, None, String, List, [], ◌∷◌, length, get_or, slice_get, is_some, take, Contains, ⊎_elim, arith}
use Rattle.std.specs.BTreeMap.{BTreeMap, get_by_text}
use Rattle.std.specs.List.{list_any}
use Rattle.std.specs.Str.{bytes_eq}
use Rattle.std.specs.Cmp.Lexicographic.{bytes_decides}
use Rattle.std.specs.declared.alloc.Global.{Global}
use Rattle.std.proofs.lemmas.Bool.{false_from_ne_true}
use Rattle.std.proofs.lemmas.List.{get_or-map, get_or-take, get_or_default, length-map, length-take}
use Rattle.graph_core.proofs.OfReachability.CountLaws.{has_first, has_later, first_or_later}
use Rattle.graph_core.specs.Graphs.{Text}
use Rattle.reuse_db.specs.declared.record.Record.{Record}
use Rattle.reachability.specs.TextPlaces.{ArePlaces}
use Rattle.reachability.proofs.TextPlaces.{lacks_text, has_text}
use Rattle.reuse_db.specs.Databases.{hashes_of, HasNoTwice, record_of}

-- ---- a hash that none has

-- no record is found by a hash that is none of theirs
pub not_found : (records : List Record) (hash : Text) → (Contains (hashes_of records) hash → ⊥) → record_of records hash ≡ None
not_found [] hash lacks = refl
not_found (entry ∷ records) hash lacks =
    let rest = not_found records hash (λ there. lacks (has_later entry.hash (hashes_of records) hash there)) in
    let other : bytes_eq entry.hash hash ≡ false =
    false_from_ne_true (bytes_eq entry.hash hash)
    (λ same. lacks (subst (Contains (entry.hash ∷ hashes_of records)) ((bytes_decides entry.hash hash).0 same)
    (has_first entry.hash (hashes_of records)))) in
    rw other rest

-- ---- the first that has it

-- the record at the only place of its hash is found by it
pub found_at : (records : List Record) (hash : Text) (i : ℕ) (entry : Record) → i < length records → entry ≡ get_or records i entry
    → entry.hash ≡ hash
    → ((j : ℕ) → j < i → (get_or records j entry).hash ≡ hash → ⊥) → record_of records hash ≡ Some entry
found_at [] hash i entry lt is has first = absurd (omega (arith, lt))
found_at (e ∷ es) hash zero entry lt is has first =
    let same : bytes_eq e.hash hash ≡ true = (bytes_decides e.hash hash).1 (ap (λ (r : Record). r.hash) (sym is) ∙ has) in
    rw same (ap (λ (r : Record). Some r) (sym is))
found_at (e ∷ es) hash (suc i) entry lt is has first =
    let rest = found_at es hash i entry (omega (arith, lt)) is has (λ j less. first (suc j) (omega (arith, less))) in
    let other : bytes_eq e.hash hash ≡ false =
    false_from_ne_true (bytes_eq e.hash hash) (λ same. first 0 (omega arith) ((bytes_decides e.hash hash).0 same)) in
    rw other rest

-- ---- hashes that are known

-- the test of a hash that is one of some
pub known_test : (hashes : List Text) (hash : Text) → Contains hashes hash → list_any (bytes_eq hash) hashes ≡ true
known_test [] hash there = absurd (omega (arith, there.1))
known_test (h ∷ hs) hash there = ⊎_elim
    (λ same. rw ((bytes_decides hash h).1 (sym same)) refl)
    (λ later. let rest = known_test hs hash later in
    elim (bytes_eq hash h) as (λ b. (b || list_any (bytes_eq hash) hs) ≡ true) [ true ↦ refl | false ↦ rest ])
    (first_or_later h hs hash there)

-- the test of a hash that is none of some
pub unknown_test : (hashes : List Text) (hash : Text) → (Contains hashes hash → ⊥) → list_any (bytes_eq hash) hashes ≡ false
unknown_test [] hash lacks = refl
unknown_test (h ∷ hs) hash lacks =
    let rest = unknown_test hs hash (λ there. lacks (has_later h hs hash there)) in
    let other : bytes_eq hash h ≡ false = false_from_ne_true (bytes_eq hash h)
    (λ same. lacks (subst (Contains (h ∷ hs)) (sym ((bytes_decides hash h).0 same)) (has_first h hs))) in
    rw other rest

-- ---- by the map of places

get_or_got : (records : List Record) (i : ℕ) (entry : Record) → slice_get records i ≡ Some entry → entry ≡ get_or records i entry
get_or_got [] i entry got = absurd (let no : None ≡ Some entry = got in cc)
get_or_got (e ∷ es) zero entry got = let same : e ≡ entry = cc in sym same
get_or_got (e ∷ es) (suc i) entry got = get_or_got es i entry got

not_got : (records : List Record) (i : ℕ) → i < length records → slice_get records i ≡ None → ⊥
not_got [] i lt got = omega (arith, lt)
not_got (e ∷ es) zero lt got = let no : Some e ≡ None = got in cc
not_got (e ∷ es) (suc i) lt got = not_got es i (omega (arith, lt)) got

module _ (records : List Record) (m : BTreeMap (String Global) ℕ) (are : ArePlaces (hashes_of records) m) where
  -- a hash without a place is unknown
  pub lost : (hash : Text) → get_by_text m hash ≡ None → list_any (bytes_eq hash) (hashes_of records) ≡ false
  lost hash none = unknown_test (hashes_of records) hash (lacks_text (hashes_of records) m are hash none)

  -- a hash with a place is known
  pub known : (hash : Text) (i : ℕ) → get_by_text m hash ≡ Some i → list_any (bytes_eq hash) (hashes_of records) ≡ true
  known hash i some = known_test (hashes_of records) hash (has_text (hashes_of records) m are hash i some)

  -- the place of a hash is one of a record
  pub within : (hash : Text) (i : ℕ) → get_by_text m hash ≡ Some i → i < length records
  within hash i some = omega (arith, ((are hash i).0 some).0, length-map records (λ (e : Record). e.hash))

  -- a hash without a place has no record
  pub none_there : (hash : Text) → get_by_text m hash ≡ None → record_of records hash ≡ None
  none_there hash none = not_found records hash (lacks_text (hashes_of records) m are hash none)

  -- a hash with a place has the record there
  pub one_there : HasNoTwice records → (hash : Text) (i : ℕ) (entry : Record) → get_by_text m hash ≡ Some i → entry ≡ get_or records i entry
      → record_of records hash ≡ Some entry
  one_there once hash i entry some is =
      let at = (are hash i).0 some in
      let lt = within hash i some in
      let has : entry.hash ≡ hash = ap (λ (e : Record). e.hash) is ∙ sym (get_or-map (λ (e : Record). e.hash) records i entry hash lt)
      ∙ at.1 in
      found_at records hash i entry lt is has (λ j less same.
      let earlier : Contains (take i (hashes_of records)) hash = (
        j,
        omega (arith, length-take i (hashes_of records), at.0, less),
        get_or-take i (hashes_of records) j hash less
            ∙ get_or-map (λ (e : Record). e.hash) records j entry hash (omega (arith, less, lt)) ∙ same,
      ) in
      once i (
        lt,
        λ d. subst (λ (h : Text). Contains (take i (hashes_of records)) h) (sym has
            ∙ ap (λ (e : Record). e.hash) (is ∙ get_or_default records i entry d lt)) earlier,
      ))

  -- what stands at the place of a hash is its record
  pub got_there : HasNoTwice records → (hash : Text) (i : ℕ) → get_by_text m hash ≡ Some i → slice_get records i ≡ record_of records hash
  got_there once hash i some = got_there-cases (slice_get records i) refl
    where
      got_there-cases : (o : Option Record) → slice_get records i ≡ o → o ≡ record_of records hash
      got_there-cases (Some entry) got = sym (one_there once hash i entry some (get_or_got records i entry got))
      got_there-cases None got = absurd (not_got records i (within hash i some) got)

  -- whether a place is there tells whether the hash is known
  pub told_known : (hash : Text) (o : Option ℕ) (is : Bool) → o ≡ get_by_text m hash → is ≡ is_some o
      → is ≡ list_any (bytes_eq hash) (hashes_of records)
  told_known hash (Some i) is e told = told ∙ sym (known hash i (sym e))
  told_known hash None is e told = told ∙ sym (lost hash (sym e))
