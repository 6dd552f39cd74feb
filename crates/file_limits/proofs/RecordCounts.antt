-- A record counts no more than its value weighs, and a database has as many bytes as its value weighs.
use Rattle.std.proofs.Common.{Bool, ◌≡◌, refl, sym, ap, subst, ℕ, ◌+◌, ◌≤◌, List, [], ◌∷◌, length, Option, Some, None, Ok, Err, codes, sum_by, arith}
use Rattle.variant_values.specs.Texts.{with_text, with_texts}
use Rattle.serde_json.specs.Data.{Members}
use Rattle.json_readers.specs.Faults.{Reading}
use Rattle.json_readers.specs.Lists.{list_of}
use Rattle.json_readers.specs.Maps.{map_of}
use Rattle.json_readers.specs.Objects.{field, first_odd, members_of, none_odd, null_or}
use Rattle.json_readers.specs.Sets.{filled_by, set_of}
use Rattle.json_readers.specs.Texts.{text_of}
use Rattle.file_limits.specs.Weights.{weight, members_weight, weight_at}
use Rattle.file_limits.proofs.Keys.{key-weight, keys-share}
use Rattle.file_limits.proofs.Readers.{CountsWithin, field-counts, filled-counts, list-counts, map-counts, none-counts, seen-counts, set-counts}
use Rattle.json_readers.proofs.Steps.{bind_ok, members_ok, ok_same}
use Rattle.file_limits.proofs.Texts.{texts-bear}
use Rattle.json_texts.specs.Forms.{name_meaning, value_meaning, version_in}
use Rattle.record_reader.specs.Records.{back_at, compiler_at, dependency_at, front_at, record_keys, middle_at, record_entry_at, variant_values_at}
use Rattle.record_reader.specs.declared.record.Front.{Front}
use Rattle.record_reader.specs.declared.record.Middle.{Middle}
use Rattle.reuse_db.specs.declared.record.Dependency.{Dependency}
use Rattle.reuse_db.specs.declared.record.Record.{Record}
use Rattle.record_reader.specs.Files.{file_keys, may_name_virtuals, records_at, version_at}
use Rattle.problem.specs.Limits.{record_members, variant_members}
use Rattle.file_limits.specs.DatabaseSizes.{DatabasesHoldRecords}
use Rattle.file_limits.proofs.Parts.{length-with_text}

-- ---- sets of texts have no more than what is put to them

length-with_texts : (texts words : List (List ℕ)) → length (with_texts texts words) ≤ length texts + length words
unfolding with_texts
length-with_texts texts [] = omega arith
length-with_texts texts (word ∷ words) = omega (arith, length-with_text texts word, length-with_texts (with_text texts word) words)

-- ---- the parts of a record

values-count : CountsWithin length variant_values_at
unfolding variant_values_at
values-count =
    let read = text_of value_meaning in
    let some = λ (texts : List (List ℕ)). length texts + sum_by (λ text. 0) texts in
    seen-counts some length (filled_by (set_of value_meaning None read)) (with_texts [])
    (λ texts. omega (arith, length-with_texts [] texts))
    (filled-counts some (set_of value_meaning None read) (set-counts (λ text. 0) read (none-counts read) value_meaning None))

-- how many dependencies were read
abbrev listed : Reading Front → ℕ
listed (Ok front) = length front.dependencies
listed (Err m) = 0

dependencies-count : (names : Bool) (odd : Option (List ℕ)) (ms : Members) (front : Front) → front_at names odd ms ≡ Ok front
    → length front.dependencies ≤ weight_at ms (codes "dependencies")
unfolding front_at
dependencies-count names odd ms front e =
    let list = set_of Some (Some (codes "hash")) (dependency_at names) in
    let some = λ (xs : List Dependency). length xs + sum_by (λ x. 0) xs in
    let compiler = bind_ok (field (null_or compiler_at) odd (codes "compiler") ms) _ front e in
    let dependencies = bind_ok (field list odd (codes "dependencies") ms) _ front compiler.2 in
    let counted : CountsWithin some list = set-counts (λ x. 0) (dependency_at names) (none-counts (dependency_at names)) Some
    (Some (codes "hash")) in
    let within = field-counts some list counted odd (codes "dependencies") ms dependencies.0 dependencies.1 in
    let same : length dependencies.0 ≡ length front.dependencies = ap listed dependencies.2 in
    omega arith

-- how many dependencies and variant values were read
abbrev counted : Reading Record → ℕ
counted (Ok entry) = record_members entry
counted (Err m) = 0

back-count : (front : Front) (middle : Middle) (odd : Option (List ℕ)) (ms : Members) (entry : Record)
    → back_at front middle odd ms ≡ Ok entry
    → record_members entry ≤ length front.dependencies + weight_at ms (codes "variants")
unfolding back_at
back-count front middle odd ms entry e =
    let os = bind_ok (field (text_of value_meaning) odd (codes "os") ms) _ entry e in
    let target = bind_ok (field (text_of value_meaning) odd (codes "target") ms) _ entry os.2 in
    let variants = bind_ok (field (map_of name_meaning variant_values_at) odd (codes "variants") ms) _ entry target.2 in
    let version = bind_ok (field (text_of version_in) odd (codes "version") ms) _ entry variants.2 in
    let none = bind_ok (none_odd odd) _ entry version.2 in
    let some = λ (xs : List (List ℕ × List (List ℕ))). length xs + sum_by (λ x. length x.1) xs in
    let within = field-counts some (map_of name_meaning variant_values_at)
    (map-counts length variant_values_at values-count name_meaning) odd
    (codes "variants") ms variants.0 variants.1 in
    let same : length front.dependencies + variant_members variants.0 ≡ record_members entry = ap counted none.2 in
    omega arith

-- ---- records

record-count : (names : Bool) → CountsWithin record_members (record_entry_at names)
unfolding record_entry_at
record-count names d entry e =
    let ms = bind_ok (members_of d) _ entry e in
    let odd = first_odd record_keys ms.0 in
    let front = bind_ok (front_at names odd ms.0) _ entry ms.2 in
    let middle = bind_ok (middle_at odd ms.0) _ entry front.2 in
    let two = keys-share (codes "dependencies" ∷ codes "variants" ∷ []) ms.0 refl in
    let first = dependencies-count names odd ms.0 front.0 front.1 in
    let second = back-count front.0 middle.0 odd ms.0 entry middle.2 in
    subst (λ v. record_members entry ≤ weight v) (sym (members_ok d ms.0 ms.1)) (omega arith)

records-count : CountsWithin (λ records. length records + sum_by record_members records) records_at
unfolding records_at
records-count d records e =
    let some = λ (entries : List Record). length entries + sum_by record_members entries in
    let ms = bind_ok (members_of d) _ records e in
    let names = may_name_virtuals ms.0 in
    let odd = first_odd file_keys ms.0 in
    let list = bind_ok (field (list_of (record_entry_at names)) odd (codes "records") ms.0) _ records ms.2 in
    let version = bind_ok (field version_at odd (codes "version") ms.0) _ records list.2 in
    let none = bind_ok (none_odd odd) _ records version.2 in
    let within = field-counts some (list_of (record_entry_at names))
    (list-counts record_members (record_entry_at names) (record-count names)) odd
    (codes "records") ms.0
    list.0 list.1 in
    subst (λ v. some records ≤ weight v) (sym (members_ok d ms.0 ms.1))
    (subst (λ (entries : List Record). some entries ≤ 1 + members_weight ms.0) (ok_same list.0 records none.2)
    (omega (arith, key-weight ms.0 (codes "records"))))

-- the records of a database count no more than its bytes
pub databases-hold : DatabasesHoldRecords
databases-hold bytes records (d, json, is) = omega (arith, records-count d records is.0, texts-bear bytes d json)
