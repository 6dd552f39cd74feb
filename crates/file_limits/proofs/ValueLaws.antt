-- Records that were read have their variants in byte order, each with a value.
use Rattle.std.proofs.Common.{Bool, ◌≡◌, refl, ap, subst, ℕ, ◌+◌, true, Option, None, Ok, Err, List, [], ◌∷◌, map, codes, decimal}
use Rattle.std.specs.List.{list_all}
use Rattle.std.specs.Ordering.{match_ordering}
use Rattle.std.specs.declared.cmp.Ordering.{Ordering}
use Rattle.std.specs.declared.cmp.Ordering.TheVariants.{Less, Equal, Greater}
use Rattle.std.specs.Cmp.Lexicographic.{nat_list_cmp_total}
use Rattle.std.specs.Option.{is_some}
use Rattle.keyed_lists.specs.Keyed.{rises}
use Rattle.keyed_lists.proofs.RiseLaws.{rises_decides}
use Rattle.variant_values.specs.Texts.{IsInByteOrder, byte_cmp, with_text, with_texts}
use Rattle.serde_json.specs.Data.{Data, object, Items, no_items, item, Members, no_members, member}
use Rattle.serde_json.specs.Find.{as_array}
use Rattle.json_readers.specs.Faults.{Reading, below, given}
use Rattle.json_readers.specs.Lists.{items_from, list_of}
use Rattle.json_readers.specs.Maps.{entries_of, entry_of, map_of}
use Rattle.json_readers.specs.Objects.{field, first_odd, members_of, none_odd}
use Rattle.json_readers.specs.Sets.{filled, filled_by, set_of}
use Rattle.json_readers.specs.Texts.{text_of}
use Rattle.json_readers.proofs.Steps.{no_ok, bind_ok, below_ok, field_ok, form_ok, ok_same, members_ok, items_ok}
use Rattle.json_texts.specs.Forms.{name_meaning, value_meaning, version_in}
use Rattle.record_reader.specs.Records.{back_at, front_at, record_keys, middle_at, record_entry_at, variant_values_at}
use Rattle.record_reader.specs.declared.record.Front.{Front}
use Rattle.record_reader.specs.declared.record.Middle.{Middle}
use Rattle.reuse_db.specs.declared.record.Record.{Record}
use Rattle.record_reader.specs.Files.{file_keys, may_name_virtuals, records_at, version_at, IsDatabase}
use Rattle.file_limits.specs.Values.{are_valued, has_values, is_filled}
use Rattle.file_limits.proofs.OrderLaws.{AreOrderedItems, AreOrderedMembers, IsOrdered, keys_in, member_ordered, text_ordered}

-- ---- values

one_filled : (kept : List (List ℕ)) (word : List ℕ) → is_filled (with_text kept word) ≡ true
one_filled [] word = refl
one_filled (x ∷ xs) word = one_filled-cases (byte_cmp word x)
  where
    one_filled-cases : (r : Ordering) → is_filled (match_ordering r (word ∷ x ∷ xs) (x ∷ xs) (x ∷ with_text xs word)) ≡ true
    one_filled-cases Less = refl
    one_filled-cases Equal = refl
    one_filled-cases Greater = refl

with_filled : (kept words : List (List ℕ)) → is_filled kept ≡ true → is_filled (with_texts kept words) ≡ true
unfolding with_texts
with_filled kept [] e = e
with_filled kept (word ∷ words) e = with_filled (with_text kept word) words (one_filled kept word)

set_filled : (words texts : List (List ℕ)) → filled words ≡ Ok texts → is_filled (with_texts [] texts) ≡ true
unfolding with_texts
set_filled [] texts e = absurd (no_ok _ texts _ refl e)
set_filled (word ∷ words) texts e =
    subst (λ (l : List (List ℕ)). is_filled (with_texts [] l) ≡ true) (ok_same (word ∷ words) texts e)
    (with_filled (with_text [] word) words (one_filled [] word))

values_filled : (d : Data) (values : List (List ℕ)) → variant_values_at d ≡ Ok values → is_filled values ≡ true
unfolding variant_values_at
values_filled d values e =
    let texts = bind_ok (filled_by (set_of value_meaning None (text_of value_meaning)) d) _ values e in
    let words = bind_ok (set_of value_meaning None (text_of value_meaning) d) filled texts.0 texts.1 in
    subst (λ (l : List (List ℕ)). is_filled l ≡ true) (ok_same (with_texts [] texts.0) values texts.2)
    (set_filled words.0 texts.0 words.2)

-- ---- variants

abbrev Variants : Type 0
Variants = List (List ℕ × List (List ℕ))

entries_keys : (ms : Members) (xs : Variants) → entries_of name_meaning variant_values_at ms ≡ Ok xs → map (λ v. v.0) xs ≡ keys_in ms
entries_keys no_members xs e = let same : [] ≡ xs = ok_same [] xs e in subst (λ (l : Variants). map (λ v. v.0) l ≡ []) same refl
entries_keys (member key d ms) xs e =
    let first = bind_ok (entry_of name_meaning variant_values_at key d) _ xs e in
    let rest = bind_ok (entries_of name_meaning variant_values_at ms) _ xs first.2 in
    subst (λ (l : Variants). map (λ v. v.0) l ≡ key ∷ keys_in ms) (ok_same ((key, first.0) ∷ rest.0) xs rest.2)
    (ap (λ keys. key ∷ keys) (entries_keys ms rest.0 rest.1))

entries_filled : (ms : Members) (xs : Variants) → entries_of name_meaning variant_values_at ms ≡ Ok xs
    → list_all (λ v. is_filled v.1) xs ≡ true
entries_filled no_members xs e = subst (λ (l : Variants). list_all (λ v. is_filled v.1) l ≡ true) (ok_same [] xs e) refl
entries_filled (member key d ms) xs e =
    let first = bind_ok (entry_of name_meaning variant_values_at key d) _ xs e in
    let rest = bind_ok (entries_of name_meaning variant_values_at ms) _ xs first.2 in
    let read = form_ok (is_some (name_meaning key)) (variant_values_at d) first.0 (below_ok key _ first.0 first.1) in
    subst (λ (l : Variants). list_all (λ v. is_filled v.1) l ≡ true) (ok_same ((key, first.0) ∷ rest.0) xs rest.2)
    (rw (values_filled d first.0 read, entries_filled ms rest.0 rest.1) refl)

map_valued : (d : Data) (xs : Variants) → IsOrdered d → map_of name_meaning variant_values_at d ≡ Ok xs → are_valued xs ≡ true
map_valued d xs ordered e =
    let members = bind_ok (members_of d) _ xs e in
    let inside : IsOrdered (object members.0) = subst IsOrdered (members_ok d members.0 members.1) ordered in
    let keys = map (λ (v : List ℕ × List (List ℕ)). v.0) xs in
    let order : IsInByteOrder keys = rw (entries_keys members.0 xs members.2) inside.0 in
    let up : rises byte_cmp keys ≡ true = (rises_decides byte_cmp nat_list_cmp_total keys).1 order in
    rw (up, entries_filled members.0 xs members.2) refl

-- ---- records

variants_in : Reading Record → Variants
variants_in (Ok entry) = entry.variants
variants_in (Err m) = []

back_valued : (front : Front) (middle : Middle) (odd : Option (List ℕ)) (ms : Members) (entry : Record) → AreOrderedMembers ms
    → back_at front middle odd ms ≡ Ok entry → are_valued entry.variants ≡ true
unfolding back_at variants_in
back_valued front middle odd ms entry ordered e =
    let os = bind_ok (field (text_of value_meaning) odd (codes "os") ms) _ entry e in
    let target = bind_ok (field (text_of value_meaning) odd (codes "target") ms) _ entry os.2 in
    let variants = bind_ok (field (map_of name_meaning variant_values_at) odd (codes "variants") ms) _ entry target.2 in
    let version = bind_ok (field (text_of version_in) odd (codes "version") ms) _ entry variants.2 in
    let none = bind_ok (none_odd odd) _ entry version.2 in
    let same : variants.0 ≡ entry.variants = ap variants_in none.2 in
    let read = field_ok (map_of name_meaning variant_values_at) odd (codes "variants") ms variants.0 variants.1 in
    subst (λ (l : Variants). are_valued l ≡ true) same
    (map_valued read.0 variants.0 (member_ordered (codes "variants") ms read.0 ordered read.1) read.2)

record_valued : (names : Bool) (d : Data) (entry : Record) → IsOrdered d → record_entry_at names d ≡ Ok entry
    → are_valued entry.variants ≡ true
unfolding record_entry_at
record_valued names d entry ordered e =
    let ms = bind_ok (members_of d) _ entry e in
    let odd = first_odd record_keys ms.0 in
    let front = bind_ok (front_at names odd ms.0) _ entry ms.2 in
    let middle = bind_ok (middle_at odd ms.0) _ entry front.2 in
    let inside : IsOrdered (object ms.0) = subst IsOrdered (members_ok d ms.0 ms.1) ordered in
    back_valued front.0 middle.0 odd ms.0 entry inside.1 middle.2

items_valued : (names : Bool) (i : ℕ) (ds : Items) (records : List Record) → AreOrderedItems ds
    → items_from (record_entry_at names) i ds ≡ Ok records
    → list_all has_values records ≡ true
items_valued names i no_items records ordered e =
    subst (λ (l : List Record). list_all has_values l ≡ true) (ok_same [] records e) refl
items_valued names i (item d ds) records ordered e =
    let first = bind_ok (below (decimal i) (record_entry_at names d)) _ records e in
    let rest = bind_ok (items_from (record_entry_at names) (i + 1) ds) _ records first.2 in
    let here = record_valued names d first.0 ordered.0 (below_ok (decimal i) (record_entry_at names d) first.0 first.1) in
    subst (λ (l : List Record). list_all has_values l ≡ true)
    (ok_same (first.0 ∷ rest.0) records rest.2)
    (rw (here, items_valued names (i + 1) ds rest.0 ordered.1 rest.1) refl)

list_valued : (names : Bool) (d : Data) (records : List Record) → IsOrdered d → list_of (record_entry_at names) d ≡ Ok records
    → list_all has_values records ≡ true
list_valued names d records ordered e =
    let items = bind_ok (given (as_array d)) _ records e in
    items_valued names 0 items.0 records (subst IsOrdered (items_ok d items.0 items.1) ordered) items.2

value_valued : (d : Data) (records : List Record) → IsOrdered d → records_at d ≡ Ok records
    → list_all has_values records ≡ true
unfolding records_at
value_valued d records ordered e =
    let ms = bind_ok (members_of d) _ records e in
    let odd = first_odd file_keys ms.0 in
    let list = bind_ok (field (list_of (record_entry_at (may_name_virtuals ms.0))) odd (codes "records") ms.0) _ records ms.2 in
    let version = bind_ok (field version_at odd (codes "version") ms.0) _ records list.2 in
    let none = bind_ok (none_odd odd) _ records version.2 in
    let inside : IsOrdered (object ms.0) = subst IsOrdered (members_ok d ms.0 ms.1) ordered in
    let read = field_ok (list_of (record_entry_at (may_name_virtuals ms.0))) odd (codes "records") ms.0 list.0 list.1 in
    subst (λ (l : List Record). list_all has_values l ≡ true) (ok_same list.0 records none.2)
    (list_valued (may_name_virtuals ms.0) read.0 list.0 (member_ordered (codes "records") ms.0 read.0 inside.1 read.1) read.2)

-- each record of a database has its variants in order, each with a value
pub database_valued : (bytes : List ℕ) (records : List Record) → IsDatabase bytes records
    → list_all has_values records ≡ true
database_valued bytes records (d, json, is) = value_valued d records (text_ordered bytes d json) is.0
