-- The variants and dependencies of a record, written and read.
use Rattle.std.proofs.Common.{◌≡◌, refl, sym, ap, Bool, true, false, ◌||◌, Option, Some, None, Ok, List, [], ◌∷◌, map, All, Contains, codes}
use Rattle.std.proofs.lemmas.Bool.{false≢true}
use Rattle.std.proofs.lemmas.List.Elements.{All-contains}
use Rattle.reachability.proofs.CountLaws.{has_first, has_later}
use Rattle.keyed_lists.specs.Keyed.{IsInOrder}
use Rattle.variant_values.specs.Texts.{byte_cmp, with_texts}
use Rattle.variant_values.proofs.Keys.{lacks_all}
use Rattle.variant_values.proofs.Many.{one_by_one}
use Rattle.serde_json.specs.Data.{string, array, object}
use Rattle.serde_json.specs.View.{items_of}
use Rattle.json_readers.specs.Faults.{◌>>=◌}
use Rattle.json_readers.specs.Maps.{map_of}
use Rattle.json_readers.specs.Sets.{set_of, texts_by, filled}
use Rattle.json_readers.specs.Texts.{text_of}
use Rattle.json_texts.specs.Forms.{name_meaning, value_meaning}
use Rattle.graph_core.specs.Graphs.{Text}
use Rattle.graph_core.specs.declared.node.Kinds.{Kinds}
use Rattle.record_reader.specs.Texts.{hash_meaning}
use Rattle.record_reader.specs.Records.{dependency_at, kinds_at, variant_values_at, virtuals_at}
use Rattle.reuse_db.specs.Canonical.{dependency_data, dependency_members, kind_texts, texts_data, values_of, variant_members}
use Rattle.reuse_db.specs.declared.record.Dependency.{Dependency}
use Rattle.lockfile.specs.Again.{AreVirtuals, Has, HasKind, IsDependency, IsVariant}
use Rattle.lockfile.proofs.WrittenLaws.{entries_again, items_again, never_twice, values_written, written}

-- ---- texts

text_again : (means : Text → Option Text) (text : Text) → Has means text → text_of means (string text) ≡ Ok text
text_again means text is = rw is refl

texts_read : (means : Text → Option Text) (texts : List Text) → ((t : Text) → Contains texts t → Has means t)
    → texts_by means None (items_of (map string texts)) ≡ texts
texts_read means [] each = refl
texts_read means (t ∷ texts) each = rw (each t (has_first t texts))
    (ap (λ ts. t ∷ ts) (texts_read means texts (λ u has. each u (has_later t texts u has))))

last : (texts : List Text) → (texts ≡ [] → ⊥) → with_texts [] texts ≡ texts → (filled texts >>= λ ts. Ok (with_texts [] ts)) ≡ Ok texts
last [] some is = absurd (some refl)
last (t ∷ texts) some is = ap Ok is

values_again : (v : Text × List Text) → IsVariant v → variant_values_at (texts_data v.1) ≡ Ok v.1
unfolding variant_values_at
values_again v fit =
    let each : (t : Text) → Contains v.1 t → Has value_meaning t = λ t has. All-contains (Has value_meaning) v.1 t fit.values has in
    rw (
      texts_read value_meaning v.1 each,
      never_twice [] v.1 0 (λ b k none has. absurd (lacks_all b none)) fit.order,
      items_again
          (λ (t : Text). t) string (text_of value_meaning) 0 v.1 (λ t has. text_again value_meaning t (each t has)),
    )
    (last v.1 fit.some (sym (one_by_one v.1 v.1 fit.order (λ q. (λ h. h, λ h. h)))))

kinds_again : (build link run : Bool) → (build || link || run) ≡ true
    → kinds_at (texts_data (kind_texts (record { build = build; link = link; run = run })))
    ≡ Ok (record { build = build; link = link; run = run })
unfolding kinds_at
kinds_again true true true some = refl
kinds_again true true false some = refl
kinds_again true false true some = refl
kinds_again true false false some = refl
kinds_again false true true some = refl
kinds_again false true false some = refl
kinds_again false false true some = refl
kinds_again false false false some = absurd (false≢true some)

-- names that are not none are read as they were written
names_again : (names : List Text) → (names ≡ [] → ⊥) → AreVirtuals names → virtuals_at (texts_data names) ≡ Ok names
unfolding virtuals_at
names_again names some fit =
    let each : (t : Text) → Contains names t → Has name_meaning t = λ t has. All-contains (Has name_meaning) names t fit.names has in
    rw (
      texts_read name_meaning names each,
      never_twice [] names 0 (λ b k none has. absurd (lacks_all b none)) fit.order,
      items_again
          (λ (t : Text). t) string (text_of name_meaning) 0 names (λ t has. text_again name_meaning t (each t has)),
    )
    (last names some (sym (one_by_one names names fit.order (λ q. (λ h. h, λ h. h)))))

virtuals_again : (name : Text) (names : List Text) → AreVirtuals (name ∷ names)
    → virtuals_at (texts_data (name ∷ names)) ≡ Ok (name ∷ names)
virtuals_again name names fit = names_again (name ∷ names) (cons_some name names) fit
  where
    cons_some : (x : Text) (xs : List Text) → x ∷ xs ≡ [] → ⊥
    cons_some x xs e = cc

-- a dependency is read as it was written, whether or not it names virtuals
dependency_by : (hash : Text) (kinds : Kinds) (virtuals : List Text) → Has hash_meaning hash → HasKind kinds → AreVirtuals virtuals
    → dependency_at true (dependency_data (record { hash = hash; kinds = kinds; virtuals = virtuals }))
    ≡ Ok (record { hash = hash; kinds = kinds; virtuals = virtuals })
unfolding dependency_at
dependency_by hash kinds [] formed some fit = rw (formed, kinds_again kinds.build kinds.link kinds.run some) refl
dependency_by hash kinds (name ∷ names) formed some fit =
    rw (formed, kinds_again kinds.build kinds.link kinds.run some, virtuals_again name names fit) refl

dependency_again : (d : Dependency) → IsDependency d → dependency_at true (dependency_data d) ≡ Ok d
dependency_again d fit = dependency_by d.hash d.kinds d.virtuals fit.hash fit.kind fit.virtuals

-- ---- the lists

-- variants are read as they were written
pub variants_again : (variants : List (Text × List Text)) → All IsVariant variants
    → IsInOrder byte_cmp (λ (v : Text × List Text). v.0) variants
    → map_of name_meaning variant_values_at (object (variant_members variants)) ≡ Ok variants
variants_again variants fit order =
    rw (written (λ (v : Text × List Text). v.0) (λ (v : Text × List Text). texts_data v.1) variants order)
    (entries_again (λ (v : Text × List Text). texts_data v.1) name_meaning variant_values_at variants (λ v has. let is =
    All-contains IsVariant variants v fit has in (is.name, values_again v is)))

hashes_read : (dependencies : List Dependency) → texts_by Some (Some (codes "hash")) (items_of (map dependency_data dependencies))
    ≡ map (λ (d : Dependency). d.hash) dependencies
hashes_read [] = refl
hashes_read (d ∷ dependencies) = ap (λ hashes. d.hash ∷ hashes) (hashes_read dependencies)

-- dependencies are read as they were written
pub dependencies_again : (dependencies : List Dependency) → All IsDependency dependencies
    → IsInOrder byte_cmp (λ (d : Dependency). d.hash) dependencies
    → set_of Some (Some (codes "hash")) (dependency_at true) (array (values_of (dependency_members dependencies))) ≡ Ok dependencies
dependencies_again dependencies fit order =
    let key = λ (d : Dependency). d.hash in
    rw (
      written key dependency_data dependencies order,
      values_written key dependency_data dependencies,
      hashes_read dependencies,
      never_twice [] (map key dependencies) 0 (λ b k none has. absurd (lacks_all b none)) order,
      items_again key dependency_data (dependency_at true) 0 dependencies
          (λ d has. dependency_again d (All-contains IsDependency dependencies d fit has)),
    ) refl
