-- How many values a variant may have.
use Rattle.std.proofs.Common.{◌≡◌, refl, sym, subst, ℕ, ◌+◌, ◌^◌, ◌≤◌, Bool, true, false, List, [], ◌∷◌, ◌++◌, map, length, Option, Some, None, Contains, inl, ⊎_elim, arith, length-append}
use Rattle.std.specs.List.{filter, find, flat_map, sum_by}
use Rattle.std.specs.Str.{bytes_eq}
use Rattle.std.specs.Ordering.{match_ordering}
use Rattle.std.specs.declared.cmp.Ordering.{Ordering}
use Rattle.std.specs.declared.cmp.Ordering.TheVariants.{Less, Equal, Greater}
use Rattle.std.proofs.lemmas.List.Concat.{length-flat_map}
use Rattle.std.proofs.lemmas.List.Elements.{Contains-append_cases, Contains-append_left, Contains-append_right}
use Rattle.reachability.proofs.CountLaws.{has_first, has_later, first_or_later, image_of}
use Rattle.reachability.proofs.SpreadLaws.{from_filter}
use Rattle.variant_values.specs.Texts.{Texts, byte_cmp, with_text, with_texts}
use Rattle.graph_core.specs.Graphs.{Text}
use Rattle.graph_core.specs.declared.node.Node.{Node}
use Rattle.recipe_data.specs.declared.recipe.VariantRow.{VariantRow}
use Rattle.condition_rules.specs.Words.{find_last}
use Rattle.site_settings.specs.declared.settings.ExternalEntry.{ExternalEntry}
use Rattle.site_settings.specs.declared.settings.PackageEntry.{PackageEntry}
use Rattle.reuse_db.specs.declared.record.Record.{Record}
use Rattle.problem.specs.Problems.{Problem, variants_at, package_entry_of, externals_in}
use Rattle.graph_rules.specs.Kept.{external_node, completed, written_or, default_in}
use Rattle.reuse_db.specs.Installed.{installed_node}
use Rattle.possible_closure.proofs.Lists.{nothing, found-there, in_flat_map, from_flat_map, from_texts, in_texts, none_in_order, texts_in_order, no_more}
use Rattle.table_plan.specs.Gathering.{listed}
use Rattle.table_plan.specs.Kept.{external_nodes, kept_nodes}
use Rattle.table_plan.specs.Plans.{can_build, variant_values}
use Rattle.table_plan.proofs.NodeLaws.{find_last-in}
use Rattle.problem.specs.Limits.{size_of_settings, set_members, external_members, size_of_package, variant_members, record_members}
use Rattle.ranked_costs.proofs.Sums.{sum-le-in, sum-at, sum-add}
use Rattle.ranked_costs.proofs.Weights.{IsWithin, rows-in}

-- ---- sets of texts have no more than what is put to them

length-insert : (texts : Texts) (text : Text) → length (with_text texts text) ≤ length texts + 1
length-insert [] text = omega arith
length-insert (x ∷ xs) text = length-insert-cases (length-insert xs text) (byte_cmp text x)
  where
    length-insert-cases : length (with_text xs text) ≤ length xs + 1 → (o : Ordering)
        → length (match_ordering o (text ∷ x ∷ xs) (x ∷ xs) (x ∷ with_text xs text)) ≤ length (x ∷ xs) + 1
    length-insert-cases rest Less = omega arith
    length-insert-cases rest Equal = omega arith
    length-insert-cases rest Greater = omega arith

-- a set has no more texts than were put in
pub texts-few : (texts words : Texts) → length (with_texts texts words) ≤ length texts + length words
unfolding with_texts
texts-few texts [] = omega arith
texts-few texts (word ∷ words) = omega (arith, length-insert texts word, texts-few (with_text texts word) words)

from-listed : {T : Type 0} (b : Bool) (xs : List T) (x : T) → Contains (listed b xs) x → Contains xs x
from-listed true xs x there = there
from-listed false xs x there = absurd (nothing x there)

-- ---- where values come from

abbrev values_of : List (Text × List Text) → List Text
values_of variants = flat_map (λ v. v.1) variants

length-values : (variants : List (Text × List Text)) → length (values_of variants) ≡ variant_members variants
length-values variants = length-flat_map (λ (v : Text × List Text). v.1) variants

module _ (problem : Problem) where
  abbrev Declared : Text → List Text
  Declared name = flat_map (λ row. row.values) (variants_at problem name)

  abbrev Defaults : Text → List Text
  Defaults name = flat_map (λ row. row.default) (variants_at problem name)

  abbrev Written : Text → List Text
  Written name = flat_map (λ entry. values_of entry.variants) (externals_in (package_entry_of problem name))

  abbrev Recorded : List Text
  Recorded = flat_map (λ entry. values_of entry.variants) problem.database

  abbrev Sources : Text → List Text
  Sources name = (Declared name ++ Defaults name) ++ (Written name ++ Recorded)

  declared-there : (name q : Text) → Contains (Declared name) q → Contains (Sources name) q
  declared-there name q there =
      Contains-append_left (Declared name ++ Defaults name) (Written name ++ Recorded) q
      (Contains-append_left (Declared name) (Defaults name) q there)

  default-there : (name q : Text) → Contains (Defaults name) q → Contains (Sources name) q
  default-there name q there =
      Contains-append_left (Declared name ++ Defaults name) (Written name ++ Recorded) q
      (Contains-append_right (Declared name) (Defaults name) q there)

  written-there : (name q : Text) → Contains (Written name) q → Contains (Sources name) q
  written-there name q there =
      Contains-append_right (Declared name ++ Defaults name) (Written name ++ Recorded) q
      (Contains-append_left (Written name) Recorded q there)

  recorded-there : (name q : Text) → Contains Recorded q → Contains (Sources name) q
  recorded-there name q there =
      Contains-append_right (Declared name ++ Defaults name) (Written name ++ Recorded) q
      (Contains-append_right (Written name) Recorded q there)

  -- ---- externals

  from-externals : (name : Text) (from : ℕ) (entries : List ExternalEntry) (node : Node)
      → Contains (external_nodes problem name from entries) node
      → (entry : ExternalEntry) × (place : ℕ) × Contains entries entry × (external_node problem name place entry ≡ node)
  from-externals name from [] node there = absurd (nothing node there)
  from-externals name from (entry ∷ more) node there = ⊎_elim
      (λ same. (entry, from, has_first entry more, same))
      (λ later. let rest = from-externals name (from + 1) more node later in (rest.0, rest.1, has_later entry more rest.0 rest.2, rest.3))
      (first_or_later (external_node problem name from entry) (external_nodes problem name (from + 1) more) node there)

  in-defaults : (name v q : Text) (o : Option VariantRow) → find_last (λ row. bytes_eq row.name v) (variants_at problem name) ≡ o
      → Contains (default_in o) q → Contains (Defaults name) q
  in-defaults name v q None is there = absurd (nothing q there)
  in-defaults name v q (Some row) is there =
      in_flat_map (λ (r : VariantRow). r.default) (variants_at problem name) row q
      (find_last-in (λ (r : VariantRow). bytes_eq r.name v) (variants_at problem name) row is).0 there

  in-completed : (name v q : Text) (entry : ExternalEntry) → Contains (externals_in (package_entry_of problem name)) entry
      → (o : Option (Text × List Text)) → find (λ u. bytes_eq u.0 v) entry.variants ≡ o
      → Contains (written_or o (default_in (find_last (λ row. bytes_eq row.name v) (variants_at problem name)))) q
      → Contains (Sources name) q
  in-completed name v q entry of None is there =
      default-there name q (in-defaults name v q (find_last (λ row. bytes_eq row.name v) (variants_at problem name)) refl there)
  in-completed name v q entry of (Some u) is there =
      written-there name q (in_flat_map (λ (e : ExternalEntry). values_of e.variants)
      (externals_in (package_entry_of problem name)) entry q of
      (in_flat_map (λ (w : Text × List Text). w.1) entry.variants u q
      (found-there (λ (w : Text × List Text). bytes_eq w.0 v) entry.variants u is).0 there))

  of-external : (name q : Text) (place : ℕ) (entry : ExternalEntry) → Contains (externals_in (package_entry_of problem name)) entry
      → (w : Text × List Text) → Contains (external_node problem name place entry).variants w → Contains w.1 q → Contains (Sources name) q
  unfolding external_node
  of-external name q place entry of w there within =
      let from = image_of (λ (v : Text). let p : Text × List Text = (v, completed entry.variants (variants_at problem name) v) in p)
      (with_texts [] (map (λ (u : Text × List Text). u.0) entry.variants
      ++ map (λ (row : VariantRow). row.name) (variants_at problem name))) w there in
      in-completed name from.0 q entry of (find (λ u. bytes_eq u.0 from.0) entry.variants) refl
      (subst (λ (u : Text × List Text). Contains u.1 q) (sym from.2) within)

  of-record : (name q : Text) (entry : Record) → Contains problem.database entry
      → (w : Text × List Text) → Contains (installed_node entry).variants w → Contains w.1 q → Contains (Sources name) q
  unfolding installed_node
  of-record name q entry of w there within =
      recorded-there name q (in_flat_map (λ (e : Record). values_of e.variants) problem.database entry q of
      (in_flat_map (λ (u : Text × List Text). u.1) entry.variants w q there within))

  of-kept : (name q : Text) (node : Node) → Contains (kept_nodes problem name) node
      → (w : Text × List Text) → Contains node.variants w → Contains w.1 q → Contains (Sources name) q
  unfolding kept_nodes
  of-kept name q node there w has within = ⊎_elim
      (λ external.
      let from = from-externals name 0 (externals_in (package_entry_of problem name)) node external in
      of-external name q from.1 from.0 from.2 w (subst (λ (n : Node). Contains n.variants w) (sym from.3) has) within)
      (λ installed.
      let from = image_of installed_node (filter (λ (entry : Record). bytes_eq entry.name name) problem.database) node installed in
      of-record name q from.0 (from_filter (λ (entry : Record). bytes_eq entry.name name) problem.database from.0 from.1).0 w
      (subst (λ (n : Node). Contains n.variants w) (sym from.2) has) within)
      (Contains-append_cases (external_nodes problem name 0 (externals_in (package_entry_of problem name)))
      (map installed_node (filter (λ entry. bytes_eq entry.name name) problem.database)) node there)

  -- ---- all of them

  abbrev Built : Text → Text → List Text
  Built name variant = flat_map (λ row. row.values) (filter (λ row. bytes_eq row.name variant) (variants_at problem name))

  abbrev Kept : Text → Text → List Text
  Kept name variant = flat_map (λ node. flat_map (λ v. v.1) (filter (λ v. bytes_eq v.0 variant) node.variants)) (kept_nodes problem name)

  of-built : (name variant q : Text) → Contains (Built name variant) q → Contains (Sources name) q
  of-built name variant q there =
      let row = from_flat_map (λ (r : VariantRow). r.values)
      (filter (λ (r : VariantRow). bytes_eq r.name variant) (variants_at problem name)) q there in
      declared-there name q (in_flat_map (λ (r : VariantRow). r.values) (variants_at problem name) row.0 q
      (from_filter (λ (r : VariantRow). bytes_eq r.name variant) (variants_at problem name) row.0 row.1).0 row.2)

  of-nodes : (name variant q : Text) → Contains (Kept name variant) q → Contains (Sources name) q
  of-nodes name variant q there =
      let node = from_flat_map (λ (n : Node). flat_map (λ (v : Text × List Text). v.1)
      (filter (λ (v : Text × List Text). bytes_eq v.0 variant) n.variants))
      (kept_nodes problem name) q there in
      let v = from_flat_map (λ (v : Text × List Text). v.1) (filter (λ (v : Text × List Text). bytes_eq v.0 variant) node.0.variants) q
      node.2 in
      of-kept name q node.0 node.1 v.0 (from_filter (λ (v : Text × List Text). bytes_eq v.0 variant) node.0.variants v.0 v.1).0 v.2

  value-there : (name variant q : Text) → Contains (variant_values problem name variant) q → Contains (Sources name) q
  unfolding variant_values
  value-there name variant q there = ⊎_elim
      (λ told. ⊎_elim
      (λ built. of-built name variant q (from-listed (can_build problem name) (Built name variant) q built))
      (λ kept. of-nodes name variant q kept)
      (Contains-append_cases (listed (can_build problem name) (Built name variant)) (Kept name variant) q told))
      (λ none. absurd (nothing q none))
      (from_texts [] (listed (can_build problem name) (Built name variant) ++ Kept name variant) q there)

  values-within : (name variant : Text) → length (variant_values problem name variant) ≤ length (Sources name)
  unfolding variant_values
  values-within name variant =
      let few = no_more (variant_values problem name variant) (with_texts [] (Sources name))
      (texts_in_order [] (listed (can_build problem name) (Built name variant) ++ Kept name variant) none_in_order)
      (texts_in_order [] (Sources name) none_in_order) (λ q there. in_texts [] (Sources name) q (inl (value-there name variant q there))) in
      omega (arith, few, texts-few [] (Sources name))

-- ---- how many these are

module _ (problem : Problem) (limits : IsWithin problem) where
  declared-few : (name : Text) → length (Declared problem name) + length (Defaults problem name) ≤ 2 ^ 28
  declared-few name =
      let members = rows-in problem limits (λ recipe. recipe.variants) (sum_by set_members) refl (λ recipe. omega arith) name in
      omega (
        arith,
        members,
        length-flat_map (λ (r : VariantRow). r.values) (variants_at problem name),
        length-flat_map (λ (r : VariantRow). r.default) (variants_at problem name),
        sum-add (λ (r : VariantRow). length r.values) (λ (r : VariantRow). length r.default) (variants_at problem name),
      )

  written-of : (name : Text) (o : Option PackageEntry) → find (λ entry. bytes_eq entry.name name) problem.settings.packages ≡ o
      → sum_by external_members (externals_in o) ≤ size_of_settings problem.settings
  written-of name None is = omega arith
  written-of name (Some entry) is =
      omega (
        arith,
        sum-at size_of_package problem.settings.packages entry
            (found-there (λ (e : PackageEntry). bytes_eq e.name name) problem.settings.packages entry is).0,
      )

  written-in : (name : Text) → sum_by external_members (externals_in (package_entry_of problem name)) ≤ size_of_settings problem.settings
  unfolding package_entry_of
  written-in name = written-of name (find (λ entry. bytes_eq entry.name name) problem.settings.packages) refl

  written-few : (name : Text) → length (Written problem name) ≤ 2 ^ 24
  written-few name =
      let each = sum-le-in (λ (e : ExternalEntry). length (values_of e.variants)) external_members
      (externals_in (package_entry_of problem name))
      (λ e there. omega (arith, length-values e.variants)) in
      omega (
        arith,
        each,
        limits.settings,
        written-in name,
        length-flat_map (λ (e : ExternalEntry). values_of e.variants)
            (externals_in (package_entry_of problem name)),
      )

  recorded-few : length (Recorded problem) ≤ 2 ^ 26
  recorded-few =
      let each = sum-le-in (λ (e : Record). length (values_of e.variants)) record_members problem.database
      (λ e there. omega (arith, length-values e.variants)) in
      omega (arith, each, limits.database, length-flat_map (λ (e : Record). values_of e.variants) problem.database)

  -- a variant has at most 2^29 values
  pub values-few : (name variant : Text) → length (variant_values problem name variant) ≤ 2 ^ 29
  values-few name variant =
      omega (
        arith,
        values-within problem name variant,
        declared-few name,
        written-few name,
        recorded-few,
        length-append (Declared problem name ++ Defaults problem name) (Written problem name ++ Recorded problem),
        length-append (Declared problem name) (Defaults problem name),
        length-append (Written problem name) (Recorded problem),
      )
