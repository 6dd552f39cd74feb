-- The node of an external has its forms.
use Rattle.std.proofs.Common.{◌≡◌, refl, sym, subst, true, ℕ, List, [], ◌∷◌, ◌++◌, map, find, All, Option, Some, None, inl, inr, ◌⊎◌, slice_get}
use Rattle.std.specs.List.Sorted.{IsStrictlySortedBy}
use Rattle.std.specs.Option.{unwrap_or}
use Rattle.std.specs.Prelude.{IfSome}
use Rattle.std.specs.Str.{bytes_eq}
use Rattle.variant_values.specs.Texts.{byte_cmp, with_texts}
use Rattle.json_texts.specs.Forms.{name_meaning, value_meaning}
use Rattle.graph_core.specs.Graphs.{Text}
use Rattle.recipe_data.specs.declared.recipe.VariantRow.{VariantRow}
use Rattle.site_settings.specs.declared.settings.ExternalEntry.{ExternalEntry}
use Rattle.site_settings.specs.declared.settings.PackageEntry.{PackageEntry}
use Rattle.target_table.specs.declared.entry.TargetEntry.{TargetEntry}
use Rattle.condition_rules.specs.Words.{find_last}
use Rattle.problem.specs.Problems.{Problem, externals_in, package_entry_of, variants_at}
use Rattle.graph_rules.specs.Kept.{Variants, completed, default_in, external_node, first_text, written_or}
use Rattle.graph_rules.proofs.Lists.{In, In-contains, bytes_eq-itself, bytes_eq-same, find-in, from_map}
use Rattle.graph_rules.proofs.NumberedRows.{slice_get-in}
use Rattle.lockfile.specs.Again.{Has, IsVariant}
use Rattle.lockfile.specs.Writable.{HasForms}
use Rattle.lock_laws.specs.Forms.{IsFormedExternal, IsFormedProblem, IsFormedRow}
use Rattle.lock_laws.proofs.Each.{all-each, all-from, find-some, last-in, last-some}
use Rattle.lock_laws.proofs.Recipes.{row-is}
use Rattle.lock_laws.proofs.Sets.{from-set, names-of-pairs, set-in-order}

-- ---- texts that may be missing

text-or : (o : Option Text) (texts : List Text) → IfSome o (Has value_meaning) → All (Has value_meaning) texts → (texts ≡ [] → ⊥)
    → Has value_meaning (unwrap_or o (first_text texts))
text-or (Some text) texts is all some = is
text-or None [] is all some = absurd (some refl)
text-or None (t ∷ ts) is all some = all-each (Has value_meaning) (t ∷ ts) t all (inl refl)

target-names : (targets : List TargetEntry) → All (λ (t : TargetEntry). Has value_meaning t.name) targets
    → All (Has value_meaning) (map (λ (t : TargetEntry). t.name) targets)
target-names targets all = all-from (Has value_meaning) (map (λ (t : TargetEntry). t.name) targets) (λ text there.
    let from = from_map (λ (t : TargetEntry). t.name) targets text there in
    subst (Has value_meaning) (sym from.2) (all-each (λ (t : TargetEntry). Has value_meaning t.name) targets from.0 all from.1))

some-names : (targets : List TargetEntry) → (targets ≡ [] → ⊥) → map (λ (t : TargetEntry). t.name) targets ≡ [] → ⊥
some-names [] some e = some refl
some-names (t ∷ ts) some e = let bad : t.name ∷ map (λ (u : TargetEntry). u.name) ts ≡ [] = e in cc

-- ---- variants

in-either : (xs ys : List Text) (x : Text) → In x (xs ++ ys) → In x xs ⊎ In x ys
in-either [] ys x there = inr there
in-either (z ∷ zs) ys x (inl same) = inl (inl same)
in-either (z ∷ zs) ys x (inr later) = elim (in-either zs ys x later) [ inl first ↦ inl (inr first) | inr second ↦ inr second ]

module _ (written : Variants) (rows : List VariantRow) (formed : All IsVariant written) (right : All IsFormedRow rows) where
  -- what stands in neither is no name of theirs
  by-default : (name : Text) → In name (map (λ v. v.0) written ++ map (λ row. row.name) rows)
      → find (λ v. bytes_eq v.0 name) written ≡ None
      → (o : Option VariantRow) → find_last (λ row. bytes_eq row.name name) rows ≡ o → IsVariant (name, default_in o)
  by-default name there none (Some row) e =
      let r = last-in (λ (row : VariantRow). bytes_eq row.name name) rows row e in
      subst (λ n. IsVariant (n, row.default)) (bytes_eq-same row.name name r.1) (all-each IsFormedRow rows row right r.0).default
  by-default name there none None e = absurd (elim (in-either (map (λ v. v.0) written) (map (λ row. row.name) rows) name there) [
    | inl first ↦
        let from = from_map (λ (v : Text × List Text). v.0) written name first in
        find-some (λ (v : Text × List Text). bytes_eq v.0 name) written from.0 from.1
        (subst (λ n. bytes_eq n name ≡ true) from.2 (bytes_eq-itself name)) none
    | inr second ↦
        let from = from_map (λ (row : VariantRow). row.name) rows name second in
        last-some (λ (row : VariantRow). bytes_eq row.name name) rows from.0 from.1
        (subst (λ n. bytes_eq n name ≡ true) from.2 (bytes_eq-itself name)) e
  ])

  by-written : (name : Text) → In name (map (λ v. v.0) written ++ map (λ row. row.name) rows)
      → (o : Option (Text × List Text)) → find (λ v. bytes_eq v.0 name) written ≡ o
      → IsVariant (name, written_or o (default_in (find_last (λ row. bytes_eq row.name name) rows)))
  by-written name there (Some w) e =
      let r = find-in (λ (v : Text × List Text). bytes_eq v.0 name) written w e in
      subst (λ n. IsVariant (n, w.1)) (bytes_eq-same w.0 name r.1) (all-each IsVariant written w formed r.0)
  by-written name there None e = by-default name there e (find_last (λ row. bytes_eq row.name name) rows) refl

  completed-is : (name : Text) → In name (map (λ v. v.0) written ++ map (λ row. row.name) rows)
      → IsVariant (name, completed written rows name)
  completed-is name there = by-written name there (find (λ v. bytes_eq v.0 name) written) refl

-- ---- nodes

module _ (problem : Problem) (formed : IsFormedProblem problem) where
  by-one : (name : Text) (place : ℕ) (entry : ExternalEntry) (o : Option PackageEntry)
      → find (λ (e : PackageEntry). bytes_eq e.name name) problem.settings.packages ≡ o
      → slice_get (externals_in o) place ≡ Some entry → IsFormedExternal entry × Has name_meaning name
  by-one name place entry None e at = absurd (let none : None ≡ Some entry = at in cc)
  by-one name place entry (Some one) e at =
      let r = find-in (λ (e : PackageEntry). bytes_eq e.name name) problem.settings.packages one e in (
        all-each IsFormedExternal one.externals entry
            (all-each (λ (e : PackageEntry). All IsFormedExternal e.externals) problem.settings.packages one formed.settings.externals r.0)
            (slice_get-in one.externals place entry at),
        subst (Has name_meaning) (bytes_eq-same one.name name r.1)
            (all-each (λ (e : PackageEntry). Has name_meaning e.name) problem.settings.packages one formed.settings.packages r.0),
      )

  -- what is written of an external has its forms, and so has its package's name
  entry-is : (name : Text) (place : ℕ) (entry : ExternalEntry) → slice_get (externals_in (package_entry_of problem name)) place ≡ Some entry
      → IsFormedExternal entry × Has name_meaning name
  unfolding package_entry_of
  entry-is name place entry at =
      by-one name place entry (find (λ (e : PackageEntry). bytes_eq e.name name) problem.settings.packages) refl at

  pub external-forms : (name : Text) (place : ℕ) (entry : ExternalEntry)
      → slice_get (externals_in (package_entry_of problem name)) place ≡ Some entry → HasForms (external_node problem name place entry)
  unfolding external_node
  external-forms name place entry at =
      let is = entry-is name place entry at in
      let rows = variants_at problem name in
      let rows-are =
      all-from IsFormedRow rows (row-is problem formed (λ recipe. recipe.variants) IsFormedRow (λ recipe r. r.variants) name) in
      let all : List Text = map (λ v. v.0) entry.variants ++ map (λ row. row.name) rows in
      let names : List Text = with_texts [] all in
      record {
        name = is.1;
        version = is.0.version;
        os = text-or entry.os problem.settings.os is.0.os formed.settings.os formed.settings.some_os;
        target = text-or entry.target (map (λ t. t.name) problem.settings.targets) is.0.target
            (target-names problem.settings.targets formed.settings.targets)
            (some-names problem.settings.targets formed.settings.some_target);
        compiler = is.0.compiler;
        variants = all-from IsVariant (map (λ v. (v, completed entry.variants rows v)) names) (λ w there.
            let from = from_map (λ v. (v, completed entry.variants rows v)) names w there in
            subst IsVariant (sym from.2) (completed-is entry.variants rows is.0.variants rows-are from.0
            (from-set all from.0 (In-contains names from.0 from.1))));
        variant_order = subst (IsStrictlySortedBy byte_cmp) (sym (names-of-pairs (completed entry.variants rows) names)) (set-in-order all);
      }
