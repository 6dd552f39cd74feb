-- A node to build has its forms.
use Rattle.std.proofs.Common.{◌≡◌, refl, sym, subst, true, false, ◌&&◌, List, [], length, map, All, Some}
use Rattle.std.specs.List.{list_all, list_any}
use Rattle.std.specs.List.Sorted.{IsStrictlySortedBy}
use Rattle.std.specs.Str.{bytes_eq}
use Rattle.std.proofs.lemmas.Bool.{and_parts}
use Rattle.variant_values.specs.Texts.{IsInByteOrder, byte_cmp}
use Rattle.keyed_lists.specs.Keyed.{IsInOrder}
use Rattle.json_texts.specs.Forms.{name_meaning, value_meaning, version_in}
use Rattle.graph_core.specs.Graphs.{Text, Content}
use Rattle.graph_core.specs.OfVariantValues.VariantKind.{VariantKind}
use Rattle.graph_core.specs.OfVariantValues.VariantKindVariants as kinds
use Rattle.graph_core.specs.declared.node.Node.{Node}
use Rattle.graph_core.specs.declared.node.Origin.TheVariants.{Built}
use Rattle.recipe_data.specs.Right.{is_count_of}
use Rattle.recipe_data.specs.declared.recipe.VersionRow.{VersionRow}
use Rattle.site_settings.specs.declared.settings.CompilerEntry.{CompilerEntry}
use Rattle.target_table.specs.declared.entry.TargetEntry.{TargetEntry}
use Rattle.condition_rules.specs.Holds.{governing}
use Rattle.condition_rules.specs.Words.{is_one_text}
use Rattle.problem.specs.Nodes.{IsWellFormed, is_built}
use Rattle.problem.specs.Problems.{Problem, recipe_at, same_compiler, versions_at, world_of}
use Rattle.graph_rules.specs.Built.{allows, governed, is_allowed, keeps_buildable, keeps_compiler, keeps_machine, keeps_variant, keeps_version, supports}
use Rattle.graph_rules.specs.Valid.{keeps, valid}
use Rattle.graph_rules.specs.declared.rule.Rule.TheVariants as rules
use Rattle.graph_rules.proofs.KeptLaws.{lists-same}
use Rattle.graph_rules.proofs.Lists.{In, In-among, any-in, bytes_eq-same, list_all-each, some-and}
use Rattle.graph_rules.proofs.ValidLaws.{rule-of}
use Rattle.graph_rules.proofs.BuiltTests.{at_built}
use Rattle.lockfile.specs.Again.{Has, IsCompiler, IsVariant}
use Rattle.lockfile.specs.Writable.{HasForms}
use Rattle.lock_laws.specs.Forms.{IsFormedProblem}
use Rattle.lock_laws.proofs.Each.{all-each, all-from}
use Rattle.lock_laws.proofs.Recipes.{governing-is, recipe-is, row-is, some-of}
use Rattle.lock_laws.proofs.Sets.{set-in-order}

-- each kind takes a value
takes-some : (kind : VariantKind) (values : List Text) → is_count_of kind (length values) ≡ true → values ≡ [] → ⊥
takes-some kinds.Bool values h e = let bad : false ≡ true = rw e at h in cc
takes-some kinds.Single values h e = let bad : false ≡ true = rw e at h in cc
takes-some kinds.Multi values h e = let bad : false ≡ true = rw e at h in cc

module _ (problem : Problem) (graph : Content) (formed : IsFormedProblem problem) (right : IsWellFormed graph)
    (v : valid problem graph ≡ true) (node : Node) (there : In node graph.nodes) (origin : node.origin ≡ Built) where
  built : is_built node ≡ true
  built = rw origin refl

  name : Has name_meaning node.name
  unfolding keeps keeps_buildable
  name =
      let kept = at_built (keeps_buildable problem) graph node (rule-of problem graph rules.Buildable v) there built in
      let some = some-of (recipe_at problem node.name) (and_parts _ _ kept).0 in
      let is = recipe-is problem formed node.name some.0 some.1 in
      subst (Has name_meaning) is.1 is.0.name

  version : Has version_in node.version
  unfolding keeps keeps_version
  version =
      let kept = at_built (keeps_version problem) graph node (rule-of problem graph rules.Version v) there built in
      let row = any-in (λ (r : VersionRow). bytes_eq r.version node.version) (versions_at problem node.name) kept in
      subst (Has version_in) (bytes_eq-same row.0.version node.version row.2)
      (row-is problem formed (λ recipe. recipe.versions) (λ (r : VersionRow). Has version_in r.version) (λ recipe is. is.versions)
      node.name row.0 row.1)

  compiler : IsCompiler node.compiler
  unfolding keeps keeps_compiler
  compiler =
      let kept = at_built (keeps_compiler problem) graph node (rule-of problem graph rules.Compiler v) there built in
      let some = some-and node.compiler
      (λ compiler. list_any (λ entry. same_compiler entry.compiler compiler && supports entry node) problem.settings.compilers) kept in
      let entry = any-in (λ (entry : CompilerEntry). same_compiler entry.compiler some.0 && supports entry node) problem.settings.compilers
      some.2 in
      let same = and_parts (bytes_eq entry.0.compiler.name some.0.name) (bytes_eq entry.0.compiler.version some.0.version)
      (and_parts (same_compiler entry.0.compiler some.0) _ entry.2).0 in
      let is = all-each (λ (e : CompilerEntry). IsCompiler (Some e.compiler)) problem.settings.compilers entry.0
      formed.settings.compilers entry.1 in
      subst IsCompiler (sym some.1) (
        subst (Has name_meaning) (bytes_eq-same entry.0.compiler.name some.0.name same.0) is.0,
        subst (Has version_in) (bytes_eq-same entry.0.compiler.version some.0.version same.1) is.1,
      )

  machine : Has value_meaning node.os × Has value_meaning node.target
  unfolding keeps keeps_machine
  machine =
      let kept = and_parts _ _ (at_built (keeps_machine problem) graph node (rule-of problem graph rules.Machine v) there built) in
      let entry = any-in (λ (entry : TargetEntry). bytes_eq entry.name node.target) problem.settings.targets kept.1 in (
        all-each (Has value_meaning) problem.settings.os node.os formed.settings.os (In-among problem.settings.os node.os kept.0),
        subst (Has value_meaning) (bytes_eq-same entry.0.name node.target entry.2)
            (all-each (λ (e : TargetEntry). Has value_meaning e.name) problem.settings.targets entry.0 formed.settings.targets entry.1),
      )

  -- ---- variants

  one-variant : (w : Text × List Text) → In w node.variants → is_allowed problem graph node w ≡ true → IsVariant w
  one-variant w here allowed =
      let row = some-and (governing (world_of problem) graph node.name w.0) (allows w.1) allowed in
      let is = governing-is problem formed graph node.name w.0 row.0 row.1 in
      let parts = and_parts (list_all (is_one_text row.0.values) w.1) (is_count_of row.0.kind (length w.1)) row.2 in
      record {
        name = subst (Has name_meaning) is.1 is.0.name;
        some = takes-some row.0.kind w.1 parts.1;
        order = all-each (λ (u : Text × List Text). IsInByteOrder u.1) node.variants w
            (all-each (λ (n : Node). All (λ u. IsInByteOrder u.1) n.variants) graph.nodes node right.values there) here;
        values = all-from (Has value_meaning) w.1 (λ text stands.
            all-each (Has value_meaning) row.0.values text is.0.values
            (In-among row.0.values text (list_all-each (is_one_text row.0.values) w.1 text parts.0 stands)));
      }

  variants : All IsVariant node.variants × IsInOrder byte_cmp (λ w. w.0) node.variants
  unfolding keeps keeps_variant
  variants =
      let kept = and_parts _ _ (at_built (keeps_variant problem graph) graph node (rule-of problem graph rules.Variant v) there built) in
      let same : map (λ w. w.0) node.variants ≡ governed problem graph node =
      lists-same bytes_eq bytes_eq-same (map (λ w. w.0) node.variants) (governed problem graph node) kept.0 in (
        all-from IsVariant node.variants (λ w here.
            one-variant w here (list_all-each (is_allowed problem graph node) node.variants w kept.1 here)),
        subst (IsStrictlySortedBy byte_cmp) (sym same) (set-in-order _),
      )

  pub built-forms : HasForms node
  built-forms = record {
    name = name;
    version = version;
    os = machine.0;
    target = machine.1;
    compiler = compiler;
    variants = variants.0;
    variant_order = variants.1;
  }
