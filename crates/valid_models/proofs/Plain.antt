-- The words of rules that speak of no path.
use Rattle.std.proofs.Common.{◌≡◌, refl, Bool, true, ℕ, List, None}
use Rattle.std.specs.Prelude.{◌&&◌, slice_get, is_some}
use Rattle.std.specs.Str.{bytes_eq}
use Rattle.clause_formulas.specs.Statements.{eval}
use Rattle.clause_formulas.specs.Rules.{fact, isnt, if_so}
use Rattle.graph_core.specs.Graphs.{Text, no_kinds}
use Rattle.graph_core.specs.declared.node.Node.{Node}
use Rattle.graph_core.specs.declared.node.Kinds.{Kinds}
use Rattle.graph_core.specs.declared.node.Origin.{Origin}
use Rattle.graph_core.specs.declared.node.Origin.TheVariants.{Built, External, Installed}
use Rattle.condition_rules.specs.Words.{is_one_text}
use Rattle.problem.specs.Problems.{Problem, world_of, package_entry_of, externals_in, record_at, recipe_at, is_buildable_in}
use Rattle.problem.specs.Records.{kept_dependencies}
use Rattle.reuse_db.specs.declared.record.Record.{Record}
use Rattle.graph_rules.specs.Kept.{external_node}
use Rattle.reuse_db.specs.Installed.{installed_node}
use Rattle.literal_table.specs.Tables.{Table}
use Rattle.reuse_db.specs.declared.record.Dependency.{Dependency}
use Rattle.graph_formulas.specs.Facts.{GraphWord, provides_as, node_has, has_origin, has_os, has_target, has_edge}
use Rattle.graph_formulas.specs.Lists.{◌and◌, each_keeps}
use Rattle.graph_formulas.specs.Built.{buildable_rule, version_rule, entry_rule, compiler_rule, machine_rule, provider_rule}
use Rattle.graph_formulas.specs.Kept.{joined_rule, same_rule, kinds_rule, is_child_name, child_rule, recorded_rule, origin_rule, kept_rule}
use Rattle.problem.specs.Nodes.{same_origin}
use Rattle.graph_encoding.specs.Formulas.{PathFormulas}
use Rattle.valid_models.proofs.Words.{AllWords, given-all, written-all, named-all, each-all, some-all}
use Rattle.valid_models.proofs.Mentions.{Alike, provides-alike}

module _ (v : ℕ → Bool) (t : Table) (path other : PathFormulas) (told : Text → Bool)
    (same : (from to : Text) → told to ≡ true → eval v (path from to) ≡ eval v (other from to)) (problem : Problem) where
  abbrev W : GraphWord → Type 0
  W = Alike v t path other told same

  -- the words of the rule of buildable names; so with the other rules
  pub buildable-alike : (name : Text) → AllWords W (buildable_rule problem name)
  buildable-alike name = given-all W (is_some (recipe_at problem name) && is_buildable_in (package_entry_of problem name))

  pub version-alike : (name : Text) → AllWords W (version_rule problem name)
  version-alike name = refl

  pub compiler-alike : (name : Text) → AllWords W (compiler_rule problem name)
  compiler-alike name = some-all W (entry_rule problem name)
      (λ entry. (
        refl,
        (
          written-all W (λ names. fact (node_has name (has_os (is_one_text names)))) (λ names. refl) entry.os,
          written-all W (λ names. fact (node_has name (has_target (is_one_text names)))) (λ names. refl) entry.targets,
        ),
      ))
      problem.settings.compilers

  pub machine-alike : (name : Text) → AllWords W (machine_rule problem name)
  machine-alike name = (refl, refl)

  pub provider-alike : (p : Text × Text) → AllWords W (provider_rule problem p)
  provider-alike p = provides-alike v t path other told same (world_of problem) p.1 p.0 None

  same-alike : (name : Text) (k : Node) → AllWords W (same_rule name k)
  same-alike name k = ((((((given-all W (bytes_eq name k.name), refl), refl), refl), refl), refl), refl)

  kinds-alike : (name child : Text) (kinds : Kinds) → AllWords W (kinds_rule name child kinds)
  kinds-alike name child kinds = (((refl, refl), (refl, given-all W kinds.link)), (refl, given-all W kinds.run))

  module _ (children : List Text) where
    child-alike : (name : Text) (d : Dependency) → AllWords W (child_rule problem children name d)
    child-alike name d = named-all W (λ (child : Record). joined_rule name child.name d)
        (λ child. (
          (refl, (kinds-alike name child.name d.kinds, refl)),
          each-all W (λ virtual. fact (provides_as virtual child.name))
              (λ virtual. refl) d.virtuals,
        ))
        (record_at problem d.hash)

    origin-alike : (name : Text) (origin : Origin) → AllWords W (origin_rule problem children name origin)
    origin-alike name Built = refl
    origin-alike name (External place) = (
      named-all W (λ entry. same_rule name (external_node problem name place entry))
          (λ entry. same-alike name (external_node problem name place entry))
          (slice_get (externals_in (package_entry_of problem name)) place),
      each-all W (λ child. isnt (fact (has_edge name child no_kinds))) (λ child. refl) children,
    )
    origin-alike name (Installed hash) = named-all W
        (λ entry. same_rule name (installed_node entry) and each_keeps (child_rule problem children name) (kept_dependencies entry) and
        each_keeps (recorded_rule problem children name entry) children)
        (λ entry. (
          (
            same-alike name (installed_node entry),
            each-all W (child_rule problem children name) (child-alike name)
                (kept_dependencies entry),
          ),
          each-all W (recorded_rule problem children name entry) (λ child. (refl, given-all W (is_child_name problem entry child)))
              children,
        ))
        (record_at problem hash)

    -- the words of the rule of kept nodes
    pub kept-alike : (origins : List Origin) (name : Text) → AllWords W (kept_rule problem children origins name)
    kept-alike origins name =
        each-all W (λ origin. if_so (fact (node_has name (has_origin (same_origin origin)))) (origin_rule problem children name origin))
        (λ origin. (refl, origin-alike name origin)) origins
