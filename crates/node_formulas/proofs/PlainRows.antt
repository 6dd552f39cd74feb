-- The rules of one node speak of no path.
use Rattle.std.proofs.Common.{◌≡◌, refl, List}
use Rattle.std.specs.Prelude.{slice_get}
use Rattle.std.specs.Str.{bytes_eq}
use Rattle.clause_formulas.specs.Statements.{Statement}
use Rattle.clause_formulas.specs.Rules.{fact, isnt, if_so}
use Rattle.condition_rules.specs.Words.{is_one_text}
use Rattle.graph_core.specs.Graphs.{Text, no_kinds}
use Rattle.graph_core.specs.declared.node.Node.{Node}
use Rattle.graph_core.specs.declared.node.Kinds.{Kinds}
use Rattle.reuse_db.specs.declared.record.Dependency.{Dependency}
use Rattle.graph_core.specs.declared.node.Origin.{Origin}
use Rattle.graph_core.specs.declared.node.Origin.TheVariants.{Built, External, Installed}
use Rattle.problem.specs.Problems.{Problem, package_entry_of, externals_in, record_at}
use Rattle.problem.specs.Records.{kept_dependencies}
use Rattle.graph_rules.specs.Kept.{external_node}
use Rattle.reuse_db.specs.Installed.{installed_node}
use Rattle.reuse_db.specs.declared.record.Record.{Record}
use Rattle.literal_table.specs.Tables.{Table}
use Rattle.graph_formulas.specs.Facts.{GraphWord, word_said, provides_as, has_origin, has_os, has_target, has_edge, node_has}
use Rattle.graph_formulas.specs.Lists.{◌and◌, each_keeps}
use Rattle.graph_formulas.specs.Words.{rule_said}
use Rattle.graph_formulas.specs.Built.{entry_rule, compiler_rule}
use Rattle.graph_formulas.specs.Kept.{joined_rule, same_rule, kinds_rule, is_child_name, child_rule, recorded_rule, origin_rule, kept_rule}
use Rattle.problem.specs.Nodes.{same_origin}
use Rattle.word_formulas.specs.Builders.{no_paths, plain_said}
use Rattle.node_formulas.proofs.Alike.{Alike, same-words, given-alike, written-alike, named-alike, each-alike, some-alike}

module _ (path : Text → Text → Statement) (t : Table) where
  abbrev f : GraphWord → Statement
  f = word_said path t

  abbrev g : GraphWord → Statement
  g = word_said no_paths t

  module _ (problem : Problem) where
    pub compiler-plain : (name : Text) → rule_said path t (compiler_rule problem name) ≡ plain_said t (compiler_rule problem name)
    compiler-plain name = same-words f g (compiler_rule problem name) (some-alike f g (entry_rule problem name)
        (λ entry. (
          refl,
          (
            written-alike f g (λ names. fact (node_has name (has_os (is_one_text names)))) (λ names. refl) entry.os,
            written-alike f g (λ names. fact (node_has name (has_target (is_one_text names)))) (λ names. refl) entry.targets,
          ),
        ))
        problem.settings.compilers)

    same-alike : (name : Text) (k : Node) → Alike f g (same_rule name k)
    same-alike name k = ((((((given-alike f g (bytes_eq name k.name), refl), refl), refl), refl), refl), refl)

    kinds-alike : (name child : Text) (kinds : Kinds) → Alike f g (kinds_rule name child kinds)
    kinds-alike name child kinds = (((refl, refl), (refl, given-alike f g kinds.link)), (refl, given-alike f g kinds.run))

    module _ (children : List Text) where
      child-alike : (name : Text) (d : Dependency) → Alike f g (child_rule problem children name d)
      child-alike name d = named-alike f g (λ (child : Record). joined_rule name child.name d)
          (λ child. (
            (refl, (kinds-alike name child.name d.kinds, refl)),
            each-alike f g (λ virtual. fact (provides_as virtual child.name))
                (λ virtual. refl) d.virtuals,
          ))
          (record_at problem d.hash)

      origin-alike : (name : Text) (origin : Origin) → Alike f g (origin_rule problem children name origin)
      origin-alike name Built = refl
      origin-alike name (External place) = (
        named-alike f g (λ entry. same_rule name (external_node problem name place entry))
            (λ entry. same-alike name (external_node problem name place entry))
            (slice_get (externals_in (package_entry_of problem name)) place),
        each-alike f g (λ child. isnt (fact (has_edge name child no_kinds))) (λ child. refl) children,
      )
      origin-alike name (Installed hash) = named-alike f g
          (λ entry. same_rule name (installed_node entry) and each_keeps (child_rule problem children name) (kept_dependencies entry) and
          each_keeps (recorded_rule problem children name entry) children)
          (λ entry. (
            (
              same-alike name (installed_node entry),
              each-alike f g (child_rule problem children name) (child-alike name)
                  (kept_dependencies entry),
            ),
            each-alike f g (recorded_rule problem children name entry)
                (λ child. (refl, given-alike f g (is_child_name problem entry child))) children,
          ))
          (record_at problem hash)

      pub kept-plain : (origins : List Origin) (name : Text)
          → rule_said path t (kept_rule problem children origins name) ≡ plain_said t (kept_rule problem children origins name)
      kept-plain origins name = same-words f g (kept_rule problem children origins name)
          (each-alike f g (λ origin. if_so (fact (node_has name (has_origin (same_origin origin))))
          (origin_rule problem children name origin))
          (λ origin. (refl, origin-alike name origin)) origins)
