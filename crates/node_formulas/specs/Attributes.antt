-- The parts of the rule of kept nodes.
use Rattle.std.specs.Prelude.{List}
use Rattle.std.specs.Str.{bytes_eq}
use Rattle.clause_formulas.specs.Rules.{Proposition, fact, if_so}
use Rattle.graph_core.specs.Graphs.{Text, no_kinds}
use Rattle.reuse_db.specs.declared.record.Dependency.{Dependency}
use Rattle.reuse_db.specs.Installed.{installed_node}
use Rattle.problem.specs.Problems.{Problem, record_at}
use Rattle.problem.specs.Records.{kept_dependencies}
use Rattle.reuse_db.specs.declared.record.Record.{Record}
use Rattle.graph_formulas.specs.Facts.{GraphWord, Variants, node_has, has_version, has_variants, has_edge}
use Rattle.graph_formulas.specs.Lists.{◌and◌, settled_test, one_keeps, each_keeps}
use Rattle.graph_formulas.specs.Kept.{joined_rule, same_rule, is_child_name}

-- the node of the name has this name, version and variants
abbrev pub software_rule : Text → Text → Text → Variants → Proposition GraphWord
software_rule name own version variants =
    settled_test (bytes_eq name own)
    and fact (node_has name (has_version (λ v. bytes_eq v version)))
    and fact (node_has name (has_variants variants))

abbrev pub dependency_rule : Problem → Text → Dependency → Proposition GraphWord
dependency_rule problem name d = one_keeps (record_at problem d.hash) (λ child. joined_rule name child.name d)

-- an edge goes to a child of the record
abbrev pub edge_rule : Problem → Text → Record → Text → Proposition GraphWord
edge_rule problem name entry child = if_so (fact (has_edge name child no_kinds)) (settled_test (is_child_name problem entry child))

-- the node is that of the record, with just the edges to its children
abbrev pub record_rule : Problem → List Text → Text → Record → Proposition GraphWord
record_rule problem children name entry =
    same_rule name (installed_node entry)
    and each_keeps (dependency_rule problem name) (kept_dependencies entry)
    and each_keeps (edge_rule problem name entry) children
