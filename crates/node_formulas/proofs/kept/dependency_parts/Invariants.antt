use Rattle.std.proofs.Common.{◌≡◌, ◌++◌, ◌||◌, flat_map, drop}
use Rattle.word_formulas.specs.Builders.{plain_said}
use Rattle.node_formulas.specs.Rows.{only_if}
use Rattle.node_formulas.specs.Attributes.{dependency_rule}
use Rattle.node_formulas.proofs.kept.dependency_parts.Given as goal

abbrev pub invariant-loop-dependency : goal.invariant-loop-dependency
invariant-loop-dependency l =
    l.parts.items
    ++ flat_map (λ d. only_if (d.kinds.link || d.kinds.run) (plain_said l.fn.table (dependency_rule l.fn.problem l.fn.name d)))
    (drop l.dependency-index l.fn.dependencies)
    ≡ flat_map (λ d. only_if (d.kinds.link || d.kinds.run) (plain_said l.fn.table (dependency_rule l.fn.problem l.fn.name d)))
    l.fn.dependencies
