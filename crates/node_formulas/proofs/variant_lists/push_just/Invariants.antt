use Rattle.std.proofs.Common.{◌≡◌, ◌++◌, drop}
use Rattle.graph_formulas.specs.Facts.{just_parts}
use Rattle.node_formulas.proofs.variant_lists.push_just.Given as goal

abbrev pub invariant-loop-choice : goal.invariant-loop-choice
invariant-loop-choice l = l.parts.items ++ just_parts (drop l.choice-index l.choices) l.rest ≡ l.fn.parts.items
    ++ just_parts l.fn.choices l.fn.values
