use Rattle.std.proofs.Common.{◌≡◌, ◌∷◌, map, take}
use Rattle.clause_formulas.specs.Statements.{atom, opposite}
use Rattle.level_encoding.proofs.node_rules.unless_chosen.Given as goal

abbrev pub invariant-loop-arc : goal.invariant-loop-arc
invariant-loop-arc l = l.cases.items ≡ opposite l.fn.first ∷ map (λ a. atom a.lit) (take l.arc-index l.arcs)
