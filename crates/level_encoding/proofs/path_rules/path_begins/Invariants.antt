use Rattle.std.proofs.Common.{◌≡◌, ◌∷◌, map, take}
use Rattle.clause_formulas.specs.Statements.{opposite}
use Rattle.level_encoding.specs.Encoding.{path, begins_path}
use Rattle.level_encoding.proofs.path_rules.path_begins.Given as goal

abbrev pub invariant-loop-arc : goal.invariant-loop-arc
invariant-loop-arc l = l.cases.items ≡ opposite (path l.input l.p l.q) ∷ map (begins_path l.input l.q) (take l.arc-index l.arcs)
