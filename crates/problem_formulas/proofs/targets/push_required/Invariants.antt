use Rattle.std.proofs.Common.{◌≡◌, ◌++◌, take}
use Rattle.std.specs.List.{flat_map}
use Rattle.graph_formulas.specs.Words.{names_for}
use Rattle.valid_models.specs.Targets.{spec_names}
use Rattle.problem_formulas.proofs.targets.push_required.Given as goal

abbrev pub invariant-loop-row : goal.invariant-loop-row
invariant-loop-row l = l.names.items ≡ l.initial.names.items
    ++ flat_map (λ row. flat_map (spec_names l.world (names_for l.table)) row.specs) (take l.row-index l.rows)
