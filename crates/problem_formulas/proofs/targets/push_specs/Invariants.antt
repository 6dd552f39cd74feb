use Rattle.std.proofs.Common.{◌≡◌, ◌++◌, take}
use Rattle.std.specs.List.{flat_map}
use Rattle.graph_formulas.specs.Words.{names_for}
use Rattle.valid_models.specs.Targets.{spec_names}
use Rattle.problem_formulas.proofs.targets.push_specs.Given as goal

abbrev pub invariant-loop-spec : goal.invariant-loop-spec
invariant-loop-spec l = l.names.items ≡ l.initial.names.items
    ++ flat_map (spec_names l.world (names_for l.table)) (take l.spec-index l.specs)
