use Rattle.std.proofs.Common.{◌≡◌, ◌++◌, take}
use Rattle.std.specs.List.{flat_map}
use Rattle.valid_models.specs.Targets.{targets_at}
use Rattle.problem_formulas.proofs.targets.push_all.Given as goal

abbrev pub invariant-loop-block : goal.invariant-loop-block
invariant-loop-block l = l.names.items ≡ l.initial.names.items ++ flat_map (λ block. targets_at l.problem l.table block.name)
    (take l.block-index l.table.blocks)
