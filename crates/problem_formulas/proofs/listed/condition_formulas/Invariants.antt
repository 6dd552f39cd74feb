use Rattle.std.proofs.Common.{◌≡◌, take}
use Rattle.std.specs.List.{flat_map}
use Rattle.rule_formulas.specs.Paths.{path_by}
use Rattle.problem_formulas.specs.Asked.{formulas_at}
use Rattle.problem_formulas.proofs.listed.condition_formulas.Given as goal

abbrev pub invariant-loop-block : goal.invariant-loop-block
invariant-loop-block l = l.formulas.items ≡ flat_map (λ block. formulas_at l.problem l.table (path_by l.table l.paths) block.name)
    (take l.block-index l.table.blocks)
