use Rattle.std.proofs.Common.{◌∙◌}
use Rattle.std.proofs.lemmas.List.{take_all}
use Rattle.rule_formulas.specs.Paths.{path_by}
use Rattle.problem_formulas.proofs.Joined.{all-formulas}
use Rattle.problem_formulas.proofs.listed.condition_formulas.Goals as goal

pub returns : goal.returns
returns c =
    let done = rw c.blocks-block-items.ensures.blocks at c.loop-block-test.false in
    let all = rw (take_all c.loop-block.block-index c.args.table.now.blocks done) at c.loop-block.invariant in
    all ∙ all-formulas c.args.problem.now c.args.table.now (path_by c.args.table.now c.args.paths.now) c.args.table.now.blocks
