use Rattle.std.proofs.Common.{refl, length, replicate}
use Rattle.graph_rules.specs.declared.criterion.TheConstants.{CRITERIA}
use Rattle.cost_vector.proofs.Filled.{written_between}
use Rattle.cost_vector.proofs.sums.joined.Goals as goal

pub returns : goal.returns
returns c =
    let half = length CRITERIA in
    let told = written_between c.args.to_build.now c.args.others.now (replicate half 0) half half 0 c.args.builds c.told-to_build refl in
    rw (c.copy_from_slice.ensures.after, c.copy_from_slice-2.ensures.after) told
