use Rattle.std.proofs.Common.{sym, ◌∙◌, slice_get}
use Rattle.problem.specs.Demands.{demands}
use Rattle.graph_rules.specs.Verdict.{same_demand}
use Rattle.graph_judge.specs.Asked.{demand_of}
use Rattle.graph_judge.proofs.Lists.{any-filter_map}
use Rattle.graph_judge.proofs.asked.is_among.Goals as goal

pub returns : goal.returns
returns c = c.some_is.ensures
    ∙ sym (any-filter_map (same_demand (demand_of c.args.named.now)) (slice_get (demands c.args.problem.now)) c.args.ids.now)
