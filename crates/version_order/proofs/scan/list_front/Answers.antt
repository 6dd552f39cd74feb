use Rattle.std.proofs.Common.{take, sym, ◌∙◌}
use Rattle.version_order.proofs.ListLaws.{stops_longest, stops_whole}
use Rattle.version_order.proofs.RestLaws.{list_from_end}
use Rattle.version_order.proofs.scan.list_front.Goals as goal

pub returns-clause-longest : goal.returns-clause-longest
returns-clause-longest c = stops_longest c.args.text.now c.scan-place.result.0 c.scan-place.result.1 c.scan-place.ensures

pub returns-clause-whole : goal.returns-clause-whole
returns-clause-whole c = (
  λ final. list_from_end (take c.scan-place.result.1 c.args.text.now) c.scan-place.result.0 c.scan-place.ensures.reached
      (sym c.is_final.ensures ∙ final),
  λ is. c.is_final.ensures ∙ stops_whole c.args.text.now c.scan-place.result.0 c.scan-place.result.1 c.scan-place.ensures is,
)
