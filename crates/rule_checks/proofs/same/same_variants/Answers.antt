use Rattle.rule_checks.proofs.VariantLists.{variants-decide}
use Rattle.rule_checks.proofs.same.same_variants.Goals as goal

pub returns : goal.returns
returns c = variants-decide _ c.args.a.now c.args.b.now c.same.ensures
