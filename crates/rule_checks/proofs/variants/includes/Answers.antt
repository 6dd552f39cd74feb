use Rattle.condition_rules.proofs.Sets.{includes-test}
use Rattle.rule_checks.proofs.variants.includes.Goals as goal

pub returns : goal.returns
returns c = includes-test c.args.values.now c.args.wanted.now c.contains_all.result c.contains_all.ensures
