use Rattle.std.proofs.Common.{sym, ◌∙◌}
use Rattle.std.proofs.lemmas.Bool.{and_left}
use Rattle.condition_rules.specs.Meets.{meets}
use Rattle.spec_find.proofs.node.record_meets.Goals as goal

pub returns-then-not-has_name : goal.returns-then-not-has_name
unfolding meets
returns-then-not-has_name c = sym (and_left _ _ (and_left _ _ (sym c.has_name.ensures ∙ c.if-not-has_name.true)))
