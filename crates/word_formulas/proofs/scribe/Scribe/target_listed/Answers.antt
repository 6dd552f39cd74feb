use Rattle.std.proofs.Common.{rules}
use Rattle.condition_rules.specs.Words.{is_one_text}
use Rattle.word_formulas.proofs.scribe.Scribe.target_listed.Goals as goal

pub returns-in-Some : goal.returns-in-Some
returns-in-Some c = rw c.in-Some.is (c.target_passes.ensures (is_one_text c.in-Some.names) (λ x b says. search rules))
