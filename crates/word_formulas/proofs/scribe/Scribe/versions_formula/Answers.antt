use Rattle.std.proofs.Common.{rules}
use Rattle.version_order.specs.Sets.{set_contains}
use Rattle.word_formulas.proofs.scribe.Scribe.versions_formula.Goals as goal

pub returns-in-Some : goal.returns-in-Some
returns-in-Some c = rw c.in-Some.is (c.version_passes.ensures (set_contains c.in-Some.set) (λ x b says. search rules))
