use Rattle.std.proofs.Common.{rules}
use Rattle.std.specs.Str.{bytes_eq}
use Rattle.word_formulas.proofs.scribe.Scribe.os_formula.Goals as goal

pub returns-in-Some : goal.returns-in-Some
returns-in-Some c = rw c.in-Some.is (c.os_passes.ensures (λ o. bytes_eq o c.in-Some.os) (λ x b says. search rules))
