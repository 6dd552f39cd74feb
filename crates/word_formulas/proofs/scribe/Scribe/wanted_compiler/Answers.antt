use Rattle.std.proofs.Common.{rules}
use Rattle.condition_rules.specs.Words.{is_some_and}
use Rattle.condition_rules.specs.Meets.{is_compiler}
use Rattle.word_formulas.proofs.scribe.Scribe.wanted_compiler.Goals as goal

pub returns-in-Some : goal.returns-in-Some
returns-in-Some c =
    rw c.in-Some.is (c.compiler_passes.ensures (λ x. is_some_and x (is_compiler c.in-Some.wanted)) (λ x b says. search rules))
