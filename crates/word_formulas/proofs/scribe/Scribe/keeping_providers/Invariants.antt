use Rattle.std.proofs.Common.{◌≡◌, ◌++◌, map, drop}
use Rattle.word_formulas.specs.Asked.{NodeRule, keeping_said}
use Rattle.word_formulas.specs.Builders.{Builds, plain_said}
use Rattle.word_formulas.proofs.scribe.Scribe.keeping_providers.Given as goal

abbrev pub invariant-loop-choice : goal.invariant-loop-choice
invariant-loop-choice g l = (keeps : NodeRule) → Builds g.F.Fn (λ n. plain_said l.fn.self.table.now (keeps n)) l.fn.rule
    → l.parts.items ++ map (keeping_said l.fn.self.table.now l.fn.virtual_name keeps) (drop l.choice-index l.fn.packages)
    ≡ map (keeping_said l.fn.self.table.now l.fn.virtual_name keeps) l.fn.packages
