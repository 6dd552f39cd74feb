use Rattle.std.proofs.Common.{rules, ap}
use Rattle.std.specs.Str.{bytes_eq}
use Rattle.clause_formulas.specs.Rules.{fact}
use Rattle.graph_core.specs.Graphs.{Text}
use Rattle.graph_formulas.specs.Facts.{provides_as}
use Rattle.literal_table.specs.Choices.{any_choice}
use Rattle.word_formulas.specs.Builders.{plain_said}
use Rattle.word_formulas.proofs.Steps.{ok-same}
use Rattle.word_formulas.proofs.scribe.Scribe.provides_as.Goals as goal

pub returns : goal.returns
returns c = ok-same c.any_choice.result (any_choice (λ (p : Text). bytes_eq p c.args.name.now) c.packages.result.now)
    (plain_said c.args.self.now.table.now (fact (provides_as c.args.virtual_name.now c.args.name.now)))
    (ap (any_choice (λ (p : Text). bytes_eq p c.args.name.now)) c.packages.ensures)
    (c.any_choice.ensures (λ (p : Text). bytes_eq p c.args.name.now) (λ x b says. search rules))
