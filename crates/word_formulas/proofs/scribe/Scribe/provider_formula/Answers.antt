use Rattle.std.proofs.Common.{ap, ◌∙◌}
use Rattle.clause_formulas.specs.Rules.{fact}
use Rattle.graph_core.specs.Graphs.{Text}
use Rattle.graph_formulas.specs.Facts.{provides_as}
use Rattle.word_formulas.specs.Builders.{plain_said}
use Rattle.word_formulas.proofs.Steps.{ok-same}
use Rattle.word_formulas.proofs.scribe.Scribe.provider_formula.Goals as goal

pub returns : goal.returns
returns c =
    let table = c.args.self.now.table.now in
    ok-same c.provides_as.result _ (plain_said table (fact (provides_as c.args.virtual_name.now c.args.name.now)))
    (ap (λ (v : Text). plain_said table (fact (provides_as v c.as_str-2.result.now))) c.as_str.ensures
    ∙ ap (λ (n : Text). plain_said table (fact (provides_as c.args.virtual_name.now n))) c.as_str-2.ensures) c.provides_as.ensures
