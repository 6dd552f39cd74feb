use Rattle.std.proofs.Common.{sym, ap, List, map}
use Rattle.std.specs.Option.{option_copied, option_to_list}
use Rattle.clause_formulas.specs.Rules.{fact}
use Rattle.clause_formulas.specs.Statements.{atom, any_statement}
use Rattle.clause_store.specs.declared.Lit.{Lit}
use Rattle.graph_core.specs.Graphs.{Text}
use Rattle.graph_formulas.specs.Facts.{has_virtual}
use Rattle.word_formulas.specs.Builders.{plain_said}
use Rattle.word_formulas.proofs.Steps.{ok-same}
use Rattle.word_formulas.proofs.scribe.Scribe.has_virtual.Goals as goal

pub returns : goal.returns
returns c =
    let said = λ (choices : List (Text × Lit)). any_statement (map (λ (choice : Text × Lit). atom choice.1) choices) in
    ok-same c.choice_formula.result (said (option_to_list (option_copied c.virtual_choice-choice.result)))
    (plain_said c.args.self.now.table.now (fact (has_virtual c.args.parent.now c.args.child.now c.args.virtual_name.now)))
    (ap said (sym c.virtual_choice-choice.ensures)) c.choice_formula.ensures
