use Rattle.std.proofs.Common.{ap, ◌∙◌, map}
use Rattle.clause_formulas.specs.Statements.{atom, opposite, any_statement}
use Rattle.clause_formulas.proofs.FewLaws.{opposite-any}
use Rattle.clause_formulas.proofs.few.none_of.Goals as goal

pub returns : goal.returns
returns c = c.negated.ensures ∙ ap opposite (c.any-some.ensures ∙ ap any_statement c.in_ok-atoms.ensures)
    ∙ opposite-any (map atom c.args.lits.now)
