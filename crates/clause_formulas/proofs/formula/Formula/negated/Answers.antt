use Rattle.std.proofs.Common.{◌≡◌, List, [], ◌∷◌, refl, ap, sym, ◌∙◌}
use Rattle.clause_formulas.specs.Statements.{Statement, no, opposite, any_statement}
use Rattle.clause_formulas.specs.Nodes.{said}
use Rattle.clause_formulas.proofs.formula.Formula.negated.Goals as goal

opposite-any_of : (fs : List Statement) → opposite (any_statement fs) ≡ no (any_statement fs)
opposite-any_of [] = refl
opposite-any_of (f ∷ fs) = refl

pub returns-in-Any : goal.returns-in-Any
returns-in-Any c =
    ap (λ p. no (any_statement p.items)) c.in-Any.parts-is ∙ sym (opposite-any_of c.in-Any.parts.items)
    ∙ ap (λ n. opposite (said n)) (sym c.in-Any.is) ∙ ap opposite c.self.view_is
