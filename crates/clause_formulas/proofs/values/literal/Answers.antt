use Rattle.clause_circuits.proofs.Composed.{Extends-refl}
use Rattle.clause_formulas.proofs.CallSteps.{literal-by, literal-true, literal-false, literal_at}
use Rattle.clause_formulas.proofs.values.literal.Goals as goal

pub returns-in-By-clause-built : goal.returns-in-By-clause-built
returns-in-By-clause-built c = literal-by c.args.clauses.now c.args.value c.in-By.lit c.in-By.is

pub returns-in-By-clause-value : goal.returns-in-By-clause-value
returns-in-By-clause-value c = literal_at c.args.clauses.now _ c.args.value c.in-By.lit c.requires
    (literal-by c.args.clauses.now c.args.value c.in-By.lit c.in-By.is)

pub returns-in-By-clause-extends : goal.returns-in-By-clause-extends
returns-in-By-clause-extends c = Extends-refl c.args.clauses.now

pub returns-then-holds-clause-built : goal.returns-then-holds-clause-built
returns-then-holds-clause-built c = literal-true c.args.clauses.now _ c.args.value _ _ _ c.in-Known.is c.if-holds.true
    c.in_ok-off-in-Known.ensures.built c.negated.ensures

pub returns-then-holds-clause-value : goal.returns-then-holds-clause-value
returns-then-holds-clause-value c = literal_at c.args.clauses.now _ c.args.value _ c.requires (returns-then-holds-clause-built c)

pub returns-else-holds-clause-built : goal.returns-else-holds-clause-built
returns-else-holds-clause-built c = literal-false c.args.clauses.now _ c.args.value _ _ c.in-Known.is c.if-holds.false
    c.in_ok-off-in-Known.ensures.built

pub returns-else-holds-clause-value : goal.returns-else-holds-clause-value
returns-else-holds-clause-value c = literal_at c.args.clauses.now _ c.args.value _ c.requires (returns-else-holds-clause-built c)
