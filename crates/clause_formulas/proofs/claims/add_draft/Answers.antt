use Rattle.std.proofs.Common.{sym, subst, ◌∙◌}
use Rattle.clause_store.specs.Lits.{AllBelow}
use Rattle.clause_store.proofs.Meaning.{AllBelow-clause_of}
use Rattle.clause_formulas.proofs.CallSteps.{with_draft-always, with_draft-some, with_draft-none}
use Rattle.clause_formulas.proofs.claims.add_draft.Goals as goal

pub returns-then-always-clause-built : goal.returns-then-always-clause-built
returns-then-always-clause-built c = with_draft-always c.args.clauses.now c.args.label c.args.draft.now (sym c.always.ensures
    ∙ c.if-always.true)

pub add-requires : goal.add-requires
add-requires c =
    AllBelow-clause_of c.args.clauses.now.vars c.lits.result.now _
    (subst (AllBelow c.args.clauses.now.vars) (sym c.lits.ensures) c.requires) (sym c.in_ok-clause.ensures ∙ c.in-Some.is)

pub returns-in_ok-add-clause-built : goal.returns-in_ok-add-clause-built
returns-in_ok-add-clause-built c =
    c.in_ok-add.ensures.ok ∙ with_draft-some c.args.clauses.now c.args.label c.args.draft.now c.lits.result.now c.in-Some.clause
    (sym c.always.ensures ∙ c.if-always.false) c.lits.ensures (sym c.in-Some.is ∙ c.in_ok-clause.ensures)

pub returns-in_default-clause-built : goal.returns-in_default-clause-built
returns-in_default-clause-built c =
    with_draft-none c.args.clauses.now c.args.label c.args.draft.now c.lits.result.now (sym c.always.ensures ∙ c.if-always.false)
    c.lits.ensures (sym c.in_default.is ∙ c.in_ok-clause.ensures)
