use Rattle.std.proofs.Common.{sym, ◌∙◌, subst}
use Rattle.clause_store.specs.Lits.{AllBelow}
use Rattle.reason_minimum.proofs.Parting.{entry-below}
use Rattle.reason_minimum.proofs.part.add_for.Goals as goal

pub add-requires : goal.add-requires
add-requires c =
    subst (λ n. AllBelow n c.in-Some.field-0.clause) (sym c.requires)
    (entry-below c.args.clauses.now.vars c.args.clauses.now.entries c.args.id c.in-Some.field-0
    (sym c.in_ok-clause.ensures ∙ c.in-Some.is) c.vars-vars.ensures.in_range)
