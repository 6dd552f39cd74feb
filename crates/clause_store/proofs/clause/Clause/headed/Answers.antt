use Rattle.std.proofs.Common.{Some, None, ap, sym, ◌∙◌}
use Rattle.clause_store.specs.Lits.{with_lits}
use Rattle.clause_store.proofs.Order.{IsClause-with_lit}
use Rattle.clause_store.proofs.Headed.{clause_of-headed}
use Rattle.clause_store.proofs.clause.Clause.headed.Goals as goal

pub returns-then-not-branch : goal.returns-then-not-branch
returns-then-not-branch c =
    sym (clause_of-headed c.args.head c.args.lits.now None
    (ap (λ ks. with_lits ks c.args.lits.now) (sym c.new-kept.ensures.items) ∙ c.in_ok-put_all.ensures.clashes c.if-not-branch.true))

pub returns-then-not-branch-2 : goal.returns-then-not-branch-2
returns-then-not-branch-2 c =
    sym (clause_of-headed c.args.head c.args.lits.now (Some c.put_all.new.kept.items)
    (ap (λ ks. with_lits ks c.args.lits.now) (sym c.new-kept.ensures.items) ∙ c.in_ok-put_all.ensures.fits c.if-not-branch.false)
    ∙ c.in_ok-put.ensures.clashes c.if-not-branch-2.true)

pub invariant_of-result : goal.invariant_of-result
invariant_of-result c = IsClause-with_lit c.put_all.new.kept.items _ c.args.head (c.in_ok-put_all.ensures.in_order c.if-not-branch.false)
    (c.in_ok-put.ensures.fits c.if-not-branch-2.false)

pub returns : goal.returns
returns c =
    sym (clause_of-headed c.args.head c.args.lits.now (Some c.put_all.new.kept.items)
    (ap (λ ks. with_lits ks c.args.lits.now) (sym c.new-kept.ensures.items) ∙ c.in_ok-put_all.ensures.fits c.if-not-branch.false)
    ∙ c.in_ok-put.ensures.fits c.if-not-branch-2.false)
