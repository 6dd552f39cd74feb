use Rattle.std.proofs.Common.{[], ◌∷◌, ◌++◌, ap, ◌∙◌, arith}
use Rattle.clause_watch.proofs.Parts.{parts-more, cut-grown}
use Rattle.clause_watch.proofs.clause_table.ClauseTable.push.Goals as goal

pub invariant_of-self-in_default : goal.invariant_of-self-in_default
invariant_of-self-in_default c =
    cut-grown _ _ c.args.lits.now _ _ _ c.self.invariant c.in_ok-append.ensures.ok
    (omega (arith, c.append.new.codes.ok.0, c.len-end.ensures)) c.in_default.ensures.items

pub returns-clause-ok : goal.returns-clause-ok
returns-clause-ok c =
    parts-more _ _ c.args.lits.now _ _ _ c.self.invariant c.in_ok-append.ensures.ok
    (omega (arith, c.append.new.codes.ok.0, c.len-end.ensures)) c.in_default.ensures.items
    ∙ ap (λ cs. cs ++ c.args.lits.now ∷ []) c.self.view_is
