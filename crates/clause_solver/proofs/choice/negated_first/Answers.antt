use Rattle.std.proofs.Common.{◌≡◌, false, get_or, Some, sym, ap, ◌∙◌, subst, arith}
use Rattle.std.specs.Option.{option_map}
use Rattle.clause_store.specs.declared.Lit.{Lit}
use Rattle.clause_store.specs.Lits.{var_of, negation}
use Rattle.proof_log.specs.Known.{has_var}
use Rattle.clause_watch.specs.Trails.{lits_of}
use Rattle.clause_watch.proofs.Meaning.{value-free}
use Rattle.clause_solver.specs.Models.{is_open}
use Rattle.clause_solver.proofs.ModelLaws.{value-given}
use Rattle.clause_solver.proofs.Firsts.{find-here, find-on, find-none, open-free, open-given, open-over}
use Rattle.clause_solver.proofs.choice.negated_first.Goals as goal
use Rattle.clause_solver.proofs.choice.negated_first.Goals.{then-lit-vars+in-Some, else-lit-vars}

pub returns-in-None-clause-free : goal.returns-in-None-clause-free
returns-in-None-clause-free c =
    let ps = c.args.watch.now.placed in
    subst (λ (l : Lit). has_var (lits_of ps) (var_of l) ≡ false) (sym c.negated.ensures) (value-free ps _ (sym c.in-None.ensures))

pub returns-in-None-clause-first : goal.returns-in-None-clause-first
returns-in-None-clause-first c =
    let w = c.args.watch.now in
    let p = is_open w.placed w.vars in
    let d : Lit = record { var = record { 0 = 0 }; positive = false } in
    let h = find-here p c.args.first.now c.loop-lit.lit-index d (omega arith) c.loop-lit.invariant
    (open-free w.placed w.vars (get_or c.args.first.now c.loop-lit.lit-index d) (omega (arith, c.if-lit-vars.true, c.vars.ensures))
    (value-free w.placed _ (sym c.in-None.ensures))) in
    ap Some c.negated.ensures ∙ sym (ap (option_map negation) h)

pub loop-lit-preserved : goal.loop-lit-preserved
loop-lit-preserved c =
    let w = c.args.watch.now in
    let p = is_open w.placed w.vars in
    let d : Lit = record { var = record { 0 = 0 }; positive = false } in
    let l = get_or c.args.first.now c.loop-lit.lit-index d in
    find-on p c.args.first.now c.loop-lit.lit-index d (omega arith) c.loop-lit.invariant (elim c.if-lit-vars.branch [
      | then-lit-vars+in-Some v ↦ open-given w.placed w.vars l (value-given w.placed (var_of l) _ (sym v.in-Some.ensures))
      | else-lit-vars v ↦ open-over w.placed w.vars l (omega (arith, v.if-lit-vars.false, c.vars.ensures))
    ])

pub returns-clause-first : goal.returns-clause-first
returns-clause-first c =
    let w = c.args.watch.now in
    sym (ap (option_map negation) (find-none (is_open w.placed w.vars) c.args.first.now c.loop-lit.lit-index (omega arith)
    c.loop-lit.invariant))
