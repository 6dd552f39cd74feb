use Rattle.std.proofs.Common.{◌∙◌, ap, refl, arith, reverse}
use Rattle.std.proofs.lemmas.List.{take_all}
use Rattle.clause_circuits.specs.Gates.{with_gates}
use Rattle.clause_circuits.proofs.Loops.{define-below, stopped, finished, rules-at}
use Rattle.clause_circuits.proofs.define.define_plan.Goals as goal

pub define-requires : goal.define-requires
define-requires c =
    define-below c.args.plan.now c.args.clauses.now c.gates-gate-items.result.now c.requires.sound c.requires.first
    c.gates-gate-items.ensures c.loop-gate.clauses c.loop-gate.gate-index c.gate-item.result _ (omega arith) c.loop-gate.invariant
    c.gate-item.is

pub returns-in_err-define-clause-extends : goal.returns-in_err-define-clause-extends
returns-in_err-define-clause-extends c =
    stopped c.args.plan.now c.args.clauses.now c.gates-gate-items.result.now c.requires.sound c.requires.first c.gates-gate-items.ensures
    c.loop-gate.clauses _ c.loop-gate.gate-index c.gate-item.result _ (omega arith) c.loop-gate.invariant
    (rules-at _ _ _ _ _ refl refl c.gate-item.is) c.define.ensures.partial

pub returns-clause-extends : goal.returns-clause-extends
returns-clause-extends c = finished c.args.plan.now c.args.clauses.now c.gates-gate-items.result.now c.requires.sound c.requires.first
    c.gates-gate-items.ensures _ (c.loop-gate.invariant
    ∙ ap (λ gs. with_gates c.args.clauses.now (reverse gs)) (take_all c.loop-gate.gate-index c.gates-gate-items.result.now (omega arith))
    ∙ ap (with_gates c.args.clauses.now) c.gates-gate-items.ensures)
