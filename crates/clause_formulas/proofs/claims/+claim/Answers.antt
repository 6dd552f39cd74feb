use Rattle.std.proofs.Common.{◌<◌, length, ap, subst, sym, ◌∙◌, refl, arith, rules}
use Rattle.std.proofs.lemmas.Grind.{common_steps}
use Rattle.std.proofs.lemmas.Result.{on_ok_weaker}
use Rattle.clause_formulas.specs.Statements.{any_statement}
use Rattle.clause_formulas.specs.Gated.{gated}
use Rattle.clause_formulas.specs.Built.{assert_in}
use Rattle.clause_formulas.specs.Allowed.{AllowsIn}
use Rattle.clause_formulas.proofs.GateLaws.{Keeps-refl}
use Rattle.clause_formulas.proofs.SpreadSteps.{ask-below, weight-at, SaidBelow-at}
use Rattle.clause_formulas.proofs.CallSteps.{assert-any}
use Rattle.clause_formulas.proofs.AllowLaws.{claims, AllowsIn-refl, AllowsIn-then, claim-called, none-claimed}
use Rattle.clause_formulas.proofs.claims.+claim.Goals as goal

pub claim_any-add_draft-requires : goal.claim_any-add_draft-requires
claim_any-add_draft-requires t c = ask-below (gated c.args.clauses.now c.args.gates.now) _ c.new-draft.result _
    (any_statement c.args.parts.now)
    c.new-draft.ensures c.requires.gates_below c.requires.parts_below c.in_ok-ask_any.ensures.built

pub claim_any-returns-then-sign-clause-built : goal.claim_any-returns-then-sign-clause-built
claim_any-returns-then-sign-clause-built t c =
    on_ok_weaker c.add_draft.result
    (λ e. ap (λ b. assert_in c.args.label (gated c.args.clauses.now c.args.gates.now) b (any_statement c.args.parts.now)) c.if-sign.true
    ∙ assert-any (gated c.args.clauses.now c.args.gates.now) _ _ c.args.label c.new-draft.result _ c.args.parts.now c.new-draft.ensures
    c.in_ok-ask_any.ensures.built e) c.add_draft.ensures.built

pub claim_any-claim-requires : goal.claim_any-claim-requires
claim_any-claim-requires t c =
    let h : c.loop-part.part-index < length c.args.parts.now = omega arith in (
      omega (arith, weight-at c.args.parts.now c.loop-part.part-index c.part-item.result h c.part-item.is),
      (
        SaidBelow-at c.args.clauses.now.vars c.loop-part.clauses.vars c.args.parts.now c.loop-part.part-index c.part-item.result
            c.loop-part.invariant.allows.grows.more h c.part-item.is c.requires.parts_below,
        c.loop-part.invariant.allows.below,
      ),
    )

pub claim_any-loop-part-init : goal.claim_any-loop-part-init
claim_any-loop-part-init t c = record { rest = refl; allows = AllowsIn-refl _ _ c.requires.gates_below }

pub claim_any-loop-part-preserved : goal.claim_any-loop-part-preserved
claim_any-loop-part-preserved t c = record {
  rest = grind (arith, common_steps);
  allows = AllowsIn-then _ _ _ _ _ c.requires.gates_below c.loop-part.invariant.allows c.claim.ensures.allows
      (none-claimed c.args.label c.args.clauses.now.vars c.args.parts.now c.loop-part.part-index c.part-item.result (omega arith)
      c.part-item.is c.requires.parts_below);
}

pub claim-returns-in_err-put-in-Atom-clause-allows : goal.claim-returns-in_err-put-in-Atom-clause-allows
claim-returns-in_err-put-in-Atom-clause-allows t c = AllowsIn-refl _ _ c.requires.gates_below

pub claim-returns-in_ok-put-in-Atom-clause-built : goal.claim-returns-in_ok-put-in-Atom-clause-built
claim-returns-in_ok-put-in-Atom-clause-built t c = search rules

pub claim-returns-in_ok-put-in-Atom-clause-allows : goal.claim-returns-in_ok-put-in-Atom-clause-allows
claim-returns-in_ok-put-in-Atom-clause-allows t c =
    claim-called c.add_draft.result (gated c.args.clauses.now c.args.gates.now) (gated c.args.clauses.now c.args.gates.now) _ c.args.label
    c.args.sign c.args.formula.now c.requires.gates_below c.requires.formula_below (Keeps-refl _ c.requires.gates_below)
    (claim-returns-in_ok-put-in-Atom-clause-built t c) c.add_draft.ensures.err

pub claim_any-returns-then-sign-clause-allows : goal.claim_any-returns-then-sign-clause-allows
claim_any-returns-then-sign-clause-allows t c =
    claim-called c.add_draft.result (gated c.args.clauses.now c.args.gates.now) (gated c.ask_any.new.clauses c.ask_any.new.gates) _
    c.args.label c.args.sign (any_statement c.args.parts.now) c.requires.gates_below c.requires.parts_below
    c.ask_any.ensures.keeps (claim_any-returns-then-sign-clause-built t c) c.add_draft.ensures.err

pub claim_any-returns-in_err-claim-clause-allows : goal.claim_any-returns-in_err-claim-clause-allows
claim_any-returns-in_err-claim-clause-allows t c =
    subst (λ b. AllowsIn (gated c.args.clauses.now c.args.gates.now) (gated c.claim.new.clauses c.claim.new.gates)
    (claims c.args.label b (any_statement c.args.parts.now))) (sym c.if-sign.false)
    (AllowsIn-then _ _ _ _ _ c.requires.gates_below c.loop-part.invariant.allows c.claim.ensures.allows
    (none-claimed c.args.label c.args.clauses.now.vars c.args.parts.now c.loop-part.part-index c.part-item.result (omega arith)
    c.part-item.is c.requires.parts_below))
