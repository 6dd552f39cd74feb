use Rattle.std.proofs.lemmas.List.{append-nil}
use Rattle.std.proofs.Common.{ap, sym, arith, ◌∙◌, Some, None}
use Rattle.clause_formulas.specs.Gated.{gated}
use Rattle.clause_formulas.proofs.GateLaws.{Keeps-refl, Keeps-trans}
use Rattle.cost_terms.specs.Weighed.{terms_in}
use Rattle.cost_terms.proofs.Steps.{after, weighed-at, term-step}
use Rattle.cost_terms.proofs.totals.terms_of.Goals as goal
use Rattle.cost_terms.proofs.totals.terms_of.Goals.{in-Some+in_ok-push, in_default}

pub loop-one-init : goal.loop-one-init
loop-one-init c = record {
  rest = ap (λ ts. after ts (terms_in (gated c.args.clauses.now c.args.gates.now) c.args.weighted.now)) c.new-terms.ensures.items;
  keeps = Keeps-refl (gated c.args.clauses.now c.args.gates.now) c.requires.gates_below;
}

pub term_of-requires-clause-formula_below : goal.term_of-requires-clause-formula_below
term_of-requires-clause-formula_below c = weighed-at c.args.clauses.now.vars c.loop-one.clauses.vars c.args.weighted.now
    c.loop-one.one-index
    c.one-item.result c.loop-one.invariant.keeps.extends.grows.more (omega arith) c.one-item.is c.requires.weighted_below

pub term_of-requires-clause-gates_below : goal.term_of-requires-clause-gates_below
term_of-requires-clause-gates_below c = c.loop-one.invariant.keeps.below

pub returns-in_err-term-clause-keeps : goal.returns-in_err-term-clause-keeps
returns-in_err-term-clause-keeps c = Keeps-trans _ _ _ c.loop-one.invariant.keeps c.term_of.ensures.keeps

pub returns-in_err-push-clause-keeps : goal.returns-in_err-push-clause-keeps
returns-in_err-push-clause-keeps c = Keeps-trans _ _ _ c.loop-one.invariant.keeps c.term_of.ensures.keeps

pub loop-one-preserved : goal.loop-one-preserved
loop-one-preserved c =
    record {
      rest = elim c.match-branch-2.branch [
        | in-Some+in_ok-push w ↦ term-step (gated c.loop-one.clauses c.loop-one.gates) (gated c.term_of.new.clauses c.term_of.new.gates)
            c.args.weighted.now c.loop-one.one-index c.one-item.result
            (Some w.in-Some.term) c.loop-one.terms.items c.match-branch-2.terms.items _ (omega arith) c.one-item.is
            (rw w.in-Some.is at c.in_ok-term.ensures.built) (ap (λ t. t.items) w.terms-is ∙ w.in_ok-push.ensures.items)
            c.loop-one.invariant.rest
        | in_default w ↦ term-step (gated c.loop-one.clauses c.loop-one.gates) (gated c.term_of.new.clauses c.term_of.new.gates)
            c.args.weighted.now c.loop-one.one-index c.one-item.result
            None c.loop-one.terms.items c.match-branch-2.terms.items _ (omega arith) c.one-item.is
            (rw w.in_default.is at c.in_ok-term.ensures.built) (ap (λ t. t.items) w.terms-is ∙ sym (append-nil c.loop-one.terms.items))
            c.loop-one.invariant.rest
      ];
      keeps = Keeps-trans _ _ _ c.loop-one.invariant.keeps c.term_of.ensures.keeps;
    }
