use Rattle.std.proofs.Common.{ap, arith}
use Rattle.clause_formulas.specs.Gated.{gated}
use Rattle.clause_formulas.proofs.GateLaws.{Keeps-refl, Keeps-trans}
use Rattle.cost_terms.specs.Weighed.{lists_in}
use Rattle.cost_terms.proofs.Steps.{after, all-weighed-at, list-step}
use Rattle.cost_terms.proofs.totals.lists_in.Goals as goal

pub loop-list-init : goal.loop-list-init
loop-list-init c = record {
  rest = ap (λ ts. after ts (lists_in (gated c.args.clauses.now c.args.gates.now) c.args.lists.now)) c.new-terms.ensures.items;
  keeps = Keeps-refl (gated c.args.clauses.now c.args.gates.now) c.requires.gates_below;
}

pub terms_of-requires-clause-weighted_below : goal.terms_of-requires-clause-weighted_below
terms_of-requires-clause-weighted_below c = rw c.as_slice.ensures
    (all-weighed-at c.args.clauses.now.vars c.loop-list.clauses.vars c.args.lists.now c.loop-list.list-index
    c.list-item.result c.loop-list.invariant.keeps.extends.grows.more (omega arith) c.list-item.is c.requires.lists_below)

pub terms_of-requires-clause-gates_below : goal.terms_of-requires-clause-gates_below
terms_of-requires-clause-gates_below c = c.loop-list.invariant.keeps.below

pub returns-in_err-terms_of-clause-keeps : goal.returns-in_err-terms_of-clause-keeps
returns-in_err-terms_of-clause-keeps c = Keeps-trans _ _ _ c.loop-list.invariant.keeps c.terms_of.ensures.keeps

pub returns-in_err-push-clause-keeps : goal.returns-in_err-push-clause-keeps
returns-in_err-push-clause-keeps c = Keeps-trans _ _ _ c.loop-list.invariant.keeps c.terms_of.ensures.keeps

pub loop-list-preserved : goal.loop-list-preserved
loop-list-preserved c =
    record {
      rest = list-step (gated c.loop-list.clauses c.loop-list.gates) (gated c.terms_of.new.clauses c.terms_of.new.gates)
          c.args.lists.now c.loop-list.list-index c.list-item.result _
          c.loop-list.terms.items _ _ (omega arith) c.list-item.is (rw c.as_slice.ensures at c.in_ok-terms_of.ensures.built)
          c.in_ok-push.ensures.items c.loop-list.invariant.rest;
      keeps = Keeps-trans _ _ _ c.loop-list.invariant.keeps c.terms_of.ensures.keeps;
    }
