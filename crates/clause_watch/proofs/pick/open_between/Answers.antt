use Rattle.std.proofs.Common.{◌≡◌, ◌≢◌, ◌≤◌, true, inl, inr, arith}
use Rattle.clause_store.specs.Lits.{var_of, negation, has}
use Rattle.clause_watch.specs.Trails.{lits_of}
use Rattle.clause_watch.proofs.RowPlaces.{at-within}
use Rattle.clause_watch.proofs.Below.{below-at, at-next}
use Rattle.clause_watch.proofs.pick.open_between.Goals as goal

pub may_watch-requires : goal.may_watch-requires
may_watch-requires c = below-at c.args.trail.now.vars c.args.codes.now c.loop-at.at c.decoded-lit.result c.requires.in_range c.decoded-lit.ensures

pub returns-then-may_watch-clause-some : goal.returns-then-may_watch-clause-some
returns-then-may_watch-clause-some c =
    let y = c.may_watch.ensures.yes c.if-may_watch.true in record {
      late = omega arith;
      lit = c.decoded-lit.result;
      here = c.decoded-lit.ensures;
      not_false = y.0;
      apart = y.1;
    }

pub loop-at-preserved : goal.loop-at-preserved
loop-at-preserved c k m le lt e ne =
    at-next (λ k l. c.args.from ≤ k → var_of l ≢ var_of c.args.other → has (lits_of c.args.trail.now.placed) (negation l) ≡ true)
    c.args.codes.now c.loop-at.at c.decoded-lit.result c.decoded-lit.ensures
    (λ _ ne. elim (c.may_watch.ensures.no c.if-may_watch.false) [ inl f ↦ f | inr s ↦ absurd (ne s) ])
    (λ k l lt e le. c.loop-at.invariant k l le lt e) k m lt e le ne

pub returns-clause-none : goal.returns-clause-none
returns-clause-none c k m le lt e = c.loop-at.invariant k m le (omega (arith, lt)) e
