use Rattle.std.proofs.Common.{sym, subst}
use Rattle.reason_minimum.specs.Least.{IsLeast}
use Rattle.reason_minimum.proofs.Reducing.{reduction-minimal}
use Rattle.reason_minimum.proofs.Rounds.{began, none-left}
use Rattle.reason_minimum.proofs.least_list.reduced.Goals as goal

pub rounds-init : goal.rounds-init
rounds-init c = began c.args.clauses.now c.new-reduction.result c.args.demands c.new-reduction.ensures.needed c.new-reduction.ensures.models
    c.new-reduction.ensures.candidates c.requires.rising c.requires.unmet

pub returns : goal.returns
returns c =
    let r = c.rounds.reduction in
    subst (IsLeast c.args.clauses.now c.args.budget) (sym c.into_minimal.ensures)
    (reduction-minimal c.args.clauses.now r.needed.items r.models.items r.candidates.items c.rounds.invariant
    (none-left r.candidates.items (c.has_candidates.ensures.none c.rounds-test.false)))
