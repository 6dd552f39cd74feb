use Rattle.std.proofs.Common.{sym, subst, [], List, ℕ, None}
use Rattle.optimum_search.specs.Finding.{IsFound, IsBest}
use Rattle.optimum_search.specs.declared.found.Found.TheVariants.{Optimal, Refuted, Spent}
use Rattle.reason_minimum.specs.Least.{IsSpentFor}
use Rattle.reason_minimum.proofs.Rounds.{all-spent}
use Rattle.reason_minimum.proofs.least_list.least.Goals as goal

pub returns-in-Optimal : goal.returns-in-Optimal
returns-in-Optimal c =
    let found : IsFound c.args.clauses.now [] c.args.budget (Optimal c.in-Optimal.model c.in-Optimal.log) =
    subst (IsFound c.args.clauses.now [] c.args.budget) c.in-Optimal.is c.in_ok-model.ensures.found in
    (found.0, found.1)

pub refuting-requires-clause-refuted : goal.refuting-requires-clause-refuted
refuting-requires-clause-refuted c =
    let found : IsFound c.args.clauses.now [] c.args.budget (Refuted c.in-Refuted.log) =
    subst (IsFound c.args.clauses.now [] c.args.budget) c.in-Refuted.is c.in_ok-model.ensures.found in
    found.0

pub returns : goal.returns
returns c =
    let s = c.args.clauses.now in
    let ds = c.in_ok-demands-in-Spent.demands.items in
    let found : IsFound s [] c.args.budget (Spent c.in-Spent.log) =
    subst (IsFound s [] c.args.budget) c.in-Spent.is c.in_ok-model.ensures.found in
    let best : IsBest s [] c.args.budget (Spent c.in-Spent.log) =
    c.found_laws.ensures s [] c.args.budget (Spent c.in-Spent.log) c.in_ok-model.ensures.in_order found in
    subst (λ (xs : List ℕ). IsSpentFor s c.args.budget xs None c.in-Spent.log) (sym c.from_vec.ensures)
    (all-spent s c.args.budget ds c.in-Spent.log c.in_ok-demands-in-Spent.ensures.rising c.in_ok-demands-in-Spent.ensures.all found
    best.0 best.1)
