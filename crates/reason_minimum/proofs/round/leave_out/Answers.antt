use Rattle.std.proofs.Common.{◌∙◌, ap, subst, [], List, ℕ, Bool, drop}
use Rattle.std.specs.List.{filter}
use Rattle.clause_store.specs.Clauses.{Clauses, Meets, clauses_of}
use Rattle.proof_log.specs.Certificates.{IsSpentLog}
use Rattle.explain_failure.specs.Uses.{stands}
use Rattle.optimum_search.specs.Finding.{IsFound, IsBest}
use Rattle.optimum_search.specs.declared.found.Found.TheVariants.{Optimal, Refuted, Spent}
use Rattle.reason_minimum.specs.Parts.{clauses_for}
use Rattle.reason_minimum.specs.Reductions.{in_rest}
use Rattle.reason_minimum.proofs.Rounds.{kept-round, model-rest}
use Rattle.reason_minimum.proofs.round.leave_out.Goals as goal

pub refuting-requires-clause-refuted : goal.refuting-requires-clause-refuted
refuting-requires-clause-refuted c =
    let found : IsFound c.in_ok-part.part [] c.args.budget (Refuted c.in-Refuted.log) =
    subst (IsFound c.in_ok-part.part [] c.args.budget) c.in-Refuted.is c.in_ok-log.ensures.found in
    found.0

pub returns-in_ok-keep-in-Refuted : goal.returns-in_ok-keep-in-Refuted
returns-in_ok-keep-in-Refuted c =
    let same = c.in_ok-part.ensures ∙ ap (λ (ds : List ℕ). clauses_for ds c.args.clauses.now) c.as_slice.ensures.value in
    let unmet = subst (λ (t : Clauses). (v : ℕ → Bool) → Meets (stands c.in_ok-demands-in-Refuted.demands) v t.entries → ⊥) same
    c.in_ok-demands-in-Refuted.ensures.unmet in
    kept-round c.args.clauses.now c.args.reduction.now c.keep.new.self c.count-count.result c.in_ok-rest.rest.items
    c.in_ok-demands-in-Refuted.demands c.requires.reduces c.count-count.ensures.some c.count-count.ensures.within
    c.in_ok-rest.ensures.members
    unmet
    (c.in_ok-keep-in-Refuted.ensures.candidates
    ∙ ap (λ (xs : List ℕ). filter (stands xs) (drop c.count-count.result c.args.reduction.now.candidates.items))
    c.as_slice-in-Refuted.ensures)
    c.in_ok-keep-in-Refuted.ensures.needed c.in_ok-keep-in-Refuted.ensures.models c.in_ok-keep-in-Refuted.ensures.several

pub use_model-requires-clause-model : goal.use_model-requires-clause-model
use_model-requires-clause-model c =
    let found : IsFound c.in_ok-part.part [] c.args.budget (Optimal c.in-Optimal.model c.in-Optimal.log) =
    subst (IsFound c.in_ok-part.part [] c.args.budget) c.in-Optimal.is c.in_ok-log.ensures.found in
    let same = c.in_ok-part.ensures ∙ ap (λ (ds : List ℕ). clauses_for ds c.args.clauses.now) c.as_slice.ensures.value in
    model-rest c.args.clauses.now c.in_ok-part.part c.in_ok-rest.rest.items (in_rest c.args.reduction.now c.count-count.result)
    c.in-Optimal.model same c.in_ok-rest.ensures.members found.0 found.1

pub spent-requires-clause-spent : goal.spent-requires-clause-spent
spent-requires-clause-spent c =
    let part = c.in_ok-part.part in
    let found : IsFound part [] c.args.budget (Spent c.in-Spent.log) =
    subst (IsFound part [] c.args.budget) c.in-Spent.is c.in_ok-log.ensures.found in
    let same = c.in_ok-part.ensures ∙ ap (λ (ds : List ℕ). clauses_for ds c.args.clauses.now) c.as_slice.ensures.value in
    subst (λ (t : Clauses). IsSpentLog t.vars (clauses_of t.entries) [] c.args.budget c.in-Spent.log) same found

pub spent-requires-clause-below_all : goal.spent-requires-clause-below_all
spent-requires-clause-below_all c =
    let part = c.in_ok-part.part in
    let found : IsFound part [] c.args.budget (Spent c.in-Spent.log) =
    subst (IsFound part [] c.args.budget) c.in-Spent.is c.in_ok-log.ensures.found in
    let same = c.in_ok-part.ensures ∙ ap (λ (ds : List ℕ). clauses_for ds c.args.clauses.now) c.as_slice.ensures.value in
    let best : IsBest part [] c.args.budget (Spent c.in-Spent.log) =
    c.found_laws.ensures part [] c.args.budget (Spent c.in-Spent.log) c.in_ok-log.ensures.in_order found in
    (subst (λ (t : Clauses). IsBest t [] c.args.budget (Spent c.in-Spent.log)) same best).0

pub spent-requires-clause-below_lines : goal.spent-requires-clause-below_lines
spent-requires-clause-below_lines c =
    let part = c.in_ok-part.part in
    let found : IsFound part [] c.args.budget (Spent c.in-Spent.log) =
    subst (IsFound part [] c.args.budget) c.in-Spent.is c.in_ok-log.ensures.found in
    let best : IsBest part [] c.args.budget (Spent c.in-Spent.log) =
    c.found_laws.ensures part [] c.args.budget (Spent c.in-Spent.log) c.in_ok-log.ensures.in_order found in
    best.1
