use Rattle.std.proofs.Common.{◌≡◌, ◌∷◌, ◌||◌, ◌∙◌, ℕ, List, Option, drop, true, sym, ap, subst}
use Rattle.std.specs.Prelude.{IfSome}
use Rattle.clause_store.specs.Clauses.{Meets}
use Rattle.clause_solver.specs.Models.{values_in}
use Rattle.explain_failure.specs.Uses.{stands}
use Rattle.reason_minimum.specs.Reductions.{all_but}
use Rattle.reason_minimum.proofs.Rounds.{first-needed, broken-needed}
use Rattle.reason_minimum.proofs.reduction.Reduction.needed_one.Goals as goal

pub returns-then-count-eq1-clause-some : goal.returns-then-count-eq1-clause-some
returns-then-count-eq1-clause-some c =
    first-needed c.args.clauses.now c.args.self.now c.args.count c.first_of.result c.args.model.now
    (subst (λ (xs : List ℕ). xs ≡ c.first_of.result ∷ drop 1 xs) c.as_slice.ensures.value c.first_of.ensures)
    c.if-count-eq1.true c.requires.model

pub returns-then-stands-clause-some : goal.returns-then-stands-clause-some
returns-then-stands-clause-some c =
    let d = c.in-Some.demand in
    let v = values_in c.args.model.now in
    let es = c.args.clauses.now.entries in
    let told = subst (λ (o : Option ℕ). IfSome o (λ b. Meets (all_but (stands c.as_slice-4.result.now) b) v es)) c.in-Some.is
    c.in_ok-demand.ensures in
    broken-needed c.args.clauses.now c.args.self.now c.in_ok-all.all.items c.args.count d c.args.model.now
    (λ e. c.in_ok-all.ensures.members e ∙ ap (λ (xs : List ℕ). stands xs e || stands c.as_slice-3.result.now e) c.as_slice-2.ensures.value
    ∙ ap (λ (xs : List ℕ). stands c.args.self.now.needed.items e || stands xs e) c.as_slice-3.ensures.value)
    c.requires.model (subst (λ (xs : List ℕ). Meets (all_but (stands xs) d) v es) c.as_slice-4.ensures.value told)
    (subst (λ (xs : List ℕ). stands xs d ≡ true) c.as_slice-5.ensures.value (sym c.stands.ensures ∙ c.if-stands.true))
