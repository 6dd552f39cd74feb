use Rattle.std.proofs.Common.{◌+◌, ◌∙◌, sym, subst, List, ℕ}
use Rattle.explain_failure.specs.Uses.{IsRising}
use Rattle.explain_failure.specs.Marks.{AreDemands}
use Rattle.explain_failure.proofs.Numbers.{rising-with}
use Rattle.explain_failure.proofs.Marking.{demands-pass, demands-put}
use Rattle.explain_failure.proofs.demands.demands_of.Goals as goal
use Rattle.explain_failure.proofs.demands.demands_of.Goals.{in-Some+in_ok-put-in-Some, in-None}

pub loop-place-preserved : goal.loop-place-preserved
loop-place-preserved c =
    let es = c.args.clauses.now.entries in
    let marks = c.args.marks.now in
    let P : List ℕ → Type 0 = λ ds. IsRising ds × AreDemands es marks (c.loop-place.place + 1) ds in
    elim c.match-demand_of.branch [
      | in-Some+in_ok-put-in-Some w ↦ subst (λ v. P v.items) (sym w.demands-is) (
        subst IsRising (sym w.in_ok-put-in-Some.ensures) (rising-with c.loop-place.demands.items w.in-Some.demand c.loop-place.invariant.0),
        demands-put es marks c.loop-place.place c.loop-place.demands.items w.put.new.numbers.items w.in-Some.demand
            (sym c.demand_of.ensures ∙ w.in-Some.is) w.in_ok-put-in-Some.ensures c.loop-place.invariant.1,
      )
      | in-None w ↦ subst (λ v. P v.items) (sym w.demands-is) (
        c.loop-place.invariant.0,
        demands-pass es marks c.loop-place.place c.loop-place.demands.items
            (sym c.demand_of.ensures ∙ w.in-None.is) c.loop-place.invariant.1,
      )
    ]
