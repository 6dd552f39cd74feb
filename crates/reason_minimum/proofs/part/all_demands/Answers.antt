use Rattle.std.proofs.Common.{◌≡◌, ◌+◌, ◌∙◌, sym, subst, take, List, ℕ, arith}
use Rattle.explain_failure.specs.Uses.{stands, IsRising}
use Rattle.explain_failure.proofs.Numbers.{rising-with}
use Rattle.reason_minimum.specs.Parts.{labels}
use Rattle.reason_minimum.proofs.Parting.{all-put, all-pass}
use Rattle.reason_minimum.proofs.part.all_demands.Goals as goal
use Rattle.reason_minimum.proofs.part.all_demands.Goals.{in-Some+in_ok-put-in-Some, in-None}

pub loop-place-preserved : goal.loop-place-preserved
loop-place-preserved c =
    let es = c.args.clauses.now.entries in
    let P : List ℕ → Type 0 = λ ds. IsRising ds × ((d : ℕ) → stands ds d ≡ labels (take (c.loop-place.place + 1) es) d) in
    elim c.match-demand_at.branch [
      | in-Some+in_ok-put-in-Some w ↦ subst (λ v. P v.items) (sym w.demands-is) (
        subst IsRising (sym w.in_ok-put-in-Some.ensures) (rising-with c.loop-place.demands.items w.in-Some.demand c.loop-place.invariant.0),
        all-put es c.loop-place.place c.loop-place.demands.items w.put.new.numbers.items w.in-Some.demand
            (omega (arith, c.loop-place-test.true, c.len-place-end.ensures)) (sym w.in-Some.is ∙ c.demand_at.ensures)
            w.in_ok-put-in-Some.ensures c.loop-place.invariant.1,
      )
      | in-None w ↦ subst (λ v. P v.items) (sym w.demands-is) (
        c.loop-place.invariant.0,
        all-pass es c.loop-place.place c.loop-place.demands.items
            (omega (arith, c.loop-place-test.true, c.len-place-end.ensures)) (sym w.in-None.is ∙ c.demand_at.ensures)
            c.loop-place.invariant.1,
      )
    ]
