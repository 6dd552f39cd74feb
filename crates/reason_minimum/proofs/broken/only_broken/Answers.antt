use Rattle.std.proofs.Common.{◌≡◌, ◌+◌, ℕ, Option, Some, true, take, sym, subst, arith}
use Rattle.std.specs.Prelude.{IfSome, IfNone}
use Rattle.clause_solver.specs.Models.{values_in}
use Rattle.clause_store.specs.declared.Label.{Label}
use Rattle.clause_store.specs.declared.list.Entry.{Entry}
use Rattle.clause_store.specs.Clauses.{Meets, at_id, entry_met}
use Rattle.explain_failure.specs.Uses.{stands}
use Rattle.reason_minimum.specs.Reductions.{but}
use Rattle.reason_minimum.proofs.Breaking.{broken-pass, broken-put}
use Rattle.reason_minimum.proofs.broken.only_broken.Goals as goal
use Rattle.reason_minimum.proofs.broken.only_broken.Goals.{in-Some+in-Some-only_one, in-None}

pub loop-place-preserved : goal.loop-place-preserved
loop-place-preserved c =
    let asked = stands c.args.demands.now in
    let v = values_in c.args.model.now in
    let es = c.args.clauses.now.entries in
    let i = c.loop-place.place in
    let P : Option ℕ → Type 0 = λ o. Meets (but asked o) v (take (i + 1) es) in
    let IsLabel : Option Label → Type 0 = λ o. IfSome o (λ l. (e : Entry) → at_id es (i + 1) ≡ Some e → e.label ≡ l) in
    let IsMet : Option Label → Type 0 = λ o. IfNone o ((e : Entry) → at_id es (i + 1) ≡ Some e → entry_met asked v e ≡ true) in
    elim c.match-branch-2.branch [
      | in-Some+in-Some-only_one w ↦ subst P (sym w.broken-is)
          (broken-put asked v es c.loop-place.broken i (omega (arith, c.loop-place-test.true, c.len-place-end.ensures))
          c.loop-place.invariant
          w.in-Some.label w.in-Some-only_one.demand (subst IsLabel w.in-Some.is c.in_ok-broken_label.ensures.label)
          w.in-Some-only_one.ensures.label w.in-Some-only_one.ensures.only)
      | in-None w ↦ subst P (sym w.broken-is)
          (broken-pass asked v es c.loop-place.broken i (omega (arith, c.loop-place-test.true, c.len-place-end.ensures))
          c.loop-place.invariant
          (subst IsMet w.in-None.is c.in_ok-broken_label.ensures.met))
    ]
