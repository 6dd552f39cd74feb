use Rattle.std.proofs.Common.{◌≡◌, ◌+◌, ◌||◌, ◌∙◌, ℕ, Bool, List, true, refl, sym, subst, length, drop, arith}
use Rattle.std.proofs.lemmas.List.{length-set, drop_all}
use Rattle.log_trim.specs.Trimmed.{stands}
use Rattle.log_trim.specs.Marks.{AreMarks}
use Rattle.log_trim.proofs.Marking.{Lacks, lacks-start, lacks-put, lacks-pass, lacks-end}
use Rattle.log_trim.proofs.marks.mark_all.Goals as goal
use Rattle.log_trim.proofs.marks.mark_all.Goals.{then-place-len, else-place-len}

pub loop-id-init : goal.loop-id-init
loop-id-init c = (refl, λ used a. lacks-start c.args.marks.now.items used c.args.ids.now a)

pub loop-id-preserved : goal.loop-id-preserved
loop-id-preserved c =
    let P : List Bool → Type 0 = λ m. (length m ≡ length c.args.marks.now.items)
    × ((used : ℕ → Bool) → AreMarks c.args.marks.now.items used
    → Lacks m (λ x. used x || stands c.args.ids.now x) (drop (c.loop-id.id-index + 1) c.args.ids.now)) in
    elim c.if-place-len.branch [
      | then-place-len w ↦ subst (λ v. P v.items) (sym w.marks-is) (
        length-set c.loop-id.marks.items _ true ∙ c.loop-id.invariant.0,
        λ used a. lacks-put c.loop-id.marks.items
            (λ x. used x || stands c.args.ids.now x) c.args.ids.now c.loop-id.id-index _ c.loop-id-test.true
            (omega (arith, w.if-place-len.true, c.len.ensures)) (c.loop-id.invariant.1 used a),
      )
      | else-place-len w ↦ subst (λ v. P v.items) (sym w.marks-is) (
        c.loop-id.invariant.0,
        λ used a. lacks-pass c.loop-id.marks.items
            (λ x. used x || stands c.args.ids.now x) c.args.ids.now c.loop-id.id-index _ c.len.result c.loop-id-test.true
            (omega (arith, c.len.ensures)) w.if-place-len.false (c.loop-id.invariant.1 used a),
      )
    ]

pub returns-clause-marked : goal.returns-clause-marked
returns-clause-marked c = λ used a. lacks-end c.loop-id.marks.items (λ x. used x || stands c.args.ids.now x)
    (drop c.loop-id.id-index c.args.ids.now) (drop_all c.loop-id.id-index c.args.ids.now (omega (arith, c.loop-id-test.false)))
    (c.loop-id.invariant.1 used a)
