use Rattle.std.proofs.Common.{◌≡◌, ◌||◌, ℕ, Bool, length, drop}
use Rattle.explain_failure.specs.Uses.{stands}
use Rattle.explain_failure.specs.Marks.{AreMarks}
use Rattle.explain_failure.proofs.Marking.{Lacks}
use Rattle.explain_failure.proofs.marks.mark_all.Given as goal

abbrev pub invariant-loop-id : goal.invariant-loop-id
invariant-loop-id l = (length l.marks.items ≡ length l.fn.marks.items)
    × ((used : ℕ → Bool) → AreMarks l.fn.marks.items used → Lacks l.marks.items (λ x. used x || stands l.ids x) (drop l.id-index l.ids))
