use Rattle.std.proofs.Common.{◌≡◌, ◌||◌, ℕ, Bool, length, drop}
use Rattle.log_trim.specs.Trimmed.{stands}
use Rattle.log_trim.specs.Marks.{AreMarks}
use Rattle.log_trim.proofs.Marking.{Lacks}
use Rattle.log_trim.proofs.marks.mark_all.Given as goal

abbrev pub invariant-loop-id : goal.invariant-loop-id
invariant-loop-id l = (length l.marks.items ≡ length l.fn.marks.items)
    × ((used : ℕ → Bool) → AreMarks l.fn.marks.items used → Lacks l.marks.items (λ x. used x || stands l.ids x) (drop l.id-index l.ids))
