use Rattle.std.proofs.Common.{◌≡◌, ◌-◌, length, drop}
use Rattle.log_trim.specs.Trimmed.{used_by, staying}
use Rattle.log_trim.specs.Marks.{AreMarks}
use Rattle.log_trim.proofs.marks.staying_of.Given as goal

abbrev pub invariant-loop-i : goal.invariant-loop-i
invariant-loop-i l = ((length l.marks.items ≡ l.size) × AreMarks l.marks.items (used_by (drop (length l.lines - l.i) l.lines)))
    × (length l.staying.items ≡ length l.lines)
    × (drop (length l.lines - l.i) l.staying.items ≡ staying (drop (length l.lines - l.i) l.lines))
