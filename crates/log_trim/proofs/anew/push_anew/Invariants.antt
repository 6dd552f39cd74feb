use Rattle.std.proofs.Common.{◌≡◌, ◌+◌, ◌≤◌, ◌++◌, length, drop}
use Rattle.log_trim.specs.Trimmed.{anew}
use Rattle.log_trim.specs.Marks.{name_in}
use Rattle.log_trim.proofs.anew.push_anew.Given as goal

abbrev pub invariant-loop-place : goal.invariant-loop-place
invariant-loop-place l = ((length l.names.items ≡ length l.fn.names.items) × (l.count ≤ l.before + l.place))
    × (l.log ++ anew (name_in l.names.items) l.count (drop l.place l.lines) (drop l.place l.staying)
    ≡ l.fn.log ++ anew (name_in l.fn.names.items) l.before l.lines l.staying)
