use Rattle.std.proofs.Common.{◌≡◌, ◌≤◌}
use Rattle.level_encoding.proofs.Room.{members_to}
use Rattle.level_encoding.proofs.widths.members.Given as goal

abbrev pub invariant-loop-p : goal.invariant-loop-p
invariant-loop-p l = (l.count ≡ members_to l.input l.q l.p) × (l.count ≤ l.p)
