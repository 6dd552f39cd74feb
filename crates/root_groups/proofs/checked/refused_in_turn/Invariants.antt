use Rattle.std.proofs.Common.{◌≡◌, ◌+◌, All, drop, take}
use Rattle.root_groups.specs.Checked.{IsCertified, first_refused}
use Rattle.root_groups.proofs.checked.refused_in_turn.Given as goal

abbrev pub invariant-loop-i : goal.invariant-loop-i
invariant-loop-i g l = record {
  first : first_refused (l.place + l.i) (drop l.i l.parts) ≡ first_refused l.place l.parts;
  certified : All IsCertified (take l.i l.parts);
}
