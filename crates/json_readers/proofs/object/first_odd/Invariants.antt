use Rattle.std.proofs.Common.{◌≡◌, ◌≤◌, map, drop, length}
use Rattle.serde_json.specs.View.{members_view}
use Rattle.json_readers.specs.Objects.{first_odd}
use Rattle.json_readers.proofs.object.first_odd.Given as goal

abbrev pub invariant-loop-key : goal.invariant-loop-key
invariant-loop-key l = record {
  within : l.place ≤ length l.keys;
  left : first_odd (map (λ k. k.now) l.keys) (members_view l.members.entries) ≡ first_odd (map (λ k. k.now) (drop l.place l.keys))
      (members_view l.key-iterator);
}
