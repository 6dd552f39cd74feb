use Rattle.std.proofs.Common.{◌≡◌, ℕ, length}
use Rattle.log_trim.specs.Marks.{name_in}
use Rattle.log_trim.proofs.anew.own_names.Given as goal

abbrev pub invariant-loop-id : goal.invariant-loop-id
invariant-loop-id l = (length l.names.items ≡ l.id) × ((x : ℕ) → name_in l.names.items x ≡ x)
