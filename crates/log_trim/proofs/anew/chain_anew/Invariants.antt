use Rattle.std.proofs.Common.{◌≡◌, ◌++◌, drop, map}
use Rattle.log_trim.specs.Marks.{name_in}
use Rattle.log_trim.proofs.anew.chain_anew.Given as goal

abbrev pub invariant-loop-id : goal.invariant-loop-id
invariant-loop-id l = l.ids.items ++ map (name_in l.names) (drop l.id-index l.chain) ≡ map (name_in l.names) l.chain
