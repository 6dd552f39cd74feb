use Rattle.std.proofs.Common.{◌≡◌, ◌++◌, map, drop}
use Rattle.serde_json.specs.View.{view}
use Rattle.lock_writer.specs.Texts.{root_data}
use Rattle.lock_writer.proofs.lock.root_values.Given as goal

abbrev pub invariant-loop-root : goal.invariant-loop-root
invariant-loop-root l = map view l.values.items ++ map (root_data l.graph) (drop l.root-index l.roots) ≡ map (root_data l.graph) l.roots
