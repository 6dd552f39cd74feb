use Rattle.std.proofs.Common.{◌≡◌, ◌++◌, List, Some, take, map, filter}
use Rattle.std.specs.List.{slice_get}
use Rattle.reachability.specs.Places.{AreNumbered}
use Rattle.graph_core.specs.Graphs.{Text}
use Rattle.reuse_db.specs.Databases.{hashes_of}
use Rattle.reuse_db.specs.declared.record.Record.{Record}
use Rattle.spec_find.specs.Found.{is_kept}
use Rattle.spec_find.specs.Marks.{flipped}
use Rattle.spec_find.proofs.links.add_arcs.Given as goal

abbrev pub invariant-loop-needed : goal.invariant-loop-needed
invariant-loop-needed l = (links : List (Text × Text)) (entry : Record) → slice_get l.records l.place ≡ Some entry
    → AreNumbered (hashes_of l.records) links l.initial.arcs.items
    → AreNumbered (hashes_of l.records)
    (links ++ flipped (map (λ x. (entry.hash, x.hash)) (filter is_kept (take l.needed-index entry.dependencies)))) l.arcs.items
