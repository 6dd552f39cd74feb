-- The walk, edge by edge.
use Rattle.std.specs.Prelude.{ℕ, List, if◌then◌else◌}
use Rattle.std.specs.List.{fold}
use Rattle.std.specs.Str.{bytes_eq}
use Rattle.graph_core.specs.Graphs.{Text}
use Rattle.literal_table.specs.Tables.{Table}
use Rattle.literal_table.specs.declared.block.EdgeLits.{EdgeLits}
use Rattle.ranked_costs.specs.Walks.{Walk, visit}

abbrev pub walk_at : List Text → List Text → Walk
walk_at rest left = record { rest = rest; left = left }

-- a child is visited where the edge leads from the parent
abbrev pub visit_edge : ℕ → Table → Text → Walk → EdgeLits → Walk
visit_edge more table parent w e = visit (if bytes_eq e.parent parent then more else 0) table w e.child

abbrev pub visit_all : ℕ → Table → Text → Walk → List EdgeLits → Walk
visit_all more table parent w edges = fold (visit_edge more table parent) w edges
