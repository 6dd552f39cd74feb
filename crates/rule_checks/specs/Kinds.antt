-- Kinds of edges.
use Rattle.std.specs.Prelude.{◌||◌}
use Rattle.graph_core.specs.declared.node.Kinds.{Kinds}

-- the kinds of both
abbrev pub joined : Kinds → Kinds → Kinds
joined a b = record { build = a.build || b.build; link = a.link || b.link; run = a.run || b.run }
