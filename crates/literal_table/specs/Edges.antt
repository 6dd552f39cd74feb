-- Whether an edge is there.
use Rattle.std.specs.Prelude.{[], ◌∷◌}
use Rattle.clause_formulas.specs.Statements.{Statement, atom, any_statement}
use Rattle.literal_table.specs.declared.block.EdgeLits.{EdgeLits}

-- some kind is chosen
abbrev pub edge_there : EdgeLits → Statement
edge_there e = any_statement (atom e.build ∷ atom e.link ∷ atom e.run ∷ [])
