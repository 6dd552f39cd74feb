-- Clauses with their table and their bits as DIMACS.
use Rattle.std.specs.Prelude.{ℕ, List, ◌++◌}
use Rattle.clause_store.specs.Clauses.{Clauses}
use Rattle.criteria_totals.specs.Totals.{Spelling}
use Rattle.literal_table.specs.Tables.{Table}
use Rattle.problem.specs.Problems.{Problem}
use Rattle.dimacs_text.specs.Choices.{table_text}
use Rattle.dimacs_text.specs.Labels.{label_lines}
use Rattle.dimacs_text.specs.Sums.{number_lines}
use Rattle.dimacs_text.specs.Clauses.{size_line, clause_lines}

-- comments on choices, demands, numbers and bits, and then the clauses
unfoldable pub dimacs_text : Problem → Clauses → Spelling → Table → List ℕ
dimacs_text problem clauses bits table =
    table_text table
    ++ (label_lines problem 1 clauses.entries
    ++ (number_lines 1 0 bits.tops bits.lits
    ++ (size_line clauses
    ++ clause_lines clauses.entries)))
