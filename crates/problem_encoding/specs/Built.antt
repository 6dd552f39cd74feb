-- The encoding of a problem, as a function.
use Rattle.std.specs.Prelude.{List}
use Rattle.clause_store.specs.Clauses.{Clauses}
use Rattle.clause_formulas.specs.declared.defined.Defined.{Defined}
use Rattle.graph_core.specs.Graphs.{Text}
use Rattle.problem.specs.Problems.{Problem, root_names}
use Rattle.possible_closure.specs.Closures.{closure_of}
use Rattle.literal_table.specs.Tables.{Table}
use Rattle.ranked_costs.specs.Walks.{post_order}
use Rattle.problem_formulas.specs.Given.{no_place}
use Rattle.ranked_costs.specs.OfValidModels.Tables.{table_for}
use Rattle.ranked_costs.specs.OfValidModels.Closures.{closure_clauses}
use Rattle.ranked_costs.specs.Ranked.{closure_values}
use Rattle.ranked_costs.specs.Built.{rank_costs_on}
use Rattle.problem_encoding.specs.declared.encoded.Encoded.{Encoded}

-- the table of the names that nodes may have, the clauses of the rules over it, and what is defined
-- for the conditions
abbrev pub table_of : Problem → Table
table_of problem = table_for problem (closure_of problem)

abbrev pub rule_clauses : Problem → Clauses
rule_clauses problem = closure_clauses problem (closure_of problem) no_place

abbrev pub rule_values : Problem → List Defined
rule_values problem = closure_values problem (closure_of problem) no_place

-- the names of a table in the order in which their terms stand: children before parents
abbrev pub order_in : Problem → Table → List Text
order_in problem t = post_order t (root_names problem)

-- the clauses of the rules with the bits of the costs behind them, and the table that reads a model
unfoldable pub encoding_of : Problem → Encoded
encoding_of problem =
    let made = rank_costs_on (rule_clauses problem) problem (table_of problem) (rule_values problem)
    (order_in problem (table_of problem)) in
    record { clauses = made.list; bits = made.answer; table = table_of problem }
