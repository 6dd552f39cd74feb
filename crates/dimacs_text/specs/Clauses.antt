-- The clauses as DIMACS.
use Rattle.std.specs.Prelude.{ℕ, List, [], ◌++◌, Option, Some, None, length, codes, decimal}
use Rattle.std.specs.List.{flat_map}
use Rattle.clause_store.specs.declared.list.Entry.{Entry}
use Rattle.clause_store.specs.Clauses.{Clauses}
use Rattle.dimacs_text.specs.Signs.{lits_line}

-- how many variables and clauses there are
unfoldable pub size_line : Clauses → List ℕ
size_line s = codes "p cnf " ++ (decimal s.vars ++ (codes " " ++ (decimal (length s.entries) ++ codes "\n")))

-- how many of the variables and clauses are those of the rules, which come before the others
unfoldable pub rules_line : Clauses → List ℕ
rules_line rules = codes "c rules " ++ (decimal rules.vars ++ (codes " " ++ (decimal (length rules.entries) ++ codes "\n")))

abbrev pub entry_line : Entry → List ℕ
entry_line e = lits_line e.clause

abbrev pub line_at : Option Entry → List ℕ
line_at None = []
line_at (Some e) = entry_line e

abbrev pub clause_lines : List Entry → List ℕ
clause_lines entries = flat_map entry_line entries
