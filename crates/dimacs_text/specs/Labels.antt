-- Which clauses are there for which demand.
use Rattle.std.specs.Prelude.{ℕ, ◌+◌, List, [], ◌∷◌, ◌++◌, Option, Some, None, codes, decimal}
use Rattle.clause_store.specs.declared.Label.{Label}
use Rattle.clause_store.specs.declared.Label.TheVariants.{Structure, Demand}
use Rattle.clause_store.specs.declared.list.Entry.{Entry}
use Rattle.problem.specs.Problems.{Problem}
use Rattle.run_answers.specs.Texts.{reasons_text}

-- a clause by its id, the number of its demand, and that demand's line
unfoldable pub demand_line : Problem → ℕ → ℕ → List ℕ
demand_line problem id demand =
    codes "c clause " ++ (decimal id ++ (codes " demand " ++ (decimal demand ++ (codes " " ++ reasons_text problem (demand ∷ [])))))

-- a clause of the structure has no line
abbrev pub label_line : Problem → ℕ → Label → List ℕ
label_line problem id Structure = []
label_line problem id (Demand demand) = demand_line problem id demand

abbrev pub label_at : Problem → ℕ → Option Label → List ℕ
label_at problem id None = []
label_at problem id (Some label) = label_line problem id label

-- the lines of clauses whose ids go on from the given one
abbrev pub label_lines : Problem → ℕ → List Entry → List ℕ
label_lines problem id [] = []
label_lines problem id (e ∷ es) = label_line problem id e.label ++ label_lines problem (id + 1) es
