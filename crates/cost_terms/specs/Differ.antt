-- Whether what is chosen of two lists differs.
use Rattle.std.specs.Prelude.{Bool, true, false, not, ◌&&◌, List, [], ◌∷◌, map, Option, Some, None, is_some, if◌then◌else◌}
use Rattle.graph_core.specs.Graphs.{Text}
use Rattle.graph_core.specs.declared.node.Compiler.{Compiler}
use Rattle.std.specs.List.{list_any, list_all}
use Rattle.problem.specs.Problems.{same_compiler}
use Rattle.clause_formulas.specs.Statements.{Statement, atom, never, no, both_statements, any_statement, all_statements}
use Rattle.literal_table.specs.Choices.{Choices, any_choice}
use Rattle.cost_terms.specs.declared.weighted.Weighted.{Weighted}

module _ {T : Type 0} (filled : T → Bool) (same : T → T → Bool) where
  -- what is chosen is something
  abbrev pub filled_said : Choices T → Statement
  filled_said xs = if list_all (λ x. filled x.0) xs then no never else any_choice filled xs

  -- what is chosen is the same
  abbrev pub same_said : Choices T → Choices T → Statement
  same_said xs ys = any_statement (map (λ x. both_statements (atom x.1) (any_choice (same x.0) ys)) xs)

  -- both are something, and not the same
  abbrev pub differ : T → T → Bool
  differ x y = filled x && filled y && not (same x y)

  abbrev pub can_differ : Choices T → Choices T → Bool
  can_differ xs ys = list_any (λ x. list_any (λ y. differ x.0 y.0) ys) xs

  abbrev pub differ_said : Statement → Choices T → Choices T → Statement
  differ_said there xs ys = all_statements (there ∷ filled_said xs ∷ filled_said ys ∷ no (same_said xs ys) ∷ [])

  -- a term for an edge whose ends differ: none where they cannot
  abbrev pub differ_terms : Statement → Choices T → Choices T → List Weighted
  differ_terms there xs ys = if can_differ xs ys then record { weight = 1; formula = differ_said there xs ys } ∷ [] else []

-- ---- texts, and compilers that may be absent

abbrev pub is_any_text : Text → Bool
is_any_text text = true

abbrev pub is_some_compiler : Option Compiler → Bool
is_some_compiler compiler = is_some compiler

abbrev pub same_compilers : Option Compiler → Option Compiler → Bool
same_compilers None other = false
same_compilers (Some a) None = false
same_compilers (Some a) (Some b) = same_compiler a b
