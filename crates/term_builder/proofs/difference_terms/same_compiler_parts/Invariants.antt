use Rattle.std.proofs.Common.{◌≡◌, ◌++◌, map, drop}
use Rattle.clause_formulas.specs.Statements.{atom, both_statements}
use Rattle.literal_table.specs.Choices.{any_choice}
use Rattle.cost_terms.specs.Differ.{same_compilers}
use Rattle.term_builder.proofs.difference_terms.same_compiler_parts.Given as goal

abbrev pub invariant-loop-x : goal.invariant-loop-x
invariant-loop-x l = l.parts.items ++ map (λ x. both_statements (atom x.1) (any_choice (same_compilers x.0) l.ys)) (drop l.x-index l.xs)
    ≡ map (λ x. both_statements (atom x.1) (any_choice (same_compilers x.0) l.ys)) l.xs
