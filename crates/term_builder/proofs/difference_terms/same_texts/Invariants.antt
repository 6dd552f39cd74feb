use Rattle.std.proofs.Common.{◌≡◌, ◌++◌, map, drop}
use Rattle.std.specs.Str.{bytes_eq}
use Rattle.clause_formulas.specs.Statements.{atom, both_statements}
use Rattle.literal_table.specs.Choices.{any_choice}
use Rattle.term_builder.proofs.difference_terms.same_texts.Given as goal

abbrev pub invariant-loop-x : goal.invariant-loop-x
invariant-loop-x l = l.parts.items ++ map (λ x. both_statements (atom x.1) (any_choice (bytes_eq x.0) l.ys)) (drop l.x-index l.xs)
    ≡ map (λ x. both_statements (atom x.1) (any_choice (bytes_eq x.0) l.ys)) l.xs
