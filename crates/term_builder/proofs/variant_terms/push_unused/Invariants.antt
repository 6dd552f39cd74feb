use Rattle.std.proofs.Common.{◌≡◌, ◌++◌, ◌∷◌, [], true, map, drop}
use Rattle.std.specs.Str.{bytes_eq}
use Rattle.clause_formulas.specs.Statements.{all_statements, no}
use Rattle.clause_formulas.specs.Drafts.{statement_of}
use Rattle.literal_table.specs.Choices.{any_choice}
use Rattle.cost_terms.specs.Governing.{weighed_once}
use Rattle.term_builder.specs.VariantTerms.{rows_of, governs}
use Rattle.term_builder.proofs.variant_terms.push_unused.Given as goal

abbrev pub invariant-loop-text : goal.invariant-loop-text
invariant-loop-text l =
    l.terms.items
    ++ map (λ text. weighed_once (all_statements
    (any_choice (λ value. true) l.fn.values ∷ governs (statement_of l.condition) (rows_of l.fn.later)
    ∷ no (any_choice (bytes_eq text) l.fn.values) ∷ [])))
    (drop l.text-index l.fn.row.default)
    ≡ l.fn.terms.items
    ++ map (λ text. weighed_once (all_statements
    (any_choice (λ value. true) l.fn.values ∷ governs (statement_of l.condition) (rows_of l.fn.later)
    ∷ no (any_choice (bytes_eq text) l.fn.values) ∷ [])))
    l.fn.row.default
