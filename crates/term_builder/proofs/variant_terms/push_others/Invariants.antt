use Rattle.std.proofs.Common.{◌≡◌, ◌++◌, not, flat_map, drop}
use Rattle.condition_rules.specs.Words.{is_one_text}
use Rattle.clause_formulas.specs.Statements.{atom, both_statements}
use Rattle.clause_formulas.specs.Drafts.{statement_of}
use Rattle.cost_terms.specs.Governing.{weighed_once}
use Rattle.term_builder.specs.Tests.{only_if}
use Rattle.term_builder.specs.VariantTerms.{rows_of, governs}
use Rattle.term_builder.proofs.variant_terms.push_others.Given as goal

abbrev pub invariant-loop-choice : goal.invariant-loop-choice
invariant-loop-choice l =
    l.terms.items ++ flat_map (λ c. only_if (not (is_one_text l.fn.row.default c.0))
    (weighed_once
    (both_statements (atom c.1) (governs (statement_of l.condition) (rows_of l.fn.later)))))
    (drop l.choice-index l.fn.values)
    ≡ l.fn.terms.items ++ flat_map (λ c. only_if (not (is_one_text l.fn.row.default c.0))
    (weighed_once
    (both_statements (atom c.1) (governs (statement_of l.condition) (rows_of l.fn.later)))))
    l.fn.values
