use Rattle.std.proofs.Common.{refl, not}
use Rattle.std.proofs.lemmas.List.{drop_all}
use Rattle.condition_rules.specs.Words.{is_one_text}
use Rattle.clause_formulas.specs.Statements.{atom, both_statements}
use Rattle.clause_formulas.specs.Drafts.{statement_of}
use Rattle.cost_terms.specs.Governing.{weighed_once}
use Rattle.term_builder.specs.Tests.{only_if}
use Rattle.term_builder.specs.VariantTerms.{rows_of, governs}
use Rattle.term_builder.proofs.Pushed.{pushed-if, ended}
use Rattle.term_builder.proofs.variant_terms.push_others.Goals as goal

pub returns : goal.returns
returns c =
    let governing = governs (statement_of c.args.condition) (rows_of c.args.later.now) in
    ended (λ choice. only_if (not (is_one_text c.args.row.now.default choice.0)) (weighed_once (both_statements (atom choice.1) governing)))
    c.args.values.now c.args.values.now c.loop-choice.choice-index c.loop-choice.terms.items c.args.terms.now.items _
    refl (drop_all c.loop-choice.choice-index c.args.values.now c.loop-choice-test.false) c.loop-choice.invariant
    (pushed-if (λ choice. not (is_one_text c.args.row.now.default choice.0))
    (λ choice. weighed_once (both_statements (atom choice.1) governing))
    c.args.values.now)
