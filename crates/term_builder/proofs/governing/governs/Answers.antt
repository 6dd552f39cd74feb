use Rattle.std.proofs.Common.{◌∙◌}
use Rattle.std.proofs.lemmas.Result.{IfOk-weaker}
use Rattle.clause_formulas.specs.Drafts.{statement_of}
use Rattle.term_builder.specs.VariantTerms.{rows_of}
use Rattle.term_builder.proofs.Later.{governs-is}
use Rattle.term_builder.proofs.governing.governs.Goals as goal

pub returns : goal.returns
returns c =
    IfOk-weaker c.both.result _ _ (λ formula made. made
    ∙ governs-is (statement_of c.args.condition) c.of.result c.in_ok-none.none
    (rows_of c.args.later.now) c.new-parts.result.items _ c.of.ensures c.new-parts.ensures.items
    c.in_ok-push_conditions.ensures c.in_ok-none.ensures) c.both.ensures
