use Rattle.std.proofs.Common.{ap, ◌∙◌, map}
use Rattle.std.proofs.lemmas.Result.{IfOk-weaker}
use Rattle.virtuals.specs.OfGraphCore.Graphs.{Text}
use Rattle.virtuals.specs.OfConditions.VariantRow.{VariantRow}
use Rattle.condition_rules.proofs.definitions.Definitions.of.Goals as goal

pub returns : goal.returns
returns c = rw (← c.self.view_is)
    (IfOk-weaker c.rows_in.result _ _ (λ rows are. are ∙ ap (map (λ (e : Text × VariantRow). e.1)) c.of.ensures
    ∙ c.self.invariant c.args.variant.now)
    c.rows_in.ensures)
