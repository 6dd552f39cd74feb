use Rattle.std.proofs.Common.{ap, ◌∙◌}
use Rattle.std.specs.List.{list_any}
use Rattle.cost_vector.proofs.IndexLaws.{any_lent}
use Rattle.cost_vector.proofs.choices.is_marked.Goals as goal

pub returns : goal.returns
returns c = c.some_deprecated.ensures ∙ any_lent (λ row. row.deprecated) c.of.result.now ∙ ap (list_any (λ e. e.1.deprecated)) c.of.ensures
