use Rattle.std.proofs.Common.{◌∙◌}
use Rattle.directive_arguments.proofs.WordLaws.{map_of}
use Rattle.directive_arguments.proofs.variant.cut_texts.Goals as goal

pub returns : goal.returns
returns c = c.in_ok-texts.ensures ∙ map_of (λ piece. piece.now) _ _ c.in_ok-cut.ensures
