use Rattle.std.proofs.Common.{◌≡◌, map, take}
use Rattle.spec_grammar.specs.Meaning.{truth}
use Rattle.directive_arguments.proofs.variant.truths.Given as goal

abbrev pub invariant-loop-piece : goal.invariant-loop-piece
invariant-loop-piece l = l.texts.items ≡ map (λ piece. truth piece.now) (take l.piece-index l.pieces.items)
