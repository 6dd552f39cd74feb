use Rattle.std.proofs.Common.{◌-◌, length}
use Rattle.spec_grammar.proofs.StandLaws.{Stands}
use Rattle.spec_grammar.proofs.reading.read_items.Given as goal

abbrev pub invariant-loop-at : goal.invariant-loop-at
invariant-loop-at l = Stands l.mode l.text l.at l.draft l.before l.gap

abbrev pub decreases-loop-at : goal.decreases-loop-at
decreases-loop-at l = length l.text - l.at
