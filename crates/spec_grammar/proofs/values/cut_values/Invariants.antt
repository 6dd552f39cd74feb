use Rattle.std.proofs.Common.{length}
use Rattle.spec_grammar.proofs.CutLaws.{IsSoFar}
use Rattle.spec_grammar.proofs.values.cut_values.Given as goal

abbrev pub invariant-loop-values : goal.invariant-loop-values
invariant-loop-values l = IsSoFar l.text l.values l.rest

abbrev pub decreases-loop-values : goal.decreases-loop-values
decreases-loop-values l = length l.rest
