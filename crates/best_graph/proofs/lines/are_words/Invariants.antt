use Rattle.std.proofs.Common.{take}
use Rattle.proof_log.specs.Texts.{AreWords}
use Rattle.best_graph.proofs.lines.are_words.Given as goal

abbrev pub invariant-loop-id : goal.invariant-loop-id
invariant-loop-id l = AreWords (take l.id-index l.chain)
