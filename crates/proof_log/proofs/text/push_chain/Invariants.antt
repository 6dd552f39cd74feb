use Rattle.std.proofs.Common.{◌≡◌, ◌++◌, take, map}
use Rattle.proof_log.specs.Fields.{number}
use Rattle.proof_log.specs.Texts.{AreWords}
use Rattle.proof_log.proofs.text.push_chain.Given as goal

abbrev pub invariant-loop-id : goal.invariant-loop-id
invariant-loop-id l = record {
  so_far : l.fields.items ≡ l.initial.fields.items ++ map number (take l.id-index l.chain);
  typed : AreWords (take l.id-index l.chain);
}
