use Rattle.std.proofs.Common.{◌≡◌, take}
use Rattle.run_answers.specs.Texts.{reasons_text}
use Rattle.run_answers.proofs.lines.write_reasons.Given as goal

abbrev pub invariant-loop-id : goal.invariant-loop-id
invariant-loop-id l = l.out.items ≡ reasons_text l.problem (take l.id-index l.demands)
