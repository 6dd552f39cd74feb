use Rattle.std.proofs.Common.{drop}
use Rattle.settings_reader.specs.Required.{IsCondition, texts_at}
use Rattle.settings_reader.proofs.Each.{Continues}
use Rattle.settings_reader.proofs.required.parse_all.Given as goal

abbrev pub invariant-loop-i : goal.invariant-loop-i
invariant-loop-i l = Continues (λ key text. IsCondition text) (texts_at 0 l.texts) (texts_at l.i (drop l.i l.texts)) l.specs
