use Rattle.std.proofs.Common.{refl, sym}
use Rattle.command_line.proofs.Options.{for_none, for_some, has_none}
use Rattle.command_line.proofs.ending.answer_words.Goals as goal

pub returns-in-Some-clause-own : goal.returns-in-Some-clause-own
returns-in-Some-clause-own g c = for_some _ _ _ (sym c.in-Some.ensures.text) (refl, refl, c.end_own.ensures)

pub returns-in-Some-clause-ran : goal.returns-in-Some-clause-ran
returns-in-Some-clause-ran g c = λ none. absurd (has_none _ _ (sym c.in-Some.ensures.text) none)

pub returns-in-None-clause-own : goal.returns-in-None-clause-own
returns-in-None-clause-own g c = for_none _ _ (sym c.in-None.ensures.text)

pub returns-in-None-clause-ran : goal.returns-in-None-clause-ran
returns-in-None-clause-ran g c = λ none. c.end_run.ensures
