use Rattle.command_line.proofs.answer_on_machine.Goals as goal

pub returns : goal.returns
returns g c = record { ran = λ none. (c.answer_words.new.kept, c.answer_words.ensures.ran none) }
