use Rattle.std.specs.Prelude.{◌≡◌, None}
use Rattle.run_output.specs.Words.{command_of, words_of}
use Rattle.command_line.proofs.OneWord.{alone}
use Rattle.command_line.proofs.Options.{in_any}
use Rattle.command_line.proofs.own_words.own_text.Goals as goal

pub returns-in-len1-clause-no_command : goal.returns-in-len1-clause-no_command
returns-in-len1-clause-no_command c =
    in_any c.text_for.result (command_of (words_of c.args.words.now) ≡ None) (alone c.args.words.now c.in-len1.len_below)
