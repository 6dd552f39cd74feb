-- What the reading of the words answers.
use Rattle.std.specs.Prelude.{◌≡◌, ℕ, List, Some, None, Result, Ok, Err}
use Rattle.run_answers.specs.declared.stop.ReadStop.TheVariants as reads
use Rattle.run_answers.specs.declared.stop.Stop.{Stop}
use Rattle.run_answers.specs.declared.stop.Stop.TheVariants as stops
use Rattle.run_words.specs.Words.{Command, command_of}

-- the command that the words are, or Usage where they are none; want of memory may come instead
abbrev pub GivesCommand : List (List ℕ) → Result Command Stop → Type 0
GivesCommand words (Ok command) = command_of words ≡ Some command
GivesCommand words (Err stops.Usage) = command_of words ≡ None
GivesCommand words (Err (stops.Read reads.NoMemory)) = Unit {0}
GivesCommand words (Err other) = ⊥
