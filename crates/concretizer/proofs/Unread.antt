-- A reading that stopped, of a command.
use Rattle.std.proofs.Common.{◌≡◌, refl, ap, ℕ, List, [], Option, Some, None, Result, Ok, Err}
use Rattle.std.specs.Result.{IsErrAnd}
use Rattle.std.specs.Prelude.{IfSome}
use Rattle.run_answers.specs.Exits.{Spoken}
use Rattle.outside_desk.specs.Files.{Files}
use Rattle.run_output.specs.Certificates.{log_verdict}
use Rattle.run_output.specs.Evidence.{evidence}
use Rattle.run_output.specs.Line.{Line}
use Rattle.run_output.specs.Looks.{FailsAtTask}
use Rattle.run_output.specs.ReadStop.{ReadStop}
use Rattle.run_output.specs.ReadStop.TheVariants.{Refused, Fault, NoMemory}
use Rattle.run_output.specs.Stop.{Stop}
use Rattle.run_output.specs.Stop.TheVariants.{Read}
use Rattle.run_output.specs.Stops.{Gives}
use Rattle.run_output.specs.Task.{Task}
use Rattle.run_output.specs.Tasks.{Named}
use Rattle.run_output.specs.Words.{Command, command_of}
use Rattle.run_output.specs.declared.answer.Outcome.{Outcome}
use Rattle.concretizer.specs.Attempts.{Attempts, Follows}
use Rattle.concretizer.specs.Logs.{AttemptKeeps}

module _ (words : List (List ℕ)) (command : Command) (named : command_of words ≡ Some command) where
  attempt_here : (files : Files) (said : Option (List ℕ)) (stop : ReadStop)
      → Gives {T = Task} (Err stop) (Named log_verdict files command)
      → Attempts evidence files words (Some files) said said (Err (Read stop))
  attempt_here files said (Refused refusal) read = ((command, named, read), record { unchanged = refl; out = refl })
  attempt_here files said (Fault path) read = record { unchanged = refl; out = refl }
  attempt_here files said NoMemory read = record { unchanged = refl; out = refl }

  follows_here : (told : Option Files) (stop : ReadStop) → FailsAtTask {A = Task} told command (Err stop) → Follows told words (Err (Read stop))
  follows_here told (Refused refusal) there = tt
  follows_here told (Fault path) there = record { command = command; named = named; inside = there }
  follows_here told NoMemory there = tt

  module _ (stop : ReadStop) (result : Result Outcome Stop) (is : IsErrAnd result (λ given. given ≡ Read stop)) (after : Option Files) where
    carried : (result : Result Outcome Stop) → IsErrAnd result (λ given. given ≡ Read stop) → result ≡ Err (Read stop)
    carried (Ok outcome) h = absurd h
    carried (Err given) h = ap Err h

    -- what it leaves
    pub attempted : (said : Option (List ℕ)) → IfSome after (λ files. Gives {T = Task} (Err stop) (Named log_verdict files command))
        → IfSome after (λ files. Attempts evidence files words after said said result)
    attempted said read = over after read
      where
        over : (after : Option Files) → IfSome after (λ files. Gives {T = Task} (Err stop) (Named log_verdict files command))
            → IfSome after (λ files. Attempts evidence files words after said said result)
        over None read = tt
        over (Some files) read = rw (carried result is) (attempt_here files said stop read)

    -- what the words say of it
    pub follows_unread : FailsAtTask {A = Task} after command (Err stop) → Follows after words result
    follows_unread there = rw (carried result is) (follows_here after stop there)

    -- no log is kept
    pub unkept : (told : Option Files) (out : Spoken) (kept : List Line) → kept ≡ []
        → IfSome told (λ files. AttemptKeeps files words after out kept result)
    unkept None out kept empty = tt
    unkept (Some files) out kept empty = rw (carried result is) empty
