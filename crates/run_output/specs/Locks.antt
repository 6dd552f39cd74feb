-- The lock file of a graph of a problem.
use Rattle.std.specs.Prelude.{Result, OnOk}
use Rattle.graph_core.specs.Graphs.{Text, Content}
use Rattle.problem.specs.Problems.{Problem}
use Rattle.json_readers.specs.Json.{IsJson}
use Rattle.lock_writer.specs.Texts.{lock_data, lock_text}
use Rattle.run_task.specs.Answer.{Answer}
use Rattle.run_task.specs.Answer.TheVariants.{Best, Nothing, Undecided}
use Rattle.run_task.specs.WriteStop.{WriteStop}

-- its text, with the problem's database and roots
abbrev pub lock_of : Problem → Content → Text
lock_of problem graph = lock_text graph problem.database problem.roots

-- as JSON it is read as the value that it was written for
abbrev pub IsReadAsWritten : Problem → Content → Type 0
IsReadAsWritten problem graph = IsJson (lock_of problem graph) (lock_data graph problem.database problem.roots)

-- so is that of an answer which has a graph
abbrev pub HasReadableLock : Problem → Answer → Type 0
HasReadableLock problem (Best graph log) = IsReadAsWritten problem graph
HasReadableLock problem (Nothing log) = Unit {0}
HasReadableLock problem (Undecided log) = Unit {0}

-- and that of one whose files were put
abbrev pub PutsReadable : Problem → Answer → Result (Unit {0}) WriteStop → Type 0
PutsReadable problem (Best graph log) result = OnOk result (IsReadAsWritten problem graph)
PutsReadable problem (Nothing log) result = Unit {0}
PutsReadable problem (Undecided log) result = Unit {0}
