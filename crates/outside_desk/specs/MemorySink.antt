-- What a sink in memory shows, and what each of its calls does to that.
use Rattle.std.specs.Prelude.{◌≡◌, ℕ, List, ◌++◌, Result, Ok, Err, Contains}
use Rattle.outside_desk.specs.Causes.{one_more}
use Rattle.outside_desk.specs.declared.fault.SinkFault.{SinkFault}
use Rattle.outside_desk.specs.declared.fault.SinkFault.TheVariants as sink_faults
use Rattle.outside_desk.specs.declared.memory_sink.MemorySink.{MemorySink}

-- what was said, the number of the next call, the numbers of the calls that are to fail, and its count
pub record SinkState : Type 0 where
  pub said : List ℕ
  pub next_call : ℕ
  pub failing : List ℕ
  pub faults : ℕ

abbrev pub sink_state : MemorySink → SinkState
sink_state sink = record { said = sink.bytes.items; next_call = sink.calls.next; failing = sink.calls.failing.items; faults = sink.faults }

-- the next call is to fail
abbrev pub IsToFail : SinkState → Type 0
IsToFail state = Contains state.failing state.next_call

-- after one call more
abbrev pub counted : SinkState → SinkState
counted state = record state { next_call = one_more state.next_call }

-- a saying fails exactly where it is to fail, and then appends nothing
abbrev pub Says : SinkState → SinkState → List ℕ → Result Unit SinkFault → Type 0
Says old new bytes (Ok _) = (¬ IsToFail old) × (new ≡ record (counted old) { said = old.said ++ bytes })
Says old new bytes (Err sink_faults.OutOfMemory) = (¬ IsToFail old) × (new ≡ counted old)
Says old new bytes (Err sink_faults.Failed) = IsToFail old × (new ≡ record (counted old) { faults = one_more old.faults })
