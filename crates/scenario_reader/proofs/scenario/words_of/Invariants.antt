use Rattle.std.proofs.Common.{◌≡◌, ◌++◌, drop, Ok}
use Rattle.scenario_reader.specs.Faults.{and_then}
use Rattle.scenario_reader.specs.Scenarios.{each, word_at}
use Rattle.scenario_reader.proofs.scenario.words_of.Given as goal

abbrev pub invariant-loop-item : goal.invariant-loop-item
invariant-loop-item l = and_then (λ more. Ok (l.words ++ more)) (each (word_at l.entry.quoted) (drop l.item-index l.item-items))
    ≡ each (word_at l.entry.quoted) l.entry.items
