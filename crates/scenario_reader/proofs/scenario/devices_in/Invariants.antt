use Rattle.std.proofs.Common.{◌≡◌, ◌++◌, drop, Ok}
use Rattle.scenario_reader.specs.Faults.{and_then}
use Rattle.scenario_reader.specs.Scenarios.{each, device_at}
use Rattle.scenario_reader.proofs.scenario.devices_in.Given as goal

abbrev pub invariant-loop-item : goal.invariant-loop-item
invariant-loop-item l = and_then (λ more. Ok (l.devices ++ more)) (each device_at (drop l.item-index l.item-items))
    ≡ each device_at l.entry.items
