use Rattle.std.proofs.Common.{◌≡◌, drop}
use Rattle.scenario_reader.specs.Devices.{number_from}
use Rattle.scenario_reader.proofs.device.number_of.Given as goal

abbrev pub invariant-loop-b : goal.invariant-loop-b
invariant-loop-b l = number_from l.value (drop l.b-index l.digits) ≡ number_from 0 l.digits
