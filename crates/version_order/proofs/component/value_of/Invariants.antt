use Rattle.std.proofs.Common.{◌≡◌, ◌<◌, ◌^◌, take}
use Rattle.version_order.specs.Component.{value_of}
use Rattle.version_order.proofs.component.value_of.Given as goal

abbrev pub invariant-loop-b : goal.invariant-loop-b
invariant-loop-b l = record { so_far : l.value ≡ value_of (take l.b-index l.digits); bound : l.value < 10 ^ l.b-index }
