-- What a gate of the code says.
use Rattle.clause_circuits.specs.Gates.{Sides}
use Rattle.clause_circuits.specs.Shapes.{both, never}
use Rattle.clause_circuits.specs.declared.gate.Shape.{Shape}
use Rattle.clause_circuits.specs.declared.gate.Shape.TheVariants.{Both, Never, Given}

abbrev pub sides_of : Shape → Sides
sides_of (Both a b) = both a b
sides_of Never = never
sides_of (Given on off) = record { on = on.items; off = off.items }
