-- Terms under a test.
use Rattle.std.specs.Prelude.{Bool, List, [], ◌∷◌, if◌then◌else◌}
use Rattle.cost_terms.specs.declared.weighted.Weighted.{Weighted}

-- a term, if it counts
abbrev pub only_if : Bool → Weighted → List Weighted
only_if counts t = if counts then t ∷ [] else []
