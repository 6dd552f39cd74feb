-- The conditions of definitions of variants, given for each name.
use Rattle.std.specs.Prelude.{List, [], Option, Some, None, find, map}
use Rattle.std.specs.Str.{bytes_eq}
use Rattle.clause_formulas.specs.declared.defined.Defined.{Defined}
use Rattle.clause_formulas.specs.Drafts.{statement_of}
use Rattle.graph_core.specs.Graphs.{Text}
use Rattle.cost_terms.specs.Terms.{Held}

-- a name, and the values of the conditions of its definitions of variants, in their order
abbrev pub HeldRow : Type 0
HeldRow = Text × List Defined

abbrev pub defined_in : Option HeldRow → List Defined
defined_in None = []
defined_in (Some h) = h.1

-- the formulas of the first that is given for a name; none where the name is not there
abbrev pub held_in : List HeldRow → Held
held_in held name = map statement_of (defined_in (find (λ h. bytes_eq name h.0) held))
