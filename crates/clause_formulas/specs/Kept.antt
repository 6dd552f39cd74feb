-- How gates are kept: by their literals as numbers.
use Rattle.std.specs.Prelude.{ℕ, List, map, Vec}
use Rattle.std.specs.declared.alloc.Global.{Global}
use Rattle.clause_store.specs.declared.Lit.{Lit}
use Rattle.clause_store.specs.Kept.{lits_of_codes}
use Rattle.clause_formulas.specs.Gated.{Gate}

abbrev pub gate_at : Vec ℕ Global × Lit → Gate
gate_at e = (lits_of_codes e.0.items, e.1)

abbrev pub gates_of : List (Vec ℕ Global × Lit) → List Gate
gates_of es = map gate_at es
