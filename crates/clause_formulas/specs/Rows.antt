-- Words of the worked rows: three variables, and the clauses that are added.
use Rattle.std.specs.Prelude.{ℕ, List, [], map, length}
use Rattle.clause_store.specs.declared.Lit.{Lit}
use Rattle.clause_store.specs.declared.Label.TheVariants.{Structure}
use Rattle.clause_store.specs.declared.list.Entry.{Entry}
use Rattle.clause_store.specs.Clauses.{Clauses}
use Rattle.clause_circuits.specs.Gates.{lit_of, labelled}
use Rattle.clause_formulas.specs.declared.defined.Defined.{Defined}
use Rattle.clause_formulas.specs.Gated.{Gate, gated}
use Rattle.clause_formulas.specs.Built.{Grown, Shared}

abbrev pub a : Lit
a = lit_of 0

abbrev pub b : Lit
b = lit_of 1

abbrev pub c : Lit
c = lit_of 2

abbrev pub with_entries : List Entry → ℕ → Clauses
with_entries es n = record { entries = es; vars = n }

abbrev pub start : Clauses
start = with_entries [] 3

abbrev pub structures : List (List Lit) → List Entry
structures cs = map (labelled Structure) cs

abbrev pub made : List (List Lit) → ℕ → Defined → Grown Defined
made cs n x = record { list = with_entries (structures cs) n; answer = x }

abbrev pub shared : List (List Lit) → ℕ → List Gate → List Defined → Shared (List Defined)
shared cs n gs xs = record { state = gated (with_entries (structures cs) n) gs; answer = xs }

-- how many clauses a value took
abbrev pub entries_of : Shared Defined → ℕ
entries_of m = length m.state.list.entries
