-- What is asked of parts that are solved apart, and what is found.
use Rattle.std.specs.Prelude.{ℕ, List}
use Rattle.std.specs.List.{AllZip}
use Rattle.clause_store.specs.Clauses.{clauses_of}
use Rattle.clause_store.specs.Lits.{AllBelow}
use Rattle.proof_log.specs.Known.{AllClauses}
use Rattle.optimum_search.specs.Finding.{IsFound}
use Rattle.optimum_search.specs.declared.found.Found.{Found}
use Rattle.root_groups.specs.declared.solved.Part.{Part}

-- the bits are of variables of the clauses
abbrev pub IsInRange : Part → Type 0
IsInRange part = AllBelow part.clauses.vars part.bits.items

-- what `search` ensures of a part: what it finds, and that the variables of each clause rise
abbrev pub IsFoundFor : ℕ → Part → Found → Type 0
IsFoundFor budget part found =
    IsFound part.clauses part.bits.items budget found × AllClauses (clauses_of part.clauses.entries)

-- as many as parts, at each place what `search` finds for the part there
abbrev pub AreFound : ℕ → List Part → List Found → Type 0
AreFound budget parts found = AllZip (IsFoundFor budget) parts found
