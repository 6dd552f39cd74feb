use Rattle.std.proofs.Common.{◌≡◌, ◌+◌, ◌-◌, ◌≤◌, ◌++◌, drop, length}
use Rattle.std.specs.Prelude.{vec_len, vec_capacity}
use Rattle.clause_store.specs.Kept.{codes_of}
use Rattle.clause_store.proofs.codes.push_codes.Given as goal

abbrev pub invariant-loop-lit : goal.invariant-loop-lit
invariant-loop-lit l = (l.codes.items ++ codes_of (drop l.lit-index l.lits) ≡ l.fn.codes.items ++ codes_of l.lits)
    × (vec_len l.codes + (length l.lits - l.lit-index) ≤ vec_capacity l.codes)
    × (vec_len l.codes + (length l.lits - l.lit-index) ≡ vec_len l.fn.codes + length l.lits)
    × (vec_capacity l.fn.codes ≤ vec_capacity l.codes)
