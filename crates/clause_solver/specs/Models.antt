-- Trails that give each variable a value, and models.
use Rattle.std.specs.Prelude.{◌≡◌, ℕ, ◌<◌, Bool, true, false, ◌&&◌, not, nat_lt, List, length, slice_index_or, unwrap_or}
use Rattle.clause_store.specs.declared.Lit.{Lit}
use Rattle.clause_store.specs.Lits.{var_of}
use Rattle.proof_log.specs.Known.{has_var}
use Rattle.clause_watch.specs.declared.trail.Placed.{Placed}
use Rattle.clause_watch.specs.Trails.{lits_of, value_in}

-- an assignment as a list
abbrev pub values_in : List Bool → ℕ → Bool
values_in model x = slice_index_or model x false

abbrev pub HaveValues : List Placed → ℕ → Type 0
HaveValues placed vars = (x : ℕ) → x < vars → has_var (lits_of placed) x ≡ true

-- a literal over the variables that has no value
abbrev pub is_open : List Placed → ℕ → Lit → Bool
is_open placed vars l = nat_lt (var_of l) vars && not (has_var (lits_of placed) (var_of l))

pub record IsModelOf (placed : List Placed) (vars : ℕ) (model : List Bool) : Type 0 where
  pub whole : length model ≡ vars
  pub values : (x : ℕ) → x < vars → values_in model x ≡ unwrap_or (value_in placed x) false
