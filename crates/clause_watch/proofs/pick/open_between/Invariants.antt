use Rattle.std.proofs.Common.{◌≡◌, ◌≢◌, ℕ, ◌<◌, ◌≤◌, true, Some}
use Rattle.std.specs.Prelude.{slice_get}
use Rattle.clause_store.specs.declared.Lit.{Lit}
use Rattle.clause_store.specs.Lits.{var_of, negation, has}
use Rattle.clause_watch.specs.Trails.{lits_of}
use Rattle.clause_watch.proofs.pick.open_between.Given as goal

abbrev pub invariant-loop-at : goal.invariant-loop-at
invariant-loop-at l = (k : ℕ) (m : Lit) → l.from ≤ k → k < l.at → slice_get l.codes k ≡ Some m → var_of m ≢ var_of l.other
    → has (lits_of l.trail.placed) (negation m) ≡ true
