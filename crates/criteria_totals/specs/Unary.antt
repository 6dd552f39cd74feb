-- Unary sums: sorted lists merged over a balanced tree.
use Rattle.std.specs.Prelude.{◌≡◌, ℕ, ◌+◌, Bool, List, [], length, reverse, replicate}
use Rattle.clause_store.specs.declared.Lit.{Lit}
use Rattle.clause_store.specs.Lits.{AllBelow}
use Rattle.clause_circuits.specs.Gates.{Planned, Made, next}
use Rattle.clause_circuits.specs.Steps.{Step, FollowsPlan}
use Rattle.clause_circuits.specs.Trees.{Tree, none, leaf, node, halved, tree_sum, tree_total, weight_of}
use Rattle.criteria_totals.specs.Merges.{Spells, merge_from}

-- the literals for "at least 1", "at least 2" and so on of a tree's sum
abbrev pub unary_on : Planned → Tree (ℕ × Lit) → Made (List Lit)
unary_on p none = record { plan = p; answer = [] }
unary_on p (leaf t) = record { plan = p; answer = replicate t.0 t.1 }
unary_on p (node l r) =
    let left = unary_on p l in
    let right = unary_on left.plan r in
    merge_from 1 (length left.answer + length right.answer) right.plan left.answer right.answer

-- the longer plan defines literals that spell the sum of the weights of true literals in unary
pub record CountsTo (p : Planned) (m : Made (List Lit)) (t : Tree (ℕ × Lit)) : Type 0 where
  pub step : Step p m.plan
  pub below : AllBelow (next m.plan) m.answer
  pub long : length m.answer ≡ tree_total t
  pub spells : (v : ℕ → Bool) → FollowsPlan v m.plan → Spells v m.answer (tree_sum (weight_of v) t)

-- the sum of weighted literals in unary, the highest bit first
unfoldable pub unary_bits_on : Planned → List (ℕ × Lit) → Made (List Lit)
unary_bits_on p ts = let m = unary_on p (halved ts) in record { plan = m.plan; answer = reverse m.answer }
