-- What the formulas say.
use Rattle.std.specs.Prelude.{◌≡◌, ◌↔◌, ℕ, ◌<◌, Bool, true, List, Option, None, length, slice_index_or}
use Rattle.std.specs.List.{All}
use Rattle.reachability.specs.Paths.{Path, IsAcyclic, IsFounded, HasArc}
use Rattle.clause_store.specs.declared.Lit.{Lit}
use Rattle.clause_store.specs.Clauses.{Clauses}
use Rattle.clause_circuits.specs.Growth.{Agree, Grows, MeetsSince}
use Rattle.clause_formulas.specs.Statements.{Statement, SaidBelow, any_statement, eval}
use Rattle.level_encoding.specs.Composed.{Meets}
use Rattle.level_encoding.specs.Input.{LevelData, chosen, node, literal_at, is_root_number, is_asked_target}
use Rattle.level_encoding.specs.Encoding.{path}

-- no cycle is chosen, and each chosen node is a root or ends a path from one
pub record IsSound (s : LevelData) (v : ℕ → Bool) : Type 0 where
  pub acyclic : IsAcyclic (HasArc (chosen s v))
  pub founded : IsFounded (HasArc (chosen s v)) (λ i. eval v (node s i)) (is_root_number s)

-- the path formulas say where paths lead
abbrev pub IsExact : LevelData → (ℕ → Bool) → Type 0
IsExact s v = (p q : ℕ) → is_asked_target s q ≡ true → (eval v (path s p q) ≡ true) ↔ Path (HasArc (chosen s v)) p q

-- a chosen arc's parent is chosen
abbrev pub StartsChosen : LevelData → (ℕ → Bool) → Type 0
StartsChosen s v = (p q : ℕ) → HasArc (chosen s v) p q → eval v (node s p) ≡ true

-- an assignment of the old variables, with new ones, makes the formulas true
pub record HasModel (s : LevelData) (rules : List Statement) (v : ℕ → Bool) : Type 0 where
  pub assignment : ℕ → Bool
  pub agrees : (x : ℕ) → x < s.first → v x ≡ assignment x
  pub meets : Meets assignment rules

-- the literal of each asked pair is true exactly where a path leads from the first to the second
abbrev pub SaysPaths : LevelData → List (Option Lit) → (ℕ → Bool) → Type 0
SaysPaths s paths v = (k : ℕ) (d : ℕ × ℕ) → k < length s.asked →
    (eval v (literal_at (slice_index_or paths k None)) ≡ true)
    ↔ Path (HasArc (chosen s v)) (slice_index_or s.asked k d).0 (slice_index_or s.asked k d).1

-- the variables of each formula are below a number
abbrev pub AllSaidBelow : ℕ → List Statement → Type 0
AllSaidBelow n fs = SaidBelow n (any_statement fs)

-- what a longer list of clauses promises of the input
pub record KeepsLevels (s : LevelData) (old new : Clauses) (paths : List (Option Lit)) : Type 0 where
  pub grows : Grows old new
  pub in_range : All (λ path. SaidBelow new.vars (literal_at path)) paths
  pub sound : (asked v : ℕ → Bool) → StartsChosen s v → MeetsSince asked v old new → IsSound s v
  pub exact : (asked v : ℕ → Bool) → StartsChosen s v → MeetsSince asked v old new → SaysPaths s paths v
  pub complete : (asked v : ℕ → Bool) → IsSound s v → (w : ℕ → Bool) × Agree old.vars v w × MeetsSince asked w old new
