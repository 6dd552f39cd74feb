-- What a longer list of clauses says of values.
use Rattle.std.specs.Prelude.{◌≡◌, ℕ, Bool, true, List, [], ◌∷◌}
use Rattle.clause_store.specs.Clauses.{Clauses}
use Rattle.clause_circuits.specs.Growth.{Agree, Grows, MeetsSince, Defines}
use Rattle.clause_formulas.specs.declared.defined.Defined.{Defined}
use Rattle.clause_formulas.specs.Statements.{Statement, eval}
use Rattle.clause_formulas.specs.Drafts.{defined_true, DefinedBelow}
use Rattle.clause_formulas.specs.Gated.{Gated, Fits, Keeps}

-- a value is true exactly where a fact of the assignment holds
pub record Means (old new : Clauses) (d : Defined) (f : (ℕ → Bool) → Bool) : Type 0 where
  pub below : DefinedBelow new.vars d
  pub value : (asked v : ℕ → Bool) → MeetsSince asked v old new → defined_true v d ≡ f v

-- the new list defines a value that is true exactly where a fact of the assignment holds
pub record DefinesValue (old new : Clauses) (d : Defined) (f : (ℕ → Bool) → Bool) : Type 0 where
  pub defines : Defines old new
  pub means : Means old new d f

-- the same where an assignment gives the old gates their values
pub record MeansIn (old new : Gated) (d : Defined) (f : (ℕ → Bool) → Bool) : Type 0 where
  pub below : DefinedBelow new.list.vars d
  pub value : (asked v : ℕ → Bool) → Fits v old.gates → MeetsSince asked v old.list new.list → defined_true v d ≡ f v

pub record DefinesIn (old new : Gated) (d : Defined) (f : (ℕ → Bool) → Bool) : Type 0 where
  pub defines : Defines old.list new.list
  pub keeps : Keeps old new
  pub means : MeansIn old new d f

-- each value is true exactly where its formula is
abbrev pub MeanEach : Gated → Gated → List Defined → List Statement → Type 0
MeanEach old new [] [] = Unit {0}
MeanEach old new [] (f ∷ fs) = ⊥
MeanEach old new (d ∷ ds) [] = ⊥
MeanEach old new (d ∷ ds) (f ∷ fs) = MeansIn old new d (λ v. eval v f) × MeanEach old new ds fs

-- the new list defines a value for each formula
pub record DefinesValues (old new : Gated) (ds : List Defined) (fs : List Statement) : Type 0 where
  pub defines : Defines old.list new.list
  pub keeps : Keeps old new
  pub means : MeanEach old new ds fs

-- a value is true wherever a fact of the assignment holds; each assignment of the old variables extends to one where it is true
-- nowhere else
pub record CoversValue (old new : Clauses) (d : Defined) (f : (ℕ → Bool) → Bool) : Type 0 where
  pub grows : Grows old new
  pub below : DefinedBelow new.vars d
  pub covers : (asked v : ℕ → Bool) → MeetsSince asked v old new → f v ≡ true → defined_true v d ≡ true
  pub each : (asked v : ℕ → Bool) → (w : ℕ → Bool) × Agree old.vars v w × MeetsSince asked w old new × (defined_true w d ≡ f w)
