-- The gates that are made often: exactly one of their sides holds, and what they say.
use Rattle.std.proofs.Common.{◌≡◌, ℕ, Bool, true, false, not, ◌&&◌, ◌||◌, List, [], ◌∷◌, map, refl, sym, ap, ◌∙◌, arith}
use Rattle.std.proofs.Math.Bool.{and-true}
use Rattle.clause_store.specs.declared.Lit.{Lit}
use Rattle.clause_store.specs.Lits.{negation, lit_true, clause_true, AllBelow}
use Rattle.clause_store.proofs.Meaning.{lit_true-negation}
use Rattle.clause_circuits.specs.Gates.{Planned, next, with_gate, rules_true, Agrees, AllClausesBelow}
use Rattle.clause_circuits.specs.Shapes.{both, singles, any_of}
use Rattle.clause_circuits.specs.Steps.{Shows}
use Rattle.clause_circuits.proofs.StepLaws.{Step-gate}

pub negations-below : (n : ℕ) (ls : List Lit) → AllBelow n ls → AllBelow n (map negation ls)
negations-below n [] b = tt
negations-below n (l ∷ ls) b = (b.0, negations-below n ls b.1)

-- exactly one side of the gate for both holds
pub both-agrees : (v : ℕ → Bool) (a b : Lit) → Agrees v (both a b)
both-agrees v a b = rw (lit_true-negation v a, lit_true-negation v b) (table (lit_true v a) (lit_true v b))
  where
    table : (x y : Bool) → ((not x || (not y || false)) && true) ≡ not ((x || false) && ((y || false) && true))
    table true true = refl
    table true false = refl
    table false y = refl

pub singles-below : (n : ℕ) (ls : List Lit) → AllBelow n ls → AllClausesBelow n (singles ls)
singles-below n [] b = tt
singles-below n (l ∷ ls) b = ((b.0, tt), singles-below n ls b.1)

singles-negated : (v : ℕ → Bool) (ls : List Lit) → rules_true v (singles (map negation ls)) ≡ not (clause_true v ls)
singles-negated v [] = refl
singles-negated v (l ∷ ls) = rw (lit_true-negation v l, singles-negated v ls) (table (lit_true v l) (clause_true v ls))
  where
    table : (a b : Bool) → ((not a || false) && not b) ≡ not (a || b)
    table true b = refl
    table false b = refl

any_of-agrees : (v : ℕ → Bool) (ls : List Lit) → Agrees v (any_of ls)
any_of-agrees v ls = singles-negated v ls ∙ ap not (sym (and-true (clause_true v ls)))

-- a gate for "some literal of the list"
pub any_of-is : (p : Planned) (ls : List Lit) → AllBelow (next p) ls → Shows p (with_gate p (any_of ls)) (λ v. clause_true v ls)
any_of-is p ls b = record {
  step = Step-gate p (any_of ls) (singles-below (next p) (map negation ls) (negations-below (next p) ls b)) (b, tt)
      (λ v f. any_of-agrees v ls);
  below = omega arith;
  means = λ v f. f.0 ∙ and-true (clause_true v ls);
}
