-- Rules whose words have the same formulas have the same formula.
use Rattle.std.proofs.Common.{◌≡◌, refl, ap, Bool, true, false, List, [], ◌∷◌, Option, Some, None}
use Rattle.clause_formulas.specs.Statements.{Statement, both_statements, or, implication_of, opposite}
use Rattle.clause_formulas.specs.Rules.{Proposition, fact, nowhere, isnt, both_of, either_of, if_so, in_words}
use Rattle.graph_formulas.specs.Lists.{settled_test, where_written, one_keeps, each_keeps, some}

module _ {W : Type 0} (f g : W → Statement) where
  -- each word of the rule has the same formula
  abbrev pub Alike : Proposition W → Type 0
  Alike (fact w) = f w ≡ g w
  Alike nowhere = Unit {0}
  Alike (isnt r) = Alike r
  Alike (both_of r q) = Alike r × Alike q
  Alike (either_of r q) = Alike r × Alike q
  Alike (if_so r q) = Alike r × Alike q

  pub same-words : (r : Proposition W) → Alike r → in_words f r ≡ in_words g r
  same-words (fact w) h = h
  same-words nowhere h = refl
  same-words (isnt r) h = ap opposite (same-words r h)
  same-words (both_of r q) h = let a = same-words r h.0 in let b = same-words q h.1 in λ i. both_statements (a i) (b i)
  same-words (either_of r q) h = let a = same-words r h.0 in let b = same-words q h.1 in λ i. or (a i) (b i)
  same-words (if_so r q) h = let a = same-words r h.0 in let b = same-words q h.1 in λ i. implication_of (a i) (b i)

  pub given-alike : (b : Bool) → Alike (settled_test b)
  given-alike true = tt
  given-alike false = tt

  module _ {T : Type 0} (rule : T → Proposition W) (h : (x : T) → Alike (rule x)) where
    pub written-alike : (o : Option T) → Alike (where_written o rule)
    written-alike None = tt
    written-alike (Some x) = h x

    pub named-alike : (o : Option T) → Alike (one_keeps o rule)
    named-alike None = tt
    named-alike (Some x) = h x

    pub each-alike : (xs : List T) → Alike (each_keeps rule xs)
    each-alike [] = tt
    each-alike (x ∷ xs) = (h x, each-alike xs)

    pub some-alike : (xs : List T) → Alike (some rule xs)
    some-alike [] = tt
    some-alike (x ∷ xs) = (h x, some-alike xs)
