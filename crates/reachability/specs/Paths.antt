-- Paths over arcs, and the keys that they lead to.
use Rattle.std.specs.Prelude.{◌⊎◌, ℕ, IsTrue, Bool, not, ◌||◌, ◌&&◌, List, [], ◌∷◌, ◌++◌, map, filter, length, Contains, count_by}
use Prim.Native.Nat.{zero, suc}
use Rattle.std.specs.List.{list_any}

module _ {K : Type 0} where
  -- from p on, each key is joined to the next
  abbrev pub JoinsEach : (K → K → Type 0) → K → List K → Type 0
  JoinsEach Joins p [] = Unit {0}
  JoinsEach Joins p (q ∷ rest) = Joins p q × JoinsEach Joins q rest

  -- a path from p to q: a list of two or more keys, p first and q last, each joined to the next
  abbrev pub Path : (K → K → Type 0) → K → K → Type 0
  Path Joins p q = (over : List K) × JoinsEach Joins p (over ++ q ∷ [])

  -- no key ends a path from itself
  abbrev pub IsAcyclic : (K → K → Type 0) → Type 0
  IsAcyclic Joins = (p : K) → Path Joins p p → ⊥

  -- each key inside is a root, or ends a path from a root inside
  abbrev pub IsFounded : (K → K → Type 0) → (K → Bool) → (K → Bool) → Type 0
  IsFounded Joins inside root = (p : K) → IsTrue (inside p)
      → IsTrue (root p) ⊎ ((r : K) × IsTrue (inside r) × IsTrue (root r) × Path Joins r p)

  -- the arcs have one from p to q
  abbrev pub HasArc : List (K × K) → K → K → Type 0
  HasArc arcs p q = Contains arcs (p, q)

  -- ---- computed, by a test that tells whether two keys are one

  module _ (same : K → K → Bool) where
    -- whether the key is one of these
    abbrev pub among : List K → K → Bool
    among keys key = list_any (same key) keys

    -- where arcs from these keys lead to
    abbrev pub heads_from : List (K × K) → List K → List K
    heads_from arcs tails = map (λ arc. arc.1) (filter (λ arc. among tails arc.0) arcs)

    -- the arcs from other keys
    abbrev pub arcs_left : List (K × K) → List K → List (K × K)
    arcs_left arcs tails = filter (λ arc. not (among tails arc.0)) arcs

    -- where paths from these keys lead to, in as many rounds: each follows the arcs from where the
    -- last one led to, and no arc is followed twice; where it led nowhere nothing is left to follow
    unfoldable pub spread : ℕ → List (K × K) → List K → List K
    spread zero arcs tails = []
    spread (suc rounds) arcs [] = []
    spread (suc rounds) arcs (tail ∷ tails) =
        heads_from arcs (tail ∷ tails) ++ spread rounds (arcs_left arcs (tail ∷ tails)) (heads_from arcs (tail ∷ tails))

    -- where paths from p lead to: a round that leads anywhere follows an arc, so there are no more than arcs
    unfoldable pub reached : List (K × K) → K → List K
    reached arcs p = spread (length arcs) arcs (p ∷ [])

    -- whether a path leads from p to q
    unfoldable pub reaches : List (K × K) → K → K → Bool
    reaches arcs p q = among (reached arcs p) q

    -- ---- levels

    -- how many of the keys reach this one
    abbrev pub level : List (K × K) → List K → K → ℕ
    level arcs keys q = count_by (λ p. reaches arcs p q) keys

    -- whether two keys are one, or paths lead from each to the other: they lie in one strong component
    unfoldable pub joined : List (K × K) → K → K → Bool
    joined arcs p q = same p q || (reaches arcs p q && reaches arcs q p)

    -- how many of the keys lie in the strong component of this one
    abbrev pub members : List (K × K) → List K → K → ℕ
    members arcs keys q = count_by (λ p. joined arcs p q) keys

    -- how many of the keys in its strong component by the possible arcs reach it over the chosen ones
    abbrev pub rank : List (K × K) → List (K × K) → List K → K → ℕ
    rank possible chosen keys q = count_by (λ p. joined possible p q && reaches chosen p q) keys
