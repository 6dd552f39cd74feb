-- Texts that are lent, each with its place.
use Rattle.std.specs.Prelude.{◌≡◌, ℕ, ◌+◌, List, [], ◌∷◌, map}
use Rattle.std.specs.Borrow.{Bor}

-- the texts
abbrev pub texts_of : List (Bor (List ℕ) × ℕ) → List (List ℕ)
texts_of placed = map (λ p. p.0.now) placed

-- the texts with the numbers beside them
abbrev pub numbers_of : List (Bor (List ℕ) × ℕ) → List (List ℕ × ℕ)
numbers_of placed = map (λ p. (p.0.now, p.1)) placed

-- these with the numbers from this one on
abbrev pub numbered : ℕ → List (List ℕ) → List (List ℕ × ℕ)
numbered first [] = []
numbered first (text ∷ texts) = (text, first) ∷ numbered (first + 1) texts

-- the number beside each text is its place
abbrev pub AreNumbered : List (Bor (List ℕ) × ℕ) → Type 0
AreNumbered placed = numbers_of placed ≡ numbered 0 (texts_of placed)
