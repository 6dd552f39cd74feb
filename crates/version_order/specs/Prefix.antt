-- What the components of versions say besides their order.
use Rattle.std.specs.Prelude.{ℕ, ◌==◌, ◌&&◌, Bool, true, false, List, [], ◌∷◌, Option, Some, None, is_some}
use Rattle.std.specs.List.{list_any}
use Rattle.std.specs.Str.{bytes_eq}
use Rattle.version_order.specs.Pieces.{pieces}
use Rattle.version_order.specs.Component.{number_of, word_of}

-- numbers are the same where they are equal, other pieces where their bytes are
abbrev pub is_same_by : Option ℕ → Option ℕ → List ℕ → List ℕ → Bool
is_same_by (Some m) (Some n) a b = m == n
is_same_by (Some m) None a b = false
is_same_by None (Some n) a b = false
is_same_by None None a b = bytes_eq a b

unfoldable pub is_same : List ℕ → List ℕ → Bool
is_same a b = is_same_by (number_of a) (number_of b) a b

-- whether the first components are the front of the second
abbrev pub is_front : List (List ℕ) → List (List ℕ) → Bool
is_front [] bs = true
is_front (a ∷ others) [] = false
is_front (a ∷ others) (b ∷ bs) = is_same a b && is_front others bs

-- all components count, the pre-release included
abbrev pub is_prefix : List ℕ → List ℕ → Bool
is_prefix a b = is_front (pieces a) (pieces b)

-- some component is one of the six words
abbrev pub is_special : List ℕ → Bool
is_special text = list_any (λ piece. is_some (word_of piece)) (pieces text)
