-- The first item of a LIST, cut off from the left.
use Rattle.std.specs.Prelude.{ℕ, ◌==◌, List, [], ◌∷◌, take, drop, Option, Some, None, if◌then◌else◌}
use Rattle.std.specs.List.{prefix_len}
use Rattle.version_order.specs.Signs.{is_version_byte}
use Rattle.version_order.specs.declared.item.Item.{Item}
use Rattle.version_order.specs.declared.item.Item.TheVariants.{Exact, Prefix, Range}

-- the longest front of version bytes, and what stands behind it
unfoldable pub front : List ℕ → List ℕ
front text = take (prefix_len is_version_byte text) text

unfoldable pub behind : List ℕ → List ℕ
behind text = drop (prefix_len is_version_byte text) text

-- the end of a range
abbrev pub end_of : List ℕ → Option (List ℕ)
end_of [] = None
end_of (b ∷ rest) = Some (b ∷ rest)

abbrev pub after_low : List ℕ → List ℕ → Item × List ℕ
after_low low [] = (Prefix low, [])
after_low low (b ∷ rest) = if b == 58 then (Range (end_of low) (end_of (front rest)), behind rest) else (Prefix low, b ∷ rest)

unfoldable pub first_item : List ℕ → Item × List ℕ
first_item [] = after_low (front []) (behind [])
first_item (b ∷ rest) = if b == 61 then (Exact (front rest), behind rest) else after_low (front (b ∷ rest)) (behind (b ∷ rest))
