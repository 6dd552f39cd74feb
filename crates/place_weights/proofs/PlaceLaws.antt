-- The place of a text among the names of entries is the place of the entry.
use Rattle.std.proofs.Common.{◌≡◌, refl, ap, ℕ, ◌+◌, not, List, [], ◌∷◌, map, cond}
use Rattle.std.specs.List.{position_or_len}
use Rattle.std.specs.Str.{bytes_eq}
use Rattle.graph_rules.specs.Weights.{place_in}

module _ {T : Type 0} (name_of : T → List ℕ) where
  pub among_names : (entries : List T) (text : List ℕ)
      → place_in (map name_of entries) text ≡ position_or_len (λ entry. bytes_eq text (name_of entry)) entries
  among_names [] text = refl
  among_names (e ∷ entries) text = ap (λ n. cond (not (bytes_eq text (name_of e))) (1 + n) 0) (among_names entries text)

  -- of all choices
  pub all_among : {L : Type 0} (entries : List T) (choices : List (List ℕ × L))
      → map {B = ℕ × L} (λ c. (place_in (map name_of entries) c.0, c.1)) choices
      ≡ map {B = ℕ × L} (λ c. (position_or_len (λ entry. bytes_eq c.0 (name_of entry)) entries, c.1)) choices
  all_among {L = L} entries choices =
      ap (λ (is : List ℕ → ℕ). map {B = ℕ × L} (λ c. (is c.0, c.1)) choices) (λ i text. among_names entries text i)
