-- Laws of weights.
use Rattle.std.specs.Prelude.{◌≡◌, ℕ, ◌≤◌, ◌&&◌, Bool, true, not, List, [], ◌∷◌, length}
use Rattle.std.specs.List.{list_any, sum_by}
use Rattle.std.specs.Str.{bytes_eq}
use Rattle.serde_json.specs.Data.{Data, Members}
use Rattle.json_readers.specs.Json.{IsJson}
use Rattle.file_limits.specs.Weights.{weight, members_weight, weight_at}

-- a text of a value has at least as many bytes as the value weighs
abbrev pub TextsBearWeight : Type 0
TextsBearWeight = (bytes : List ℕ) (d : Data) → IsJson bytes d → weight d ≤ length bytes

-- no key stands twice
abbrev pub are_different : List (List ℕ) → Bool
are_different [] = true
are_different (key ∷ keys) = not (list_any (λ other. bytes_eq other key) keys) && are_different keys

-- what stands at different keys weighs together no more than the members
abbrev pub KeysShareWeight : Type 0
KeysShareWeight = (keys : List (List ℕ)) (ms : Members) → are_different keys ≡ true → sum_by (weight_at ms) keys ≤ members_weight ms
