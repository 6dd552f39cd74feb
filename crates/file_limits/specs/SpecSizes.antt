-- How many values the variants of specs have.
use Rattle.std.specs.Prelude.{ℕ, ◌+◌, ◌*◌, ◌≤◌, List, length}
use Rattle.std.specs.List.{sum_by}
use Rattle.spec_grammar.specs.Reading.{Spells}
use Rattle.spec_grammar.specs.declared.mode.Mode.{Mode}
use Rattle.spec_grammar.specs.declared.part.Part.{Part}
use Rattle.spec_grammar.specs.declared.part.Spec.{Spec}

-- the values of a part's variants
abbrev pub part_values : Part → ℕ
part_values part = sum_by (λ variant. length variant.1) part.variants

-- those of a spec: of its first part, and of the parts after `^`
abbrev pub spec_values : Spec → ℕ
spec_values spec = part_values spec.top + sum_by part_values spec.below

abbrev pub all_values : List Spec → ℕ
all_values specs = sum_by spec_values specs

-- a text of specs, of whatever kind, has at least two bytes for each value
abbrev pub TextsBearValues : Type 0
TextsBearValues = (mode : Mode) (text : List ℕ) (specs : List Spec) → Spells mode text specs → 2 * all_values specs ≤ length text
