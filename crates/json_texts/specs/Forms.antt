-- What texts of each form mean.
use Rattle.std.specs.Prelude.{ℕ, List, Option, Some, None, if◌then◌else◌}
use Rattle.std.specs.List.{list_any}
use Rattle.version_order.specs.Signs.{is_version}
use Rattle.spec_grammar.specs.Keys.{is_colon}
use Rattle.spec_grammar.specs.Meaning.{truth}
use Rattle.spec_grammar.specs.Signs.{is_name, is_value}

abbrev pub name_meaning : List ℕ → Option (List ℕ)
name_meaning text = if is_name text then Some text else None

-- `True` and `False` count as `true` and `false`
abbrev pub value_meaning : List ℕ → Option (List ℕ)
value_meaning text = if is_value text then Some (truth text) else None

-- no `:` may stand in it
abbrev pub plain_meaning : List ℕ → Option (List ℕ)
plain_meaning text = if list_any is_colon text then None else value_meaning text

abbrev pub version_in : List ℕ → Option (List ℕ)
version_in text = if is_version text then Some text else None
