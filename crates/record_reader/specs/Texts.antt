-- Texts that only records have.
use Rattle.std.specs.Prelude.{ℕ, ◌||◌, List, Option, Some, None, if◌then◌else◌, codes}
use Rattle.std.specs.List.{list_any}
use Rattle.std.specs.Str.{bytes_eq}
use Rattle.spec_hash.specs.Base32.{is_hash}
use Rattle.graph_core.specs.declared.node.Kinds.{Kinds}

abbrev pub hash_meaning : List ℕ → Option (List ℕ)
hash_meaning text = if is_hash text then Some text else None

-- what a dependency is needed for
abbrev pub kind_meaning : List ℕ → Option (List ℕ)
kind_meaning text = if bytes_eq text (codes "build") || bytes_eq text (codes "link") || bytes_eq text (codes "run") then Some text else None

abbrev pub kinds_by : List (List ℕ) → Kinds
kinds_by texts = record {
  build = list_any (bytes_eq (codes "build")) texts;
  link = list_any (bytes_eq (codes "link")) texts;
  run = list_any (bytes_eq (codes "run")) texts;
}
