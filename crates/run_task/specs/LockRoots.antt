-- Whether the roots of a lock file are those that are asked for, with the hashes of their nodes.
use Rattle.std.specs.Prelude.{Bool, true, false, ◌&&◌, List, [], ◌∷◌, find, option_map, option_and_then, Option}
use Rattle.std.specs.Str.{bytes_eq}
use Rattle.condition_rules.specs.Words.{is_some_and}
use Rattle.graph_core.specs.Graphs.{Text}
use Rattle.spec_grammar.specs.Canonical.{spec_text}
use Rattle.spec_grammar.specs.declared.part.Spec.{Spec}

-- the hash of the node of this name
abbrev pub hash_of_node : List (Text × Text) → Text → Option Text
hash_of_node hashes name = option_map (λ h. h.1) (find (λ h. bytes_eq h.0 name) hashes)

-- the hash is that of the node that the spec asks for
abbrev pub is_hash_of : List (Text × Text) → Spec → Text → Bool
is_hash_of hashes spec hash = is_some_and (option_and_then (hash_of_node hashes) spec.top.name) (bytes_eq hash)

-- the root has the canonical text of the spec, and the hash of its node
abbrev pub is_root_of : List (Text × Text) → Spec → Text × Text → Bool
is_root_of hashes spec root = bytes_eq root.0 (spec_text spec) && is_hash_of hashes spec root.1

-- the roots are those of the specs, one of each and in order
abbrev pub are_roots_of : List (Text × Text) → List Spec → List (Text × Text) → Bool
are_roots_of hashes [] [] = true
are_roots_of hashes [] (root ∷ roots) = false
are_roots_of hashes (spec ∷ specs) [] = false
are_roots_of hashes (spec ∷ specs) (root ∷ roots) = is_root_of hashes spec root && are_roots_of hashes specs roots
