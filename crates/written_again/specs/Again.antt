-- What a lock file says that is read again.
use Rattle.std.specs.Prelude.{◌≡◌, List, [], ◌∷◌, Some, Contains}
use Rattle.std.specs.List.{find}
use Rattle.std.specs.Str.{bytes_eq}
use Rattle.graph_core.specs.Graphs.{Text, Content}
use Rattle.graph_core.specs.declared.node.Node.{Node}
use Rattle.lock_writer.specs.Hashes.{node_hash}
use Rattle.lockfile.specs.declared.lock.Lock.{Lock}
use Rattle.spec_grammar.specs.Canonical.{spec_text}
use Rattle.spec_grammar.specs.declared.part.Spec.{Spec}

-- no two nodes of a graph have one hash
abbrev pub AreApart : Content → Type 0
AreApart graph = (a b : Node) → Contains graph.nodes a → Contains graph.nodes b → node_hash graph a.name ≡ node_hash graph b.name → a ≡ b

-- a root of a lock file is that of a spec: it has the spec's canonical text, and the first hash in the list for the name that it asks for
pub record IsAskedRoot (hashes : List (Text × Text)) (spec : Spec) (root : Text × Text) : Type 0 where
  pub name : Text
  pub named : spec.top.name ≡ Some name
  pub found : Text
  pub hashed : find (λ h. bytes_eq h.0 name) hashes ≡ Some (found, root.1)
  pub text : root.0 ≡ spec_text spec

-- the roots are those of the specs, one of each and in order
abbrev pub AreAskedRoots : List (Text × Text) → List Spec → List (Text × Text) → Type 0
AreAskedRoots hashes [] [] = Unit {0}
AreAskedRoots hashes [] (root ∷ roots) = ⊥
AreAskedRoots hashes (spec ∷ specs) [] = ⊥
AreAskedRoots hashes (spec ∷ specs) (root ∷ roots) = IsAskedRoot hashes spec root × AreAskedRoots hashes specs roots

abbrev pub AreAsked : Lock → List Spec → Type 0
AreAsked lock specs = AreAskedRoots lock.hashes specs lock.roots
