-- What is said of a graph: a line for each node, and the line of its cost vector; of installed
-- packages; and of the order of a build.
use Rattle.std.specs.Prelude.{ℕ, ◌+◌, List, [], ◌∷◌, ◌++◌, length, slice_get, Option, Some, None, codes, decimal}
use Rattle.std.specs.List.{flat_map}
use Rattle.spec_grammar.specs.Canonical.{variants_text}
use Rattle.graph_core.specs.declared.node.Compiler.{Compiler}
use Rattle.graph_core.specs.declared.node.Node.{Node}
use Rattle.graph_core.specs.declared.node.Origin.{Origin}
use Rattle.graph_core.specs.declared.node.Origin.TheVariants.{Built, External, Installed}
use Rattle.reuse_db.specs.declared.record.Record.{Record}
use Rattle.reuse_db.specs.Installed.{installed_node}

-- the compiler, after a space
unfoldable pub compiler_text : Option Compiler → List ℕ
compiler_text None = []
compiler_text (Some compiler) = codes " %" ++ (compiler.name ++ (codes "@=" ++ compiler.version))

-- a node's name and version
unfoldable pub label_text : Node → List ℕ
label_text node = node.name ++ (codes "@=" ++ node.version)

-- where a node comes from, after a space: an external has the place of its entry, an installed node
-- its hash
unfoldable pub origin_text : Origin → List ℕ
origin_text Built = codes " built"
origin_text (External entry) = codes " external" ++ 32 ∷ decimal entry
origin_text (Installed hash) = codes " installed " ++ hash

-- its OS and target
unfoldable pub place_text : Node → List ℕ
place_text node = codes " os=" ++ (node.os ++ (codes " target=" ++ node.target))

-- and where it comes from
unfoldable pub machine_text : Node → List ℕ
machine_text node = place_text node ++ (origin_text node.origin ++ 10 ∷ [])

-- a node
unfoldable pub node_line : Node → List ℕ
node_line node = label_text node ++ (variants_text node.variants ++ (compiler_text node.compiler ++ machine_text node))

-- the machine of an installed package, whose hash is not said again
unfoldable pub installed_end : Node → List ℕ
installed_end node = place_text node ++ codes " installed\n"

unfoldable pub installed_line : Node → List ℕ
installed_line node = label_text node ++ (variants_text node.variants ++ (compiler_text node.compiler ++ installed_end node))

-- an installed package: its hash, and then its node
unfoldable pub record_line : Record → List ℕ
record_line entry = entry.hash ++ 32 ∷ installed_line (installed_node entry)

-- one that may be there
abbrev pub line_if_there : Option Record → List ℕ
line_if_there None = []
line_if_there (Some entry) = record_line entry

unfoldable pub found_line : ℕ → List ℕ
found_line count = codes "found " ++ (decimal count ++ 10 ∷ [])

-- a line for each of these installed packages, and how many they are
abbrev pub found_text : List Record → List ℕ → List ℕ
found_text records places = flat_map (λ place. line_if_there (slice_get records place)) places ++ found_line (length places)

-- ---- the order of a build

-- names, each after a space
abbrev pub names_text : List (List ℕ) → List ℕ
names_text names = flat_map (λ name. 32 ∷ name) names

-- the names of a wave, which has this number
unfoldable pub wave_line : ℕ → List (List ℕ) → List ℕ
wave_line number names = codes "wave " ++ (decimal number ++ (names_text names ++ 10 ∷ []))

-- waves, of which the first has this number
abbrev pub waves_text : ℕ → List (List (List ℕ)) → List ℕ
waves_text number [] = []
waves_text number (names ∷ waves) = wave_line number names ++ waves_text (number + 1) waves

unfoldable pub chain_line : List (List ℕ) → List ℕ
chain_line names = codes "chain" ++ (names_text names ++ 10 ∷ [])

-- the waves, from 1 on, and the chain
abbrev pub plan_text : List (List (List ℕ)) → List (List ℕ) → List ℕ
plan_text waves chain = waves_text 1 waves ++ chain_line chain

-- ---- costs

-- `vector` and the numbers
unfoldable pub vector_line : List ℕ → List ℕ
vector_line numbers = codes "vector" ++ (flat_map (λ n. 32 ∷ decimal n) numbers ++ 10 ∷ [])

-- a line for each node, and the vector's line
abbrev pub report_text : List Node → List ℕ → List ℕ
report_text nodes numbers = flat_map node_line nodes ++ vector_line numbers

-- a node, by which the lines are shown
unfoldable pub worked_node : Node
worked_node = record {
  name = codes "zlib";
  version = codes "1.3";
  variants = [];
  compiler = Some (record { name = codes "gcc"; version = codes "12.3.0" });
  os = codes "ubuntu22.04";
  target = codes "x86_64";
  prefix = None;
  origin = Built;
}
