-- What a literal stands for, as words behind a blank.
use Rattle.std.specs.Prelude.{ℕ, ◌+◌, ◌/◌, ◌%◌, ◌==◌, not, ◌&&◌, List, [], ◌∷◌, ◌++◌, Option, Some, None, nat_lt, codes, decimal, if◌then◌else◌}
use Rattle.std.specs.List.{flat_map}
use Rattle.graph_core.specs.declared.node.Compiler.{Compiler}
use Rattle.graph_core.specs.declared.node.Origin.{Origin}
use Rattle.graph_core.specs.declared.node.Origin.TheVariants.{Built, External, Installed}

-- a name, a version, a value
unfoldable pub word_text : List ℕ → List ℕ
word_text word = codes " " ++ word

-- where a node comes from: an external has the place of its entry, an installed node its hash
unfoldable pub origin_text : Origin → List ℕ
origin_text Built = codes " built"
origin_text (External entry) = codes " external " ++ decimal entry
origin_text (Installed hash) = codes " installed " ++ hash

-- a compiler, or `-` for none
unfoldable pub compiler_text : Option Compiler → List ℕ
compiler_text None = codes " -"
compiler_text (Some compiler) = codes " " ++ (compiler.name ++ (codes "@=" ++ compiler.version))

abbrev pub hex_digit : ℕ → ℕ
hex_digit n = if nat_lt n 10 then 48 + n else 87 + n

-- a byte as it is; white space, control bytes and the backslash as a backslash with two hexadecimal
-- digits
unfoldable pub safe_byte : ℕ → List ℕ
safe_byte b = if nat_lt 32 b && not (b == 92) then b ∷ [] else 92 ∷ hex_digit (b / 16) ∷ hex_digit (b % 16) ∷ []

abbrev pub safe_text : List ℕ → List ℕ
safe_text text = flat_map safe_byte text

-- a prefix behind `=`, or `-` for none
unfoldable pub prefix_text : Option (List ℕ) → List ℕ
prefix_text None = codes " -"
prefix_text (Some path) = codes " =" ++ safe_text path
