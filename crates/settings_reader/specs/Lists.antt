-- The lists of the settings.
use Rattle.std.specs.Prelude.{ℕ, List, [], ◌∷◌, map, codes, Some, Ok}
use Rattle.std.specs.Ordering.{nat_cmp, ordering_then}
use Rattle.std.specs.declared.cmp.Ordering.{Ordering}
use Rattle.std.specs.Cmp.Lexicographic.{slice_cmp}
use Rattle.serde_json.specs.Data.{Data}
use Rattle.json_readers.specs.Faults.{Reading, ◌>>=◌}
use Rattle.json_readers.specs.Texts.{text_of}
use Rattle.json_readers.specs.Lists.{list_of, not_empty, distinct}
use Rattle.json_readers.specs.Objects.{known, need, may}
use Rattle.json_texts.specs.Forms.{name_meaning, plain_meaning, version_in}
use Rattle.target_table.specs.declared.entry.TargetEntry.{TargetEntry}
use Rattle.graph_core.specs.declared.node.Compiler.{Compiler}
use Rattle.site_settings.specs.declared.settings.CompilerEntry.{CompilerEntry}

-- a non-empty list of distinct values without `:`
unfoldable pub os_list : Data → Reading (List (List ℕ))
os_list d = do
  names ← list_of (text_of plain_meaning) d
  _ ← not_empty names
  _ ← distinct (slice_cmp nat_cmp) names
  Ok names

unfoldable pub target_at : Data → Reading TargetEntry
target_at d = do
  ms ← known (codes "name" ∷ codes "parents" ∷ []) d
  name ← need (text_of plain_meaning) (codes "name") ms
  parents ← need (list_of (text_of plain_meaning)) (codes "parents") ms
  Ok (record { name = name; parents = parents })

-- a non-empty list of targets
unfoldable pub target_list : Data → Reading (List TargetEntry)
target_list d = do
  entries ← list_of target_at d
  _ ← not_empty entries
  Ok entries

unfoldable pub compiler_entry_at : Data → Reading CompilerEntry
compiler_entry_at d = do
  ms ← known (codes "name" ∷ codes "os" ∷ codes "targets" ∷ codes "version" ∷ []) d
  name ← need (text_of name_meaning) (codes "name") ms
  version ← need (text_of version_in) (codes "version") ms
  os ← may (list_of (text_of Some)) (codes "os") ms
  targets ← may (list_of (text_of Some)) (codes "targets") ms
  Ok (record { compiler = record { name = name; version = version }; os = os; targets = targets })

-- by name, then by version
abbrev pub compiler_pair_cmp : List ℕ × List ℕ → List ℕ × List ℕ → Ordering
compiler_pair_cmp a b = ordering_then (slice_cmp nat_cmp a.0 b.0) (slice_cmp nat_cmp a.1 b.1)

abbrev pub pair_of : Compiler → List ℕ × List ℕ
pair_of compiler = (compiler.name, compiler.version)

abbrev pub compiler_pairs : List CompilerEntry → List (List ℕ × List ℕ)
compiler_pairs entries = map (λ entry. pair_of entry.compiler) entries

-- a non-empty list of compilers, each name and version once
unfoldable pub compiler_list : Data → Reading (List CompilerEntry)
compiler_list d = do
  entries ← list_of compiler_entry_at d
  _ ← not_empty entries
  _ ← distinct compiler_pair_cmp (compiler_pairs entries)
  Ok entries

-- a list of texts that is not empty
unfoldable pub text_list : Data → Reading (List (List ℕ))
text_list d = do
  texts ← list_of (text_of Some) d
  _ ← not_empty texts
  Ok texts

-- a list of distinct names
unfoldable pub provider_list : Data → Reading (List (List ℕ))
provider_list d = do
  names ← list_of (text_of name_meaning) d
  _ ← distinct (slice_cmp nat_cmp) names
  Ok names
