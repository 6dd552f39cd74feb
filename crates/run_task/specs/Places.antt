-- Where the files of one root of many stand.
use Rattle.std.specs.Prelude.{◌≡◌, ◌⊎◌, ℕ, ◌<◌, List, [], ◌∷◌, codes, decimal, length, Ok}
use Rattle.run_answers.specs.Lines.{joined_texts}
use Rattle.spec_grammar.specs.declared.part.Spec.{Spec}
use Rattle.run_input.specs.Roots.{RootsOf}
use Rattle.run_input.specs.Words.{Command}

-- the lock file of the root with this number, from 0
unfoldable pub lock_at : List ℕ → ℕ → List ℕ
lock_at dir root = joined_texts (dir ∷ codes "/" ∷ decimal root ∷ codes ".lock" ∷ [])

-- its certificate
unfoldable pub cert_at : List ℕ → ℕ → List ℕ
cert_at dir root = joined_texts (dir ∷ codes "/" ∷ decimal root ∷ codes ".cert" ∷ [])

-- the path is that of a file of one of so many roots
pub record IsOfRoots (dir : List ℕ) (count : ℕ) (path : List ℕ) : Type 0 where
  pub root : ℕ
  pub within : root < count
  pub is_path : (path ≡ lock_at dir root) ⊎ (path ≡ cert_at dir root)

-- the path is that of a file of one of the roots that the specs of a command are, in the folder
-- that stands for its lock file
pub record IsRootFile (command : Command) (path : List ℕ) : Type 0 where
  pub roots : List Spec
  pub read : RootsOf command.spec (Ok roots)
  pub inside : IsOfRoots command.lock (length roots) path
