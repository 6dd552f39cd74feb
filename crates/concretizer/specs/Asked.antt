-- What the words say of a run, for any desk.
use Rattle.std.specs.Prelude.{◌≡◌, ◌⊎◌, ℕ, false, List, Option, Some, IsSomeAnd}
use Rattle.std.specs.FinMap.{get}
use Rattle.outside_desk.specs.Files.{Files}
use Rattle.run_output.specs.Looks.{IsTaskPath}
use Rattle.run_output.specs.Tasks.{HasSpecs}
use Rattle.run_output.specs.Places.{IsRootFile}
use Rattle.run_output.specs.Words.{Command, command_of, is_dash_path}
use Rattle.run_output.specs.Work.{Work}
use Rattle.run_output.specs.Work.TheVariants as works

-- the words are a command whose specs are read
pub record IsAsked (words : List (List ℕ)) : Type 0 where
  pub command : Command
  pub named : command_of words ≡ Some command
  pub asks : HasSpecs command

-- the two commands that put files
abbrev pub PutsFiles : Work → Type 0
PutsFiles works.Concretize = Unit {0}
PutsFiles works.Each = Unit {0}
PutsFiles other = ⊥

-- the words are one of them
pub record IsLocking (words : List (List ℕ)) : Type 0 where
  pub asked : IsAsked words
  pub work : PutsFiles asked.command.work

-- the path is one at which a command may put a file: of `concretize` that of the lock file, or of
-- the certificate where there is one; of `each` those of both for each root, by its number, in the
-- folder that stands in the lock file's place; of all others none
abbrev pub IsPutBy : Work → Command → List ℕ → Type 0
IsPutBy works.Concretize command path = (path ≡ command.lock) ⊎ ((path ≡ command.cert) × (is_dash_path command.cert ≡ false))
IsPutBy works.Each command path = IsRootFile command path
IsPutBy other command path = ⊥

pub record IsPutPath (words : List (List ℕ)) (path : List ℕ) : Type 0 where
  pub command : Command
  pub named : command_of words ≡ Some command
  pub put : IsPutBy command.work command path

-- no file at any other path changed
abbrev pub ChangesOnly : List (List ℕ) → Files → Option Files → Type 0
ChangesOnly words before after =
    IsSomeAnd after (λ files. (path : List ℕ) → ¬ IsPutPath words path → get files path ≡ get before path)

-- the words are a command that reads a file or folder at the path; where the desk tells its files,
-- of recipes those that the folder of packages names, and each path only behind what is read before
-- it: all of that gave something, and no refusal is due there
pub record IsRead (told : Option Files) (words : List (List ℕ)) (path : List ℕ) : Type 0 where
  pub command : Command
  pub named : command_of words ≡ Some command
  pub inside : IsTaskPath told command path
