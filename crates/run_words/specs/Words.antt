-- The words of a command line as a command.
use Rattle.std.specs.Prelude.{ℕ, List, [], ◌∷◌, ◌++◌, map, Bool, true, false, ◌&&◌, ◌||◌, nat_lt, nat_le, if◌then◌else◌, Option, Some, None, option_and_then, String, codes}
use Rattle.std.specs.List.{flat_map, list_all}
use Rattle.std.specs.Str.{bytes_eq}
use Rattle.std.specs.String.{string_bytes}
use Rattle.std.specs.declared.alloc.Global.{Global}
use Rattle.spec_grammar.specs.Signs.{is_white}
use Rattle.run_words.specs.Numbers.{number_of_word}
use Rattle.run_words.specs.declared.command.Work.{Work}
use Rattle.run_words.specs.declared.command.Work.TheVariants as works
use Rattle.run_words.specs.declared.verbs.FileWord.{FileWord}
use Rattle.run_words.specs.declared.verbs.FileWord.TheVariants.{Absent, Optional, Needed}
use Rattle.run_words.specs.declared.verbs.Verb.{Verb}

-- words by their bytes
abbrev pub words_of : List (String Global) → List (List ℕ)
words_of words = map string_bytes words

-- words joined by one space
abbrev pub joined_words : List ℕ → List (List ℕ) → List ℕ
joined_words first more = first ++ flat_map (λ word. 32 ∷ word) more

-- empty, or white space alone
abbrev pub is_blank : List ℕ → Bool
is_blank text = list_all is_white text

unfoldable pub is_same_path : List ℕ → List ℕ → Bool
is_same_path a b = bytes_eq a b

-- `-` is no path
unfoldable pub is_dash_path : List ℕ → Bool
is_dash_path path = bytes_eq path (codes "-")

-- what the words behind a verb say, of which those of the spec are joined; `-` where a command has no such file. For the lock file
-- of a command over each root stands the folder DIR
pub record Command : Type 0 where
  pub work : Work
  pub repo : List ℕ
  pub settings : List ℕ
  pub database : List ℕ
  pub lock : List ℕ
  pub cert : List ℕ
  pub spec : List ℕ

-- ---- verbs

-- a row of the table of verbs
abbrev pub row : Work → FileWord → FileWord → Option Verb
row work lock cert = Some (record { work = work; lock = lock; cert = cert })

-- the verbs over files, by their names: whether LOCK, or DIR in its place, and whether CERT is a word, and whether `-` may stand there for none
unfoldable pub verb_of : List ℕ → Option Verb
verb_of name =
    if is_same_path name (codes "concretize") then row works.Concretize Needed Optional
    else if is_same_path name (codes "judge") then row works.Judge Needed Absent
    else if is_same_path name (codes "check") then row works.Check Needed Needed
    else if is_same_path name (codes "fresh") then row works.Fresh Needed Absent
    else if is_same_path name (codes "refute") then row works.Refute Absent Needed
    else if is_same_path name (codes "explain") then row works.Explain Absent Absent
    else if is_same_path name (codes "reasons") then row works.Reasons Absent Absent
    else if is_same_path name (codes "find") then row works.Find Absent Absent
    else if is_same_path name (codes "plan") then row works.Plan Needed Absent
    else if is_same_path name (codes "each") then row works.Each Needed Absent
    else if is_same_path name (codes "check_each") then row works.CheckEach Needed Absent
    else None

-- ---- the words behind a verb

abbrev pub no_file : List ℕ
no_file = codes "-"

-- the path of a file: the first word, where one stands there
unfoldable pub path_in : FileWord → List (List ℕ) → Option (List ℕ)
path_in Absent words = Some no_file
path_in file [] = None
path_in file (word ∷ more) = Some word

-- the words behind it
unfoldable pub words_behind : FileWord → List (List ℕ) → List (List ℕ)
words_behind Absent words = words
words_behind file [] = []
words_behind file (word ∷ more) = more

-- whether a file stands among the words
abbrev pub is_word : FileWord → Bool
is_word Absent = false
is_word file = true

-- whether a file is missing that is needed
abbrev pub lacks : FileWord → List ℕ → Bool
lacks Needed path = is_dash_path path
lacks file path = false

-- whether a file is missing, or one stands for both
abbrev pub lacks_file : Verb → List ℕ → List ℕ → Bool
lacks_file verb lock cert =
    lacks verb.lock lock || (lacks verb.cert cert || (is_word verb.lock && (is_word verb.cert && is_same_path lock cert)))

-- whether a command lacks a file, or a spec
abbrev pub is_wrong : Verb → Command → Bool
is_wrong verb c = lacks_file verb c.lock c.cert || is_blank c.spec

unfoldable pub unless_wrong : Verb → Command → Option Command
unless_wrong verb c = if is_wrong verb c then None else Some c

-- the paths of a command
pub record FilePaths : Type 0 where
  pub repo : List ℕ
  pub settings : List ℕ
  pub database : List ℕ
  pub lock : List ℕ
  pub cert : List ℕ

-- the command of a verb over these paths with these words of the spec
unfoldable pub command_over : Verb → FilePaths → List ℕ → List (List ℕ) → Option Command
command_over verb p first more =
    unless_wrong verb (record {
      work = verb.work;
      repo = p.repo;
      settings = p.settings;
      database = p.database;
      lock = p.lock;
      cert = p.cert;
      spec =
          joined_words first more;
    })

-- a spec has one word at least
unfoldable pub with_spec : Verb → FilePaths → List (List ℕ) → Option Command
with_spec verb paths [] = None
with_spec verb paths (first ∷ more) = command_over verb paths first more

-- the command of a verb over the words behind it: REPO SETTINGS DATABASE, then LOCK and CERT where they are words of it, then
-- those of the spec
unfoldable pub command_by : Verb → List (List ℕ) → Option Command
command_by verb (repo ∷ settings ∷ database ∷ files) =
    let more = words_behind verb.lock files in
    option_and_then
    (λ lock. option_and_then
    (λ cert. with_spec verb
    (record { repo = repo; settings = settings; database = database; lock = lock; cert = cert })
    (words_behind verb.cert more))
    (path_in verb.cert more))
    (path_in verb.lock files)
command_by verb few = None

-- a trial of 1 to 1,000 packages, whose repository is made in memory
unfoldable pub trial_over : ℕ → ℕ → Option Command
trial_over packages seed =
    if nat_lt 0 packages && nat_le packages 1000
    then Some (record {
      work = works.Trial packages seed;
      repo = codes "repo";
      settings = no_file;
      database = no_file;
      lock = no_file;
      cert = no_file;
      spec = codes "p0";
    })
    else None

unfoldable pub trial_of : List (List ℕ) → Option Command
trial_of (packages ∷ seed ∷ []) = option_and_then (λ n. option_and_then (λ s. trial_over n s) (number_of_word seed))
    (number_of_word packages)
trial_of others = None

-- the command that the words are
abbrev pub command_of : List (List ℕ) → Option Command
command_of [] = None
command_of (name ∷ more) =
    if is_same_path name (codes "trial") then trial_of more
    else option_and_then (λ verb. command_by verb more) (verb_of name)

-- the path of the lock file that the words name: `-` where there is none
abbrev pub lock_of_command : Option Command → List ℕ
lock_of_command None = []
lock_of_command (Some c) = c.lock

abbrev pub lock_path : List (List ℕ) → List ℕ
lock_path words = lock_of_command (command_of words)

-- the path of the certificate that they name: `-` where there is none
abbrev pub cert_of_command : Option Command → List ℕ
cert_of_command None = []
cert_of_command (Some c) = c.cert

abbrev pub cert_path : List (List ℕ) → List ℕ
cert_path words = cert_of_command (command_of words)
