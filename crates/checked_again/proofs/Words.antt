-- The words of the two runs.
use Rattle.std.proofs.Common.{◌≡◌, refl, sym, cond, ℕ, Bool, true, false, List, [], ◌∷◌, Option, Some, None}
use Rattle.std.specs.Prelude.{◌||◌, ◌&&◌}
use Rattle.run_output.specs.Words.{Command, command_of, command_by, command_over, is_blank, is_dash_path, is_same_path, path_in, unless_wrong, verb_of, with_spec, words_behind, no_file}
use Rattle.run_output.specs.Work.TheVariants as works
use Rattle.checked_again.specs.Again.{Asked, check_words, command_with, concretize_words, refute_words, spec_in}

-- what is right of the words of a lock file, a certificate and specs
record AreRight (lacks same blank : Bool) : Type 0 where
  lock : lacks ≡ false
  two : same ≡ false
  spec : blank ≡ false

are_right : (lacks same blank : Bool) (made c : Command)
    → (let T : Type 0 = Option Command in let l : T = cond ((lacks || (false || (true && (true && same)))) || blank) None (Some made) in
    let r : T =
    Some c in l ≡ r) → AreRight lacks same blank × (made ≡ c)
are_right true same blank made c e = absurd cc
are_right false true blank made c e = absurd cc
are_right false false true made c e = absurd cc
are_right false false false made c e = (record { lock = refl; two = refl; spec = refl }, cc)

-- the words that are a command of a search
pub record AreWords (a : Asked) (c : Command) : Type 0 where
  pub command : c ≡ command_with works.Concretize a
  pub two : is_same_path a.lock a.cert ≡ false
  pub check : command_of (check_words a) ≡ Some (command_with works.Check a)
  pub refute : command_of (refute_words a) ≡ Some (record (command_with works.Refute a) { lock = no_file })

words_with : (repo settings database lock cert : List ℕ) (spec : List (List ℕ)) (c : Command)
    → is_dash_path cert ≡ false
    → command_of (concretize_words (record {
      repo = repo;
      settings = settings;
      database = database;
      lock = lock;
      cert = cert;
      spec =
          spec;
    })) ≡ Some c
    → AreWords (record { repo = repo; settings = settings; database = database; lock = lock; cert = cert; spec = spec }) c
unfolding is_same_path verb_of path_in words_behind unless_wrong command_over with_spec command_by
words_with repo settings database lock cert [] c file named = absurd cc
words_with repo settings database lock cert (first ∷ more) c file named =
    let a : Asked = record { repo = repo; settings = settings; database = database; lock = lock; cert = cert; spec = first ∷ more } in
    let (right, same) = are_right (is_dash_path lock) (is_same_path lock cert) (is_blank (spec_in (first ∷ more)))
    (command_with works.Concretize a) c named in
    record {
      command = sym same;
      two = right.two;
      check = rw (right.lock, file, right.two, right.spec) refl;
      refute = rw (file, right.spec) refl;
    }

-- so the words of the other runs are commands, too
pub are_words : (a : Asked) (c : Command) → is_dash_path a.cert ≡ false → command_of (concretize_words a) ≡ Some c → AreWords a c
are_words a c file named = words_with a.repo a.settings a.database a.lock a.cert a.spec c file named
