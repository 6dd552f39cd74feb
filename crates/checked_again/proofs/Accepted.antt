-- What the files that a run left pose for the next one.
use Rattle.std.proofs.Common.{◌≡◌, ◌≢◌, refl, sym, ap, subst, ◌∙◌, ◌↔◌, ℕ, Bool, true, false, List, [], ◌∷◌, All, Option, Some, None, Result, Ok}
use Rattle.std.specs.FinMap.{get, insert}
use Rattle.std.specs.Str.{IsUtf8, bytes_eq}
use Rattle.std.proofs.lemmas.Bool.{false≢true}
use Rattle.std.proofs.lemmas.Slice.Eq.{bytes_eq-Decides}
use Rattle.outside_desk.specs.Files.{Files, with_file}
use Rattle.outside_desk.specs.Listing.{name_below, names_in}
use Rattle.json_readers.specs.Json.{IsJson}
use Rattle.spec_grammar.specs.Canonical.{spec_text}
use Rattle.spec_grammar.specs.declared.part.Spec.{Spec}
use Rattle.graph_core.specs.Graphs.{Content}
use Rattle.reuse_db.specs.Databases.{AreRecords}
use Rattle.lock_writer.specs.Texts.{lock_data}
use Rattle.lockfile.specs.Locks.{IsLock}
use Rattle.lockfile.specs.Writable as written
use Rattle.lock_laws.specs.Forms.{IsFormedProblem}
use Rattle.clause_store.specs.Clauses.{clauses_of}
use Rattle.clause_store.specs.Kept.{AllInOrder}
use Rattle.clause_store.specs.declared.list.Entry.{Entry}
use Rattle.proof_log.specs.Known.{AllClauses}
use Rattle.proof_log.specs.Readings.{log_text}
use Rattle.problem.specs.Nodes.{IsWellFormed}
use Rattle.graph_rules.specs.Valid.{valid}
use Rattle.graph_rules.specs.Costs.{vector}
use Rattle.graph_rules.specs.Verdict.{verdict}
use Rattle.graph_rules.specs.declared.rule.Verdict.TheVariants as verdicts
use Rattle.run_input.specs.Paths.{packages_path, recipe_path}
use Rattle.run_input.specs.Roots.{RootsOf}
use Rattle.run_task.specs.Built.{encoding_of, rule_clauses}
use Rattle.run_task.specs.Again.{BestIsAccepted, HoldsLog, NothingIsAccepted}
use Rattle.run_output.specs.Answers.{HasNone, IsFinished, IsSolved, IsUnsolved}
use Rattle.run_output.specs.Certificates.{log_verdict}
use Rattle.run_output.specs.Evidence.{evidence}
use Rattle.run_output.specs.Exits.{Spoken}
use Rattle.run_output.specs.Input.{Input}
use Rattle.run_output.specs.Inputs.{ReadsInput}
use Rattle.run_output.specs.Locks.{lock_of}
use Rattle.run_output.specs.Problems.{Problem}
use Rattle.run_output.specs.Put.{with_cert_by}
use Rattle.run_output.specs.Refusal.{Refusal}
use Rattle.run_output.specs.Task.{Task}
use Rattle.run_output.specs.Task.TheVariants as tasks
use Rattle.run_output.specs.Tasks.{Named, Poses}
use Rattle.run_output.specs.Words.{Command, cert_of_command, cert_path, command_of, is_dash_path, is_same_path, lock_of_command, lock_path, no_file}
use Rattle.run_output.specs.Work.TheVariants as works
use Rattle.concretizer.specs.Headline.{IsDone, IsUnsatisfiable}
use Rattle.written_again.specs.Again.{AreApart, AreAsked}
use Rattle.checked_again.specs.Again.{Asked, CanBeChecked, CanBeRefuted, IsAcceptedAgain, IsRefutedAgain, StandsApart, check_words, command_with, concretize_words, refute_words}
use Rattle.checked_again.proofs.Inputs.{read_again}
use Rattle.checked_again.proofs.Locks.{judges}
use Rattle.checked_again.proofs.Parts.{records_right, roots_read}
use Rattle.checked_again.proofs.Words.{AreWords, are_words}

-- what other crates say, as it is used here
pub record Laws : Type 0 where
  pub there : (files : Files) (path bytes : List ℕ) → get (insert files path bytes) path ≡ Some bytes
  pub others : (files : Files) (path bytes other : List ℕ) → other ≢ path → get (insert files path bytes) other ≡ get files other
  pub listed : (files : Files) (path bytes folder : List ℕ) → name_below folder path ≡ None
      → names_in (insert files path bytes) folder ≡ names_in files folder
  pub read : (problem : Problem) (graph : Content) → IsFormedProblem problem → AreRecords problem.database → IsWellFormed graph
      → valid problem graph ≡ true → All (λ spec. IsUtf8 (spec_text spec)) problem.roots → AreApart graph → (text : List ℕ)
      → IsJson text (lock_data graph problem.database problem.roots) → IsLock text (written.lock_of graph problem.roots)
  pub texts : (text : List ℕ) (roots : List Spec) → RootsOf text (Ok roots) → All (λ spec. IsUtf8 (spec_text spec)) roots
  pub asked : (problem : Problem) (graph : Content) → valid problem graph ≡ true
      → AreAsked (written.lock_of graph problem.roots) problem.roots
  pub unbroken : (problem : Problem) (graph : Content) → (valid problem graph ≡ true) ↔ (verdict problem graph ≡ verdicts.Valid)
  pub ordered : (problem : Problem) → AllInOrder (encoding_of problem).clauses.entries
  pub ordered_rules : (problem : Problem) → AllInOrder (rule_clauses problem).entries
  pub best : BestIsAccepted
  pub nothing : NothingIsAccepted

-- clauses in order are those that a checker takes
clauses_right : (es : List Entry) → AllInOrder es → AllClauses (clauses_of es)
clauses_right [] o = tt
clauses_right (e ∷ es) o = (o.0, clauses_right es o.1)

ok_same : (x y : Task) → (let T : Type 0 = Result Task Refusal in let a : T = Ok x in let b : T = Ok y in a ≡ b) → x ≡ y
ok_same x y e = cc

some_files : (x y : Files) → (let T : Type 0 = Option Files in let a : T = Some x in let b : T = Some y in a ≡ b) → x ≡ y
some_files x y e = cc

other_path : (a b : List ℕ) → bytes_eq a b ≡ false → b ≢ a
other_path a b apart same = false≢true (sym apart ∙ (bytes_eq-Decides a b).1 (sym same))

two_paths : (a b : List ℕ) → is_same_path a b ≡ false → b ≢ a
unfolding is_same_path
two_paths a b apart = other_path a b apart

module _ (laws : Laws) (a : Asked) (files : Files) (dash : is_dash_path a.cert ≡ false) where
  -- ---- the certificate is put

  module _ (cert : StandsApart a a.cert) (text : List ℕ) where
    abbrev one : Files
    one = insert files a.cert text

    read_one : (input : Input) → ReadsInput files (command_with works.Concretize a) (Ok input)
        → ReadsInput one (command_with works.Concretize a) (Ok input)
    read_one =
        read_again files one (command_with works.Concretize a)
        (laws.others files a.cert text a.settings (λ same. cert.settings (sym same)))
        (laws.others files a.cert text a.database (λ same. cert.database (sym same)))
        (λ name. laws.others files a.cert text (recipe_path a.repo name) (λ same. cert.recipes name (sym same)))
        (laws.listed files a.cert text (packages_path a.repo) cert.folder)

    -- ---- and then the lock file

    module _ (lock : StandsApart a a.lock) (two : a.cert ≢ a.lock) (more : List ℕ) where
      abbrev both : Files
      both = insert one a.lock more

      read_both : (input : Input) → ReadsInput files (command_with works.Concretize a) (Ok input)
          → ReadsInput both (command_with works.Concretize a) (Ok input)
      read_both input read =
          read_again one both (command_with works.Concretize a)
          (laws.others one a.lock more a.settings (λ same. lock.settings (sym same)))
          (laws.others one a.lock more a.database (λ same. lock.database (sym same)))
          (λ name. laws.others one a.lock more (recipe_path a.repo name) (λ same. lock.recipes name (sym same)))
          (laws.listed one a.lock more (packages_path a.repo) lock.folder) input (read_one input read)

      cert_there : get both a.cert ≡ Some text
      cert_there = laws.others one a.lock more a.cert two ∙ laws.there files a.cert text

      lock_there : get both a.lock ≡ Some more
      lock_there = laws.there one a.lock more

  -- ---- a run that found a graph

  module _ (after : Files) (out : Spoken) (lock : StandsApart a a.lock) (cert : StandsApart a a.cert) (c : Command)
      (named : command_of (concretize_words a) ≡ Some c) where
    module _ (input : Input) (read : ReadsInput files (command_with works.Concretize a) (Ok input))
        (found : IsSolved evidence (lock_path (concretize_words a)) (cert_path (concretize_words a)) input.problem (Some files) (Some after)
        out.0 out.1) where
      abbrev text : List ℕ
      text = log_text found.log

      abbrev more : List ℕ
      more = lock_of input.problem found.graph

      words : AreWords a c
      words = are_words a c dash named

      two : a.cert ≢ a.lock
      two = two_paths a.lock a.cert words.two

      abbrev left : Files
      left = both cert text lock two more

      lock_is : lock_path (concretize_words a) ≡ a.lock
      lock_is = ap lock_of_command (named ∙ ap Some words.command)

      cert_is : cert_path (concretize_words a) ≡ a.cert
      cert_is = ap cert_of_command (named ∙ ap Some words.command)

      same : after ≡ left
      same =
          some_files after left
          (found.files
          ∙ ap (λ (path : List ℕ). with_file (with_cert_by (is_dash_path path) path found.log (Some files))
          (lock_path (concretize_words a)) more) cert_is
          ∙ ap (λ (d : Bool). with_file (with_cert_by d a.cert found.log (Some files)) (lock_path (concretize_words a)) more) dash
          ∙ ap (λ (path : List ℕ). with_file (Some (insert files a.cert text)) path more) lock_is)

      accepted : CanBeChecked input.problem found.graph found.log → Poses log_verdict left (check_words a) (Ok tasks.Accepted)
      accepted can =
          let is_valid = found.best.means.1.is_valid in
          let held : HoldsLog left a.cert found.log = record { there = cert_there cert text lock two more; short = can.short_cert } in
          let lock_read = laws.read input.problem found.graph can.formed (records_right files (command_with works.Concretize a) input read)
          found.best.means.0 is_valid (laws.texts (command_with works.Concretize a).spec input.problem.roots
          (roots_read files (command_with works.Concretize a) input read)) can.apart more
          found.read in (
            command_with works.Check a,
            words.check,
            (
              input,
              read_both cert text lock two more input read,
              (
                vector input.problem found.graph,
                judges input.problem found.graph (laws.asked input.problem found.graph is_valid)
                    ((laws.unbroken input.problem found.graph).0 is_valid) left a.lock more (lock_there cert text lock two more)
                    can.short_lock
                    lock_read,
                (
                  tt,
                  sym (laws.best input.problem input.problem.settings.conflict_budget found.graph found.log found.best
                      (record { ordered = clauses_right _ (laws.ordered input.problem); lines = found.best.lines }) left a.cert held),
                  refl,
                ),
              ),
            ),
          )

      solved : IsAcceptedAgain a files after
      solved = record {
        input = input;
        read = read;
        graph = found.graph;
        log = found.log;
        answer = found.best;
        lock = rw same (lock_there cert text lock two more);
        cert = rw same (cert_there cert text lock two more);
        again = λ can. rw same (accepted can);
      }

  -- ---- and one that found none

  module _ (after : Files) (out : Spoken) (cert : StandsApart a a.cert) (c : Command)
      (named : command_of (concretize_words a) ≡ Some c) where
    module _ (input : Input) (read : ReadsInput files (command_with works.Concretize a) (Ok input))
        (found : IsUnsolved evidence (cert_path (concretize_words a)) input.problem (Some files) (Some after) out.0 out.1) where
      abbrev refutation : List ℕ
      refutation = log_text found.log

      words_so : AreWords a c
      words_so = are_words a c dash named

      path_is : cert_path (concretize_words a) ≡ a.cert
      path_is = ap cert_of_command (named ∙ ap Some words_so.command)

      same_one : after ≡ one cert refutation
      same_one =
          some_files after (one cert refutation)
          (found.files
          ∙ ap (λ (path : List ℕ). with_cert_by (is_dash_path path) path found.log (Some files)) path_is
          ∙ ap (λ (d : Bool). with_cert_by d a.cert found.log (Some files)) dash)

      refuted : CanBeRefuted found.log → Poses log_verdict (one cert refutation) (refute_words a) (Ok tasks.Accepted)
      refuted can =
          let held : HoldsLog (one cert refutation) a.cert found.log =
          record { there = laws.there files a.cert refutation; short = can.short_cert } in (
            record (command_with works.Refute a) { lock = no_file },
            words_so.refute,
            (
              input,
              read_one cert refutation input read,
              (
                tt,
                sym (laws.nothing input.problem input.problem.settings.conflict_budget found.log found.none
                    (record { ordered = clauses_right _ (laws.ordered_rules input.problem); lines = found.none.lines }) (one cert refutation)
                    a.cert held),
                refl,
              ),
            ),
          )

      unsolved : IsRefutedAgain a files after
      unsolved = record {
        input = input;
        read = read;
        log = found.log;
        answer = found.none;
        cert = rw same_one (laws.there files a.cert refutation);
        again = λ can. rw same_one (refuted can);
      }

  -- ---- what the words pose

  module _ (c : Command) (named : command_of (concretize_words a) ≡ Some c) (task : Task) (over : Named log_verdict files c (Ok task)) where
    posed : Named log_verdict files (command_with works.Concretize a) (Ok task)
    posed = subst (λ (c : Command). Named log_verdict files c (Ok task)) (are_words a c dash named).command over

-- Done by `concretize`: `check` poses that the certificate is right
pub check : Laws → (a : Asked) (files after : Files) (out err : Spoken) → is_dash_path a.cert ≡ false → StandsApart a a.lock
    → StandsApart a a.cert → IsDone evidence files (concretize_words a) (Some after) out err → IsAcceptedAgain a files after
check laws a files after out err dash lock cert done =
    let (c, named, over) = done.read in
    let (input, read, made) = posed laws a files dash c named done.task over in
    solved laws a files dash after out lock cert c named input read
    (subst (λ (task : Task). IsFinished evidence (lock_path (concretize_words a)) (cert_path (concretize_words a)) task (Some files)
    (Some after) out.0 out.1) (ok_same done.task (tasks.Solve input) made) done.finished)

-- Unsatisfiable: `refute` does
pub refute : Laws → (a : Asked) (files after : Files) (out err : Spoken) → is_dash_path a.cert ≡ false → StandsApart a a.cert
    → IsUnsatisfiable evidence files (concretize_words a) (Some after) out err → IsRefutedAgain a files after
refute laws a files after out err dash cert unsatisfiable =
    let (c, named, over) = unsatisfiable.read in
    let (input, read, made) = posed laws a files dash c named unsatisfiable.task over in
    unsolved laws a files dash after out cert c named input read
    (subst (λ (task : Task). HasNone evidence (lock_path (concretize_words a)) (cert_path (concretize_words a)) task (Some files)
    (Some after) out.0 out.1) (ok_same unsatisfiable.task (tasks.Solve input) made) unsatisfiable.none)
