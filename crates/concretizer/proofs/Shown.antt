-- What an answer shows of the files that others made.
use Rattle.std.proofs.Common.{◌≡◌, refl, subst, Bool, true, false, ℕ, List, Option, Some, None}
use Rattle.std.specs.Prelude.{IfSome, Ok}
use Rattle.std.proofs.lemmas.Bool.{false≢true}
use Rattle.outside_desk.specs.Files.{Files}
use Rattle.run_output.specs.Answer.{Answer}
use Rattle.run_output.specs.Answer.TheVariants as answers
use Rattle.run_output.specs.Answers.{HasBetter, IsFinished, Writes}
use Rattle.run_output.specs.Evidence.{evidence}
use Rattle.run_output.specs.Explanation.{Explanation}
use Rattle.run_output.specs.Explanation.TheVariants as explanations
use Rattle.run_output.specs.LeastExplanation.{LeastExplanation}
use Rattle.run_output.specs.LeastExplanation.TheVariants as least
use Rattle.run_output.specs.LeastTexts.{least_outcome}
use Rattle.run_output.specs.Problems.{Problem}
use Rattle.run_output.specs.Shown.{IsSeen, IsShownOver, IsShownUnless, OutdoneBy, SeenBy, ShownBy}
use Rattle.run_output.specs.Task.{Task}
use Rattle.run_output.specs.Task.TheVariants as tasks
use Rattle.run_output.specs.Tasks.{IsOf, files_for, is_search}
use Rattle.run_output.specs.Texts.{explanation_outcome, outcome_of}
use Rattle.run_output.specs.Told.{IsOutdoneBy, IsStillBest}
use Rattle.run_output.specs.Words.{Command, command_of}
use Rattle.run_output.specs.Work.{Work}
use Rattle.run_output.specs.Work.TheVariants as works
use Rattle.run_output.specs.declared.answer.Outcome.{Outcome}
use Rattle.run_output.specs.declared.answer.Outcome.TheVariants.{Solved, Unsolved, Undecided, Stale}
use Rattle.run_output.proofs.Comparisons.{best_lock, outdone_lock}
use Rattle.concretizer.specs.Headline.{HasOutdone, HasShown, ShowsBy}

no_explanation : (explanation : Explanation) → Stale ≡ explanation_outcome explanation → ⊥
no_explanation explanations.Satisfiable e = let no : Stale ≡ Solved = e in cc
no_explanation (explanations.Unmet demands log) e = let no : Stale ≡ Unsolved = e in cc
no_explanation (explanations.Undecided log) e = let no : Stale ≡ Undecided = e in cc

no_least : (explanation : LeastExplanation) → Stale ≡ least_outcome explanation → ⊥
no_least least.Satisfiable e = let no : Stale ≡ Solved = e in cc
no_least (least.Least demands graphs) e = let no : Stale ≡ Unsolved = e in cc
no_least (least.Undecided demands log) e = let no : Stale ≡ Undecided = e in cc

no_answer : (answer : Answer) → Stale ≡ outcome_of answer → ⊥
no_answer (answers.Best graph log) e = let no : Stale ≡ Solved = e in cc
no_answer (answers.Nothing log) e = let no : Stale ≡ Unsolved = e in cc
no_answer (answers.Undecided log) e = let no : Stale ≡ Undecided = e in cc

not_solved : Stale ≡ Solved → ⊥
not_solved e = cc

module _ (lock cert : List ℕ) (before after : Option Files) (said more : Option (List ℕ)) where
  -- a better graph is found by `fresh` alone
  never_better : (work : Work) (task : Task) → IsOf work task → HasBetter evidence task before after said more → work ≡ works.Fresh
  never_better works.Fresh task of better = refl
  never_better works.Concretize (tasks.Solve input) of better = absurd better
  never_better works.Each (tasks.Each input) of better = absurd better
  never_better works.CheckEach tasks.Accepted of better = absurd (not_solved better.tells.0)
  never_better works.Judge (tasks.Report numbers) of better = absurd (not_solved better.tells.0)
  never_better works.Check tasks.Accepted of better = absurd (not_solved better.tells.0)
  never_better works.Refute tasks.Accepted of better = absurd (not_solved better.tells.0)
  never_better works.Explain (tasks.Explain input) of better =
      absurd (no_explanation better.tells.explanation better.tells.is_outcome)
  never_better works.Reasons (tasks.Reasons input) of better = absurd (no_least better.tells.explanation better.tells.is_outcome)
  never_better works.Find (tasks.Find query) of better = absurd (not_solved better.tells.is_outcome)
  never_better works.Plan (tasks.Plan graph) of better = absurd (not_solved better.tells.is_outcome)
  never_better (works.Trial packages seed) (tasks.Try input) of better = absurd (no_answer better.tells.answer better.tells.is_outcome)
  never_better other task of better = absurd of

  module _ (files : Files) (command : Command) (task : Task) (problem : Problem) where
    -- what a yes shows of the problem, of which reading shows this
    yes_of : (work : Work) → IsOf work task → SeenBy work task files command problem
        → IsFinished evidence lock cert task before after said more → ShownBy work files command problem
    yes_of works.Check of seen finished = seen
    yes_of works.Refute of seen finished = seen
    yes_of works.CheckEach of seen finished = seen
    yes_of works.Fresh of seen finished = of_task task of seen finished
      where
        of_task : (task : Task) → IsOf works.Fresh task → SeenBy works.Fresh task files command problem
            → IsFinished evidence lock cert task before after said more → ShownBy works.Fresh files command problem
        of_task (tasks.Compare input numbers) of (same, right) finished =
            best_lock files command.lock problem numbers finished.text right
            (subst (λ (p : Problem). IsStillBest evidence p numbers finished.text) same finished.tells)
        of_task other of seen finished = absurd of
    yes_of other of seen finished = tt

    -- what a no shows
    no_of : (work : Work) → work ≡ works.Fresh → IsOf work task → SeenBy work task files command problem
        → HasBetter evidence task before after said more → OutdoneBy work files command problem
    no_of works.Fresh is of seen better = of_task task of seen better
      where
        of_task : (task : Task) → IsOf works.Fresh task → SeenBy works.Fresh task files command problem
            → HasBetter evidence task before after said more → OutdoneBy works.Fresh files command problem
        of_task (tasks.Compare input numbers) of (same, right) better =
            outdone_lock files command.lock problem numbers better.text right
            (subst (λ (p : Problem). IsOutdoneBy evidence p numbers better.text) same better.tells)
        of_task other of seen better = absurd of
    no_of other is of seen better = absurd (cc)

  module _ (command : Command) (task : Task) (of : IsOf command.work task) where
    shown_unless : (search : Bool) (files : Files) → IsShownUnless (SeenBy command.work task) search files command
        → IsFinished evidence lock cert task before after said more → IsShownUnless (ShownBy command.work) search files command
    shown_unless true files seen finished = tt
    shown_unless false files seen finished = record {
      input = seen.input;
      read = seen.read;
      shown = yes_of files command task seen.input.problem command.work of seen.shown finished;
    }

    outdone_unless : (search : Bool) → is_search command.work ≡ search → (files : Files)
        → IsShownUnless (SeenBy command.work task) search files command
        → HasBetter evidence task before after said more → IsShownOver (OutdoneBy command.work) files command
    outdone_unless true is files seen better =
        absurd (false≢true (subst (λ (w : Work). is_search w ≡ true) (never_better command.work task of better) is))
    outdone_unless false is files seen better = record {
      input = seen.input;
      read = seen.read;
      shown = no_of files command task seen.input.problem command.work (never_better command.work task of better) of seen.shown better;
    }

    shows : (words : List (List ℕ)) (files : Files) (outcome : Outcome) → command_of words ≡ Some command → IsSeen files command task
        → Writes evidence lock cert task before after said more (Ok outcome) → ShowsBy outcome files words
    shows words files Solved named seen left = record {
      command = command;
      named = named;
      shown = shown_unless (is_search command.work) (files_for command.work files) seen left;
    }
    shows words files Stale named seen left = record {
      command = command;
      named = named;
      outdone = outdone_unless (is_search command.work) refl (files_for command.work files) seen left;
    }
    shows words files Unsolved named seen left = tt
    shows words files Undecided named seen left = tt

    -- of an attempt that answered
    pub has_shown : (words : List (List ℕ)) (told : Option Files) (outcome : Outcome) → command_of words ≡ Some command
        → IfSome told (λ files. IsSeen files command task) → Writes evidence lock cert task before after said more (Ok outcome)
        → IfSome told (λ files. ShowsBy outcome files words)
    has_shown words None outcome named seen left = tt
    has_shown words (Some files) outcome named seen left = shows words files outcome named seen left

-- ---- by the answer

-- of a yes
pub shown_solved : (words : List (List ℕ)) (told : Option Files) (outcome : Outcome) → outcome ≡ Solved
    → IfSome told (λ files. ShowsBy outcome files words) → IfSome told (λ files. HasShown files words)
shown_solved words told outcome is shown = subst (λ (o : Outcome). IfSome told (λ files. ShowsBy o files words)) is shown

-- of a no
pub shown_stale : (words : List (List ℕ)) (told : Option Files) (outcome : Outcome) → outcome ≡ Stale
    → IfSome told (λ files. ShowsBy outcome files words) → IfSome told (λ files. HasOutdone files words)
shown_stale words told outcome is shown = subst (λ (o : Outcome). IfSome told (λ files. ShowsBy o files words)) is shown
