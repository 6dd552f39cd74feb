-- What the clauses of a run come to.
use Rattle.std.proofs.Common.{◌≡◌, inl, inr, refl, sym, ap, subst, ◌∙◌, cond, Bool, true, false, arith, ℕ, zero, suc, ◌<◌, length, List, [], ◌∷◌, Option, Some}
use Rattle.std.specs.List.{slice_index_or}
use Rattle.std.specs.Prelude.{IsSomeAnd}
use Rattle.std.specs.FinMap.{get, insert, get-insert}
use Rattle.std.specs.Cmp.Lexicographic.{nat_list_cmp_total}
use Rattle.std.specs.Str.{bytes_eq}
use Rattle.std.proofs.lemmas.Map.Text.{is_eq-slice_cmp}
use Rattle.std.proofs.lemmas.Slice.Eq.{bytes_eq-Decides}
use Rattle.std.proofs.lemmas.Bool.{false≢true}
use Rattle.outside_desk.specs.Files.{Files, and_said, with_file}
use Rattle.run_output.specs.Graphs.{Content}
use Rattle.run_output.specs.Optimal.{IsOptimal, HasNoGraph}
use Rattle.run_output.specs.Nodes.{IsWellFormed}
use Rattle.run_output.specs.Problems.{Problem}
use Rattle.run_output.specs.Explanations.{Explains}
use Rattle.run_output.specs.LeastLists.{ExplainsLeast, HaveGraphs}
use Rattle.run_output.specs.Readings.{log_text}
use Rattle.run_output.specs.Costs.{vector, smaller}
use Rattle.run_output.specs.Valid.{valid_for}
use Rattle.run_output.specs.Answers.{HasNone, HasSpent, IsBudgetSpent, IsFinished, IsSolved, IsUnsolved}
use Rattle.run_output.specs.Put.{with_cert, with_cert_by}
use Rattle.run_output.specs.Line.{Line}
use Rattle.run_output.specs.Exits.{Spoken}
use Rattle.run_output.specs.Refusals.{line_of_refusal}
use Rattle.run_output.specs.Status.{Status}
use Rattle.run_output.specs.Status.TheVariants as statuses
use Rattle.run_output.specs.Explanation.{Explanation}
use Rattle.run_output.specs.Explanation.TheVariants as explanations
use Rattle.run_output.specs.Input.{Input}
use Rattle.run_output.specs.LeastExplanation.{LeastExplanation}
use Rattle.run_output.specs.LeastExplanation.TheVariants as least
use Rattle.run_output.specs.LeastTexts.{least_explanation_text, least_outcome}
use Rattle.run_output.specs.Locks.{lock_of}
use Rattle.run_output.specs.Senses.{meaning}
use Rattle.run_output.specs.Shown.{IsBestLock, IsOutdoneLock, IsShownOver, IsShownUnless, OutdoneBy, ShownBy}
use Rattle.run_output.specs.Task.{Task}
use Rattle.run_output.specs.Task.TheVariants as tasks
use Rattle.run_output.specs.Tasks.{files_for, is_search}
use Rattle.run_output.specs.Texts.{explanation_outcome, explanation_text}
use Rattle.run_output.specs.Told.{IsTold}
use Rattle.run_output.specs.Words.{Command, command_of, cert_path, is_dash_path, lock_of_command, lock_path}
use Rattle.run_output.specs.Work.{Work}
use Rattle.run_output.specs.Work.TheVariants as works
use Rattle.run_output.specs.declared.answer.Outcome.TheVariants as outcomes
use Rattle.concretizer.specs.Headline.{HasOutdone, HasShown, IsDone, IsRefused, IsUndecided, IsUnsatisfiable, Settles}
use Rattle.headline_laws.specs.Sentences.{AreUnmetAlone, HasGraph, IsBeaten, IsCheapest, IsCheapestAt, IsLeastAlone, LeavesCheapest, Reads, demands_with, others, IsSettled, IsSpent, IsTurnedAway}
use Rattle.headline_laws.specs.Sentences as said
use Rattle.headline_laws.proofs.Posed.{explain, reasons, same_command, solve}

-- an optimal graph is a cheapest one
cheapest : (problem : Problem) (graph : Content) → IsWellFormed graph → IsOptimal problem graph → IsCheapest problem graph
cheapest problem graph formed optimal = record { well_formed = formed; is_valid = optimal.is_valid; least = optimal.least }

none_of : (problem : Problem) → HasNoGraph problem → said.HasNone problem
none_of problem none = λ graph formed valid. false≢true (sym (none graph formed) ∙ valid)

-- ---- what LOCK holds

put_last : (m : Files) (path bytes : List ℕ) → get (insert m path bytes) path ≡ Some bytes
put_last m path bytes =
    let e : bytes_eq path path ≡ true = (bytes_eq-Decides path path).1 refl in
    get-insert nat_list_cmp_total m path bytes path ∙ ap (λ b. cond b (Some bytes) (get m path)) (is_eq-slice_cmp path path ∙ e)

put_in : (before : Option Files) (path bytes : List ℕ) (m : Files) → before ≡ Some m
    → IsSomeAnd (with_file before path bytes) (λ files. get files path ≡ Some bytes)
put_in before path bytes m e = rw e (put_last m path bytes)

-- a certificate leaves files where there were some
with_cert_some : (dash : Bool) (cert : List ℕ) (log : List Line) (files : Files)
    → (m : Files) × (with_cert_by dash cert log (Some files) ≡ Some m)
with_cert_some true cert log files = (files, refl)
with_cert_some false cert log files = (insert files cert (log_text log), refl)

module _ (files : Files) (words : List (List ℕ)) (command : Command) (is : command_of words ≡ Some command) where
  -- ---- `concretize`

  at_lock : lock_path words ≡ command.lock
  at_lock = ap lock_of_command is

  module _ (after : Option Files) (out err : Spoken) where
    leaves : (problem : Problem) (lock cert : List ℕ) → lock ≡ command.lock
        → IsSolved meaning lock cert problem (Some files) after out.0 out.1 → LeavesCheapest after command.lock problem
    leaves problem lock cert same solved =
        let (m, kept) = with_cert_some (is_dash_path cert) cert solved.log files in
        let put : IsSomeAnd (with_file (with_cert cert solved.log (Some files)) lock (lock_of problem solved.graph))
        (λ left. get left lock ≡ Some (lock_of problem solved.graph)) =
        put_in (with_cert cert solved.log (Some files)) lock (lock_of problem solved.graph) m kept in
        record {
          graph = solved.graph;
          cheapest = cheapest problem solved.graph solved.best.0 solved.best.1;
          lock =
              subst (λ (left : Option Files). IsSomeAnd left (λ files. get files command.lock ≡ Some (lock_of problem solved.graph)))
              (sym solved.files)
              (subst (λ (path : List ℕ). IsSomeAnd (with_file (with_cert cert solved.log (Some files)) lock (lock_of problem solved.graph))
              (λ left. get left path ≡ Some (lock_of problem solved.graph))) same put);
        }

    -- Done by `concretize`: LOCK holds a cheapest valid graph
    pub concretized : command.work ≡ works.Concretize → IsDone meaning files words after out err
        → Reads files command (LeavesCheapest after command.lock)
    concretized work done =
        let posed = solve files words command is done.task done.read work in
        let finished : IsSolved meaning (lock_path words) (cert_path words) posed.input.problem (Some files) after out.0 out.1 =
        subst (λ (task : Task). IsFinished meaning (lock_path words) (cert_path words) task (Some files) after out.0 out.1)
        posed.is_task done.finished in
        record {
          input = posed.input;
          read = posed.read;
          holds = leaves posed.input.problem (lock_path words) (cert_path words) at_lock finished;
        }

    -- Unsatisfiable by `concretize`: no graph is valid
    pub none : command.work ≡ works.Concretize → IsUnsatisfiable meaning files words after out err → Reads files command said.HasNone
    none work unsatisfiable =
        let posed = solve files words command is unsatisfiable.task unsatisfiable.read work in
        let unsolved : IsUnsolved meaning (cert_path words) posed.input.problem (Some files) after out.0 out.1 =
        subst (λ (task : Task). HasNone meaning (lock_path words) (cert_path words) task (Some files) after out.0 out.1)
        posed.is_task unsatisfiable.none in
        record { input = posed.input; read = posed.read; holds = none_of posed.input.problem unsolved.none }

    -- Undecided by `concretize`: the budget was spent
    pub undecided : command.work ≡ works.Concretize → IsUndecided meaning files words after out err → Reads files command IsSpent
    undecided work undone =
        let posed = solve files words command is undone.task undone.read work in
        let spent : IsBudgetSpent meaning (cert_path words) posed.input.problem (Some files) after out.0 out.1 =
        subst (λ (task : Task). HasSpent meaning (lock_path words) (cert_path words) task (Some files) after out.0 out.1)
        posed.is_task undone.spent in
        record {
          input = posed.input;
          read = posed.read;
          holds = record { lines = spent.log; more = spent.spent.0; finite = spent.spent.1 };
        }

    -- ---- `explain` and `reasons`

    told_done : (input : Input) → IsTold meaning (tasks.Explain input) outcomes.Solved (Some files) after out.0 out.1
        → HasGraph input.problem
    told_done input told = by_explanation told.tells.explanation told.tells.explains told.tells.is_outcome
      where
        by_explanation : (e : Explanation) → Explains input.problem input.problem.settings.conflict_budget e
            → outcomes.Solved ≡ explanation_outcome e → HasGraph input.problem
        by_explanation explanations.Satisfiable has is = (has.graph, has.well_formed, has.is_valid)
        by_explanation (explanations.Unmet numbers log) has is = absurd (let no : outcomes.Solved ≡ outcomes.Unsolved = is in cc)
        by_explanation (explanations.Undecided log) has is = absurd (let no : outcomes.Solved ≡ outcomes.Undecided = is in cc)

    told_none : (input : Input) → IsTold meaning (tasks.Explain input) outcomes.Unsolved (Some files) after out.0 out.1
        → AreUnmetAlone out input.problem
    told_none input told = by_explanation told.tells.explanation told.tells.explains told.tells.is_outcome told.tells.is_text
      where
        by_explanation : (e : Explanation) → Explains input.problem input.problem.settings.conflict_budget e
            → outcomes.Unsolved ≡ explanation_outcome e → told.text ≡ explanation_text input.problem e → AreUnmetAlone out input.problem
        by_explanation explanations.Satisfiable has is text = absurd (let no : outcomes.Unsolved ≡ outcomes.Solved = is in cc)
        by_explanation (explanations.Unmet numbers log) has is text = record {
          numbers = numbers;
          said = told.out ∙ ap (and_said out.0) text;
          unmet = has.alone;
        }
        by_explanation (explanations.Undecided log) has is text = absurd (let no : outcomes.Unsolved ≡ outcomes.Undecided = is in cc)

    -- Done by `explain`: some graph is valid
    pub satisfiable : command.work ≡ works.Explain → IsDone meaning files words after out err → Reads files command HasGraph
    satisfiable work done =
        let posed = explain files words command is done.task done.read work in
        let told : IsTold meaning (tasks.Explain posed.input) outcomes.Solved (Some files) after out.0 out.1 =
        subst (λ (task : Task). IsFinished meaning (lock_path words) (cert_path words) task (Some files) after out.0 out.1)
        posed.is_task done.finished in
        record { input = posed.input; read = posed.read; holds = told_done posed.input told }

    -- Unsatisfiable by `explain`: no graph is valid for the demands that were said
    pub explained : command.work ≡ works.Explain → IsUnsatisfiable meaning files words after out err
        → Reads files command (AreUnmetAlone out)
    explained work unsatisfiable =
        let posed = explain files words command is unsatisfiable.task unsatisfiable.read work in
        let told : IsTold meaning (tasks.Explain posed.input) outcomes.Unsolved (Some files) after out.0 out.1 =
        subst (λ (task : Task). HasNone meaning (lock_path words) (cert_path words) task (Some files) after out.0 out.1)
        posed.is_task unsatisfiable.none in
        record { input = posed.input; read = posed.read; holds = told_none posed.input told }

    -- each demand of a list has its graph
    graph_at : (problem : Problem) (all numbers : List ℕ) (graphs : List Content) (k number : ℕ) → HaveGraphs problem all numbers graphs
        → k < length numbers → slice_index_or numbers k number ≡ number
        → (graph : Content) × IsWellFormed graph × (valid_for (demands_with problem (others number all)) problem graph ≡ true)
    graph_at problem all [] graphs k number have below at = absurd (let wrong : k < 0 = below in omega arith)
    graph_at problem all (n ∷ ns) [] k number have below at = absurd have
    graph_at problem all (n ∷ ns) (g ∷ gs) zero number (first, more) below at =
        subst (λ (m : ℕ). (graph : Content) × IsWellFormed graph × (valid_for (demands_with problem (others m all)) problem graph ≡ true))
        at (g, first.well_formed, first.is_valid)
    graph_at problem all (n ∷ ns) (g ∷ gs) (suc k) number (first, more) below at =
        graph_at problem all ns gs k number more (omega arith) at

    told_least : (input : Input) → IsTold meaning (tasks.Reasons input) outcomes.Unsolved (Some files) after out.0 out.1
        → IsLeastAlone out input.problem
    told_least input told = by_explanation told.tells.explanation told.tells.explains told.tells.is_outcome told.tells.is_text
      where
        by_explanation : (e : LeastExplanation) → ExplainsLeast input.problem input.problem.settings.conflict_budget e
            → outcomes.Unsolved ≡ least_outcome e → told.text ≡ least_explanation_text input.problem e → IsLeastAlone out input.problem
        by_explanation least.Satisfiable has is text = absurd (let no : outcomes.Unsolved ≡ outcomes.Solved = is in cc)
        by_explanation (least.Least numbers graphs) has is text = record {
          numbers = numbers;
          graphs = graphs;
          said = told.out ∙ ap (and_said out.0) text;
          unmet = has.unmet.alone;
          needed = λ number (k, below, at). graph_at input.problem numbers numbers graphs k number has.each_needed below at;
        }
        by_explanation (least.Undecided numbers log) has is text = absurd (let no : outcomes.Unsolved ≡ outcomes.Undecided = is in cc)

    -- Unsatisfiable by `reasons`: so it is, and for all of them but one a graph is
    pub reduced : command.work ≡ works.Reasons → IsUnsatisfiable meaning files words after out err → Reads files command (IsLeastAlone out)
    reduced work unsatisfiable =
        let posed = reasons files words command is unsatisfiable.task unsatisfiable.read work in
        let told : IsTold meaning (tasks.Reasons posed.input) outcomes.Unsolved (Some files) after out.0 out.1 =
        subst (λ (task : Task). HasNone meaning (lock_path words) (cert_path words) task (Some files) after out.0 out.1)
        posed.is_task unsatisfiable.none in
        record { input = posed.input; read = posed.read; holds = told_least posed.input told }

  -- ---- the yes of `check`, `fresh` and `refute`, and the no of `fresh`

  best_lock : (problem : Problem) → IsBestLock files command.lock problem → IsCheapestAt files command.lock problem
  best_lock problem best = record {
    costs = best.costs;
    valid = best.valid;
    holds = record { well_formed = best.valid.right.well_formed; is_valid = best.optimal.is_valid; least = best.optimal.least };
  }

  outdone_lock : (problem : Problem) → IsOutdoneLock files command.lock problem → IsBeaten files command.lock problem
  outdone_lock problem outdone = record {
    costs = outdone.costs;
    valid = outdone.valid;
    holds = record {
      well_formed = outdone.valid.right.well_formed;
      is_valid = outdone.valid.right.is_valid;
      other = outdone.best;
      other_formed = outdone.well_formed;
      other_valid = outdone.optimal.is_valid;
      less = subst (λ (costs : List ℕ). smaller (vector problem outdone.best) costs ≡ true) (sym outdone.valid.right.costs) outdone.less;
    };
  }

  -- what is shown of a command is so of its work
  shown_by : HasShown files words → (work : Work) → command.work ≡ work
      → IsShownUnless (ShownBy work) (is_search work) (files_for work files) command
  shown_by shown work same =
      subst (λ (w : Work). IsShownUnless (ShownBy w) (is_search w) (files_for w files) command) same
      (subst (λ (c : Command). IsShownUnless (ShownBy c.work) (is_search c.work) (files_for c.work files) c)
      (same_command files words command is shown.command shown.named) shown.shown)

  outdone_by : HasOutdone files words → (work : Work) → command.work ≡ work → IsShownOver (OutdoneBy work) (files_for work files) command
  outdone_by shown work same =
      subst (λ (w : Work). IsShownOver (OutdoneBy w) (files_for w files) command) same
      (subst (λ (c : Command). IsShownOver (OutdoneBy c.work) (files_for c.work files) c)
      (same_command files words command is shown.command shown.named) shown.outdone)

  -- Done by `check`: LOCK holds a cheapest valid graph
  pub checked : command.work ≡ works.Check → HasShown files words → Reads files command (IsCheapestAt files command.lock)
  checked work shown = let over = shown_by shown works.Check work in
      record { input = over.input; read = over.read; holds = best_lock over.input.problem over.shown }

  -- Done by `fresh`: so it does
  pub fresh : command.work ≡ works.Fresh → HasShown files words → Reads files command (IsCheapestAt files command.lock)
  fresh work shown = let over = shown_by shown works.Fresh work in
      record { input = over.input; read = over.read; holds = best_lock over.input.problem over.shown }

  -- Stale by `fresh`: a valid graph costs less than that of LOCK
  pub stale : command.work ≡ works.Fresh → HasOutdone files words → Reads files command (IsBeaten files command.lock)
  stale work shown = let over = outdone_by shown works.Fresh work in
      record { input = over.input; read = over.read; holds = outdone_lock over.input.problem over.shown }

  -- Done by `refute`: no graph is valid
  pub refuted : command.work ≡ works.Refute → HasShown files words → Reads files command said.HasNone
  refuted work shown = let over = shown_by shown works.Refute work in
      record { input = over.input; read = over.read; holds = none_of over.input.problem over.shown }

-- ---- refusals, and what is answered

-- a refusal changes no file, and is the one line that was said
pub refused : (files : Files) (words : List (List ℕ)) (answer : Status) (after : Option Files) (out err : Spoken)
    → IsRefused meaning files words answer after out err → IsTurnedAway files after out err
refused files words answer after out err away = record {
  unchanged = away.unchanged;
  output = away.output;
  line = line_of_refusal away.refusal;
  errors = away.errors;
}

-- an answer that settles a run is one of these five
pub settled : (status : Status) → Settles status → IsSettled status
settled statuses.Done is = inl refl
settled statuses.Unsatisfiable is = inr (inl refl)
settled statuses.Undecided is = inr (inr (inl refl))
settled statuses.Stale is = inr (inr (inr (inl refl)))
settled statuses.NoMemory is = inr (inr (inr (inr refl)))
settled other is = absurd is
