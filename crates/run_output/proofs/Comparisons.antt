-- Costs beside those of an optimal graph.
use Rattle.std.proofs.Common.{◌≡◌, refl, sym, ap, subst, ◌∙◌, true, false, ℕ, List}
use Rattle.std.specs.Ordering.{is_lt, nat_cmp, ordering_reverse}
use Rattle.std.specs.declared.cmp.Ordering.{Ordering}
use Rattle.std.specs.declared.cmp.Ordering.TheVariants.{Less, Equal, Greater}
use Rattle.std.specs.Cmp.Lexicographic.{slice_cmp, nat_list_cmp_total, texts_ties, same_text}
use Rattle.std.proofs.lemmas.Bool.{false≢true}
use Rattle.outside_desk.specs.Files.{Files}
use Rattle.graph_core.specs.Graphs.{Content}
use Rattle.proof_log.specs.declared.line.Line.{Line}
use Rattle.graph_rules.specs.Costs.{vector, smaller}
use Rattle.graph_rules.specs.Optimal.{IsOptimal}
use Rattle.graph_rules.specs.Valid.{valid}
use Rattle.run_task.specs.Answer.{Answer}
use Rattle.run_task.specs.Answer.TheVariants as answers
use Rattle.run_task.specs.Problems.{Problem}
use Rattle.run_task.specs.Shown.{IsBestLock, IsOutdoneLock}
use Rattle.run_task.specs.Verdicts.{HasCosts, IsValidLock}
use Rattle.run_output.specs.Evidence.{IsFor, evidence}
use Rattle.run_output.specs.Texts.{fresh_text, stale_text, undecided_line}
use Rattle.run_output.specs.Told.{IsCompared, IsOutdoneBy, IsStillBest}
use Rattle.run_output.specs.declared.answer.Outcome.TheVariants.{Solved, Stale, Undecided}

tied : (a b : List ℕ) (o : Ordering) → slice_cmp nat_cmp a b ≡ o → is_lt o ≡ false → is_lt (ordering_reverse o) ≡ false → a ≡ b
tied a b Less e below back = absurd cc
tied a b Equal e below back = same_text a b (sym (texts_ties a b ∙ rw e refl))
tied a b Greater e below back = absurd cc

-- two vectors of which neither is smaller
one_of_both : (a b : List ℕ) → smaller a b ≡ false → smaller b a ≡ false → a ≡ b
one_of_both a b below above =
    let turned : slice_cmp nat_cmp b a ≡ ordering_reverse (slice_cmp nat_cmp a b) = nat_list_cmp_total.antisymm b a in
    tied a b (slice_cmp nat_cmp a b) refl below (ap is_lt (sym turned) ∙ above)

module _ (problem : Problem) (numbers : List ℕ) (costs : HasCosts problem numbers) where
  -- no graph is valid: but one is
  pub not_nothing : (log : List Line) → IsFor problem (answers.Nothing log) → ⊥
  not_nothing log none = false≢true (sym (none.means costs.graph costs.well_formed) ∙ costs.is_valid)

  -- the budget was spent
  pub left_open : (answer : Answer) (log : List Line) (budget : ℕ) (text : List ℕ) → answer ≡ answers.Undecided log → IsFor problem answer
      → budget ≡ problem.settings.conflict_budget → text ≡ undecided_line budget → IsCompared evidence problem numbers Undecided text
  left_open answer log budget text is found same said =
      record { log = log; spent = subst (IsFor problem) is found; is_text = said ∙ ap undecided_line same }

  module _ (graph : Content) (log : List Line) (best : IsFor problem (answers.Best graph log)) (costs_of text : List ℕ)
      (is_vector : costs_of ≡ vector problem graph) where
    -- the best graph costs less
    pub outdone : smaller costs_of numbers ≡ true → text ≡ stale_text costs_of → IsCompared evidence problem numbers Stale text
    outdone less said = record {
      graph = graph;
      log = log;
      best = best;
      less = subst (λ (v : List ℕ). smaller v numbers ≡ true) is_vector less;
      is_text = said ∙ ap stale_text is_vector;
    }

    -- it does not, and no more either
    pub still_best : smaller costs_of numbers ≡ false → text ≡ fresh_text numbers → IsCompared evidence problem numbers Solved text
    still_best less said = record {
      graph = graph;
      log = log;
      best = best;
      same =
          one_of_both (vector problem graph) numbers (subst (λ (v : List ℕ). smaller v numbers ≡ false) is_vector less)
          (subst (λ (v : List ℕ). smaller v (vector problem graph) ≡ false) costs.costs
          (best.means.1.least costs.graph costs.well_formed costs.is_valid));
      is_text = said;
    }

-- ---- what that shows of a lock file whose graph has these costs

optimal_as : (problem : Problem) (best graph : Content) → IsOptimal problem best → valid problem graph ≡ true
    → vector problem graph ≡ vector problem best → IsOptimal problem graph
optimal_as problem best graph optimal is_valid same = record {
  is_valid = is_valid;
  least = λ other formed ok.
      subst (λ (costs : List ℕ). smaller (vector problem other) costs ≡ false) (sym same) (optimal.least other formed ok);
}

module _ (files : Files) (path : List ℕ) (problem : Problem) (numbers text : List ℕ) (right : IsValidLock files path problem numbers) where
  -- it is the best
  pub best_lock : IsStillBest evidence problem numbers text → IsBestLock files path problem
  best_lock told = record {
    costs = numbers;
    valid = right;
    optimal = optimal_as problem told.graph right.lock.graph told.best.means.1 right.right.is_valid (right.right.costs ∙ sym told.same);
  }

  -- another is better
  pub outdone_lock : IsOutdoneBy evidence problem numbers text → IsOutdoneLock files path problem
  outdone_lock told = record {
    costs = numbers;
    valid = right;
    best = told.graph;
    well_formed = told.best.means.0;
    optimal = told.best.means.1;
    less = told.less;
  }
