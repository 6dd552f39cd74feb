-- What the answers of all roots come to.
use Rattle.std.proofs.Common.{◌≡◌, refl, ℕ, List, [], ◌∷◌, ◌++◌}
use Rattle.run_task.specs.Answer.{Answer}
use Rattle.run_task.specs.Answer.TheVariants as answers
use Rattle.run_output.specs.Each.{log_of_all, outcome_of_all}

-- roots with a graph do not decide
abbrev pub all_best : List Answer → Type 0
all_best [] = Unit {0}
all_best (answers.Best graph log ∷ more) = all_best more
all_best (answers.Nothing log ∷ more) = ⊥
all_best (answers.Undecided log ∷ more) = ⊥

-- behind graphs the other answers decide the outcome and the log
pub behind_best : (front back : List Answer) → all_best front
    → (outcome_of_all (front ++ back) ≡ outcome_of_all back) × (log_of_all (front ++ back) ≡ log_of_all back)
behind_best [] back best = (refl, refl)
behind_best (answers.Best graph log ∷ front) back best = behind_best front back best
behind_best (answers.Nothing log ∷ front) back best = absurd best
behind_best (answers.Undecided log ∷ front) back best = absurd best
