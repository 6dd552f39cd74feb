-- What is asked of problems that are solved apart, and what is answered.
use Rattle.std.specs.Prelude.{◌≡◌, ◌≤◌, ℕ, true, List, length}
use Rattle.std.specs.List.{AllZip}
use Rattle.problem.specs.Problems.{Problem}
use Rattle.possible_closure.specs.Closures.{closure_of}
use Rattle.best_graph.specs.OfProblemEncoding.Kept.{has_right_values}
use Rattle.best_graph.specs.OfProblemEncoding.Limits.{is_within_limits, most_names}
use Rattle.best_graph.specs.Answers.{IsAnswer}
use Rattle.best_graph.specs.declared.answer.Answer.{Answer}

-- what `best_graph` asks of a problem
pub record IsSolvable (problem : Problem) : Type 0 where
  pub few : length (closure_of problem) ≤ most_names
  pub values : has_right_values problem ≡ true
  pub limits : is_within_limits problem ≡ true

-- as many answers as problems, at each place what `best_graph` gives of the problem there
abbrev pub AreAnswers : ℕ → List Problem → List Answer → Type 0
AreAnswers budget problems answers = AllZip (λ problem answer. IsAnswer problem budget answer) problems answers
