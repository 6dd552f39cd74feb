-- One root by itself has what all roots together have.
use Rattle.std.proofs.Common.{◌≡◌, ℕ, ◌≤◌, arith, true, length}
use Rattle.std.specs.Prelude.{slice_get, Some}
use Rattle.spec_grammar.specs.declared.part.Spec.{Spec}
use Rattle.problem.specs.Problems.{Problem, alone, each_alone}
use Rattle.problem.specs.Limits.{is_within_limits}
use Rattle.problem.proofs.AssembledLaws.{root_apart}
use Rattle.possible_closure.specs.Closures.{closure_of}
use Rattle.best_graph.specs.OfProblemEncoding.Kept.{has_right_values}
use Rattle.run_input.specs.Inputs.{IsPosed}
use Rattle.run_input.specs.declared.input.Input.{Input}

values_of_root : (problem : Problem) (root : Spec) → has_right_values problem ≡ true → has_right_values (alone problem root) ≡ true
unfolding has_right_values
values_of_root problem root right = right

limits_of_root : (problem : Problem) (root : Spec) → is_within_limits problem ≡ true → is_within_limits (alone problem root) ≡ true
unfolding is_within_limits
limits_of_root problem root within = within

-- externals and records have values
pub same_values : (problem : Problem) (place : ℕ) (one : Problem) → slice_get (each_alone problem) place ≡ Some one
    → has_right_values problem ≡ true → has_right_values one ≡ true
same_values problem place one is right =
    let given = root_apart problem place one is in rw given.2 (values_of_root problem given.0 right)

-- the counts are within the limits
pub same_limits : (problem : Problem) (place : ℕ) (one : Problem) → slice_get (each_alone problem) place ≡ Some one
    → is_within_limits problem ≡ true → is_within_limits one ≡ true
same_limits problem place one is within =
    let given = root_apart problem place one is in rw given.2 (limits_of_root problem given.0 within)

abbrev pub FewerNames : Type 0
FewerNames = (problem : Problem) (place : ℕ) (one : Problem) → slice_get (each_alone problem) place ≡ Some one
    → length (closure_of one) ≤ length (closure_of problem)

-- so what is read of one root by itself is posed
pub posed_alone : FewerNames → (whole one : Input) (place : ℕ) → IsPosed whole
    → slice_get (each_alone whole.problem) place ≡ Some one.problem
    → one.closure ≡ closure_of one.problem → IsPosed one
posed_alone fewer whole one place posed is names =
    let fewer_names = fewer whole.problem place one.problem is in
    let few : length (closure_of whole.problem) ≤ 1024 = posed.1 in (
      names,
      omega (arith, fewer_names, few),
      same_values whole.problem place one.problem is posed.2,
      same_limits whole.problem place one.problem is posed.3,
    )

-- there are not too many names
pub not_too_many : FewerNames → (whole one : Problem) (place : ℕ) → length (closure_of whole) ≤ 1024
    → slice_get (each_alone whole) place ≡ Some one
    → length (closure_of one) ≤ 1024
not_too_many fewer whole one place few is =
    let fewer_names = fewer whole place one is in omega (arith, fewer_names, few)
