-- The clauses of the rules are those of the closure.
use Rattle.std.proofs.Common.{◌≡◌, sym, ap, subst, ◌∙◌, ℕ, true, List, Result, Ok, Err}
use Rattle.std.specs.Prelude.{IfOk}
use Rattle.std.proofs.lemmas.Option.{none-some}
use Rattle.graph_core.specs.Graphs.{Text}
use Rattle.problem.specs.Problems.{Problem}
use Rattle.problem.specs.Closure.{IsClosure}
use Rattle.literal_table.specs.Tables.{Table}
use Rattle.problem_formulas.specs.OfGraphEncoding.Encodings.{encode_on, told_in}
use Rattle.problem_formulas.specs.OfGraphEncoding.Best.{values_for}
use Rattle.problem_formulas.specs.OfGraphEncoding.Ranges.{AreInRange}
use Rattle.problem_formulas.specs.OfGraphEncoding.ProblemClauses.{ProblemClauses}
use Rattle.problem_formulas.proofs.OfGraphEncoding.CallSteps.{ranges_of}
use Rattle.problem_formulas.specs.OfGraphDecoding.Decoding.{decode}
use Rattle.ranked_costs.specs.OfTablePlan.Kept.{have_values}
use Rattle.ranked_costs.specs.OfValidModels.Tables.{table_for, size_for}
use Rattle.ranked_costs.specs.OfValidModels.Targets.{conditions_of, targets_of}
use Rattle.ranked_costs.specs.OfValidModels.Joined.{IsPlaced, holds_at}
use Rattle.ranked_costs.specs.OfValidModels.Closures.{closure_formulas, ClosureIsRight}
use Rattle.problem_formulas.specs.Given.{no_place, formulas_given}
use Rattle.ranked_costs.specs.OfValidModels.Closures.{closure_clauses}
use Rattle.ranked_costs.specs.Ranked.{closure_values}
use Rattle.possible_closure.specs.Closures.{closure_of}
use Rattle.problem_encoding.specs.Encodings.{IsRuled}

-- what holds whatever was answered
pub either_way : {A E : Type 0} (r : Result A E) (P : Type 0) → P → IfOk r (λ x. P)
either_way (Ok x) P holds = holds
either_way (Err e) P holds = tt

-- no condition has a place
pub unplaced : (problem : Problem) (names : List Text) → IsPlaced (conditions_of problem (table_for problem names)) no_place
unplaced problem names name when k e = absurd (none-some k e)

-- what is made over some closed names
abbrev Over : Problem → Table → ProblemClauses → List Text → Type 0
Over problem t made names =
    IsClosure problem names × (have_values problem names ≡ true) × (t ≡ table_for problem names)
    × (made.list ≡ closure_clauses problem names no_place) × (made.values ≡ closure_values problem names no_place)

module _ (problem : Problem) (names : List Text) (closure : IsClosure problem names) (has : have_values problem names ≡ true) where
  -- the formulas are over the variables of the table
  pub in-range : ClosureIsRight → (t : Table) (n : ℕ) → t ≡ table_for problem names → n ≡ size_for problem names
      → AreInRange t n (formulas_given problem t)
  in-range right t n e s =
      let b = right problem names no_place closure has (unplaced problem names) in
      let direct : AreInRange (table_for problem names) (size_for problem names) (formulas_given problem (table_for problem names)) =
      ranges_of problem (table_for problem names) (size_for problem names) (closure_formulas problem names no_place)
      (λ v. decode v (table_for problem names)) (told_in (table_for problem names) (targets_of problem (table_for problem names)))
      (holds_at problem (conditions_of problem (table_for problem names))) b.0 b.1 in
      subst (λ u. AreInRange u n (formulas_given problem u)) (sym e)
      (subst (λ m. AreInRange (table_for problem names) m (formulas_given problem (table_for problem names))) (sym s) direct)

  over : (t : Table) (n : ℕ) (targets : List Text) (made : ProblemClauses) → t ≡ table_for problem names → n ≡ size_for problem names
      → targets ≡ targets_of problem t → encode_on problem t n (formulas_given problem t) targets ≡ made.list
      → made.values ≡ values_for problem t n (formulas_given problem t) targets → Over problem t made names
  over t n targets made e s w built values = (
    closure,
    has,
    e,
    sym built ∙ (λ i. encode_on problem (e i) (s i) (formulas_given problem (e i)) ((w ∙ ap (targets_of problem) e) i)),
    values ∙ (λ i. values_for problem (e i) (s i) (formulas_given problem (e i)) ((w ∙ ap (targets_of problem) e) i)),
  )

  -- the clauses that are made are those of the closure
  pub ruled : names ≡ closure_of problem → (t : Table) (n : ℕ) (targets : List Text) (made : ProblemClauses)
      → t ≡ table_for problem names → n ≡ size_for problem names → targets ≡ targets_of problem t
      → encode_on problem t n (formulas_given problem t) targets ≡ made.list
      → made.values ≡ values_for problem t n (formulas_given problem t) targets
      → IsRuled problem t made
  ruled same t n targets made e s w built values =
      let all : Over problem t made (closure_of problem) = subst (Over problem t made) same (over t n targets made e s w built values) in
      record {
        closure = all.0;
        has = all.1;
        is_table = all.2;
        clauses = all.3;
        values = all.4;
      }
