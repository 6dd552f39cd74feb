-- What the code makes is the encoding of the definition.
use Rattle.std.proofs.Common.{◌≡◌, sym, ◌∙◌}
use Rattle.clause_store.specs.Clauses.{Clauses}
use Rattle.criteria_totals.specs.Totals.{Spelling}
use Rattle.problem.specs.Problems.{Problem}
use Rattle.literal_table.specs.Tables.{Table}
use Rattle.ranked_costs.specs.Built.{rank_costs_on}
use Rattle.problem_formulas.specs.OfGraphEncoding.ProblemClauses.{ProblemClauses}
use Rattle.problem_encoding.specs.Built.{order_in, encoding_of}
use Rattle.problem_encoding.specs.Encodings.{IsRuled}
use Rattle.problem_encoding.specs.declared.encoded.Encoded.{Encoded}

module _ (problem : Problem) (t : Table) (made : ProblemClauses) (ruled : IsRuled problem t made) where
  -- what is made is the encoding of the definition
  pub encoded-is : (new : Clauses) (bits : Spelling)
      → rank_costs_on made.list problem t made.values (order_in problem t) ≡ record { list = new; answer = bits }
      → (e : Encoded) → e ≡ record { clauses = new; bits = bits; table = t } → e ≡ encoding_of problem
  unfolding encoding_of
  encoded-is new bits built e is =
      let given = sym built
      ∙ (λ i. rank_costs_on (ruled.clauses i) problem (ruled.is_table i) (ruled.values i) (order_in problem (ruled.is_table i))) in
      is ∙ λ i. record { clauses = (given i).list; bits = (given i).answer; table = ruled.is_table i }
