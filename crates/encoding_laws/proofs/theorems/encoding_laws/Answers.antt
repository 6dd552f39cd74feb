use Rattle.possible_closure.specs.Closures.{closure_of}
use Rattle.problem_formulas.specs.Given.{no_place}
use Rattle.encoding_laws.proofs.Budgets.{same-encoding, same-rules}
use Rattle.encoding_laws.proofs.EachProblem.{encoded}
use Rattle.encoding_laws.proofs.OrderedEncodings.{all_ordered, rules_ordered}
use Rattle.problem_encoding.proofs.Ruled.{unplaced}
use Rattle.encoding_laws.proofs.theorems.encoding_laws.Goals as goal

pub returns : goal.returns
returns c = record {
  rules = λ problem assembled values.
      c.closure_laws.ensures.decodes problem (closure_of problem) no_place (c.possible_laws.ensures.least problem)
      (c.plan_laws.ensures.values problem (closure_of problem) assembled values) (unplaced problem (closure_of problem));
  all = λ problem assembled values limits few.
      encoded problem (c.possible_laws.ensures.least problem) (c.plan_laws.ensures.values problem (closure_of problem) assembled values)
      limits few c.costs_laws.ensures.range c.costs_laws.ensures.small c.costs_laws.ensures.ranks c.costs_laws.ensures.spells
      c.closure_laws.ensures.structured c.order_laws.ensures.each;
  budget_rules = same-rules;
  budget = same-encoding;
  ordered_rules = rules_ordered;
  ordered = all_ordered;
}
