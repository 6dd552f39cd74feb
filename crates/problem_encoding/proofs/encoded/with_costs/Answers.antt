use Rattle.std.proofs.Common.{sym, refl, ap, ◌∙◌, List}
use Rattle.clause_formulas.specs.declared.defined.Defined.{Defined}
use Rattle.ranked_costs.specs.Built.{rank_costs_on}
use Rattle.problem_formulas.specs.OfGraphEncoding.ProblemClauses.{ProblemClauses}
use Rattle.problem_encoding.specs.Built.{order_in}
use Rattle.problem_encoding.proofs.Same.{encoded-is}
use Rattle.problem_encoding.proofs.encoded.with_costs.Goals as goal

pub returns-clause-built : goal.returns-clause-built
returns-clause-built c =
    let p = c.args.problem.now in
    let t = c.args.rules.table in
    let made : ProblemClauses = record { list = c.args.rules.clauses; values = c.args.rules.values } in
    encoded-is p t made c.requires.ruled c.add_costs.new.clauses c.in_ok-bits.bits
    (ap (λ (values : List Defined). rank_costs_on c.args.rules.clauses p t values (order_in p t)) (sym c.as_slice.ensures)
    ∙ c.in_ok-bits.ensures.built) _ refl
