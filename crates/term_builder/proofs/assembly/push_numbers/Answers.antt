use Rattle.cost_terms.specs.Sums.{number_terms}
use Rattle.term_builder.specs.Held.{held_in}
use Rattle.cost_terms.specs.Terms.{terms_of}
use Rattle.term_builder.proofs.Assembled.{pushed}
use Rattle.term_builder.proofs.assembly.push_numbers.Goals as goal

pub loop-criterion-preserved : goal.loop-criterion-preserved
loop-criterion-preserved c =
    pushed (λ criterion. number_terms c.args.built c.args.table.now c.args.order.now
    (terms_of c.args.problem.now c.args.table.now (held_in c.args.held.now) criterion)) c.args.criteria.now
    c.loop-criterion.criterion-index _ c.in_ok-terms.terms.items c.from_vec.result c.loop-criterion.lists.items c.push.new.self.items _
    c.loop-criterion-test.true c.in_ok-terms.ensures c.from_vec.ensures c.in_ok-push.ensures.items c.loop-criterion.invariant
