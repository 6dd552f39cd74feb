use Rattle.std.proofs.Common.{◌≡◌, sym, subst, ◌∙◌, true}
use Rattle.problem.specs.Closure.{IsClosure}
use Rattle.problem_formulas.proofs.OfGraphEncoding.CallSteps.{if_both}
use Rattle.possible_closure.specs.Closures.{closure_of}
use Rattle.problem_formulas.specs.Given.{no_place}
use Rattle.ranked_costs.specs.OfTablePlan.Kept.{have_values}
use Rattle.problem_encoding.proofs.Ruled.{either_way, in-range, ruled, unplaced}
use Rattle.problem_encoding.proofs.encoded.ruled.Goals as goal

pub encode-requires : goal.encode-requires
encode-requires c =
    let closure : IsClosure c.args.problem.now c.args._closure.now =
    subst (IsClosure c.args.problem.now) (sym c.requires.closure) (c.possible_laws.ensures.least c.args.problem.now) in
    let has = c.plan_laws.ensures.values c.args.problem.now c.args._closure.now c.recipes-assembled.ensures.right c.requires.values in
    in-range c.args.problem.now c.args._closure.now closure has c.closure_laws.ensures.right c.args.table.now c.args.vars c.requires.table
    c.requires.size

pub returns-clause-ruled : goal.returns-clause-ruled
returns-clause-ruled c =
    let closure : IsClosure c.args.problem.now c.args._closure.now =
    subst (IsClosure c.args.problem.now) (sym c.requires.closure) (c.possible_laws.ensures.least c.args.problem.now) in
    let has = c.plan_laws.ensures.values c.args.problem.now c.args._closure.now c.recipes-assembled.ensures.right c.requires.values in
    if_both c.encode.result _ _ _ (λ made built values.
    ruled c.args.problem.now c.args._closure.now closure has c.requires.closure c.args.table.now c.args.vars c.values.result.now made
    c.requires.table c.requires.size (c.values.ensures.texts ∙ c.in_ok-targets.ensures) built values) c.encode.ensures.built
    c.encode.ensures.values

pub returns-clause-decodes : goal.returns-clause-decodes
returns-clause-decodes c =
    let p = c.args.problem.now in
    let has = subst (λ names. have_values p names ≡ true) c.requires.closure
    (c.plan_laws.ensures.values p c.args._closure.now c.recipes-assembled.ensures.right c.requires.values) in
    either_way c.encode.result _
    (c.closure_laws.ensures.decodes p (closure_of p) no_place (c.possible_laws.ensures.least p) has (unplaced p (closure_of p)))
