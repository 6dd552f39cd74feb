use Rattle.std.proofs.Common.{◌∙◌}
use Rattle.log_checker.specs.Signs.{sign_of}
use Rattle.log_checker.proofs.Reused.{enough-since}
use Rattle.log_checker.proofs.chain.resolve_with.Goals as goal

pub resolve-requires-clause-enough : goal.resolve-requires-clause-enough
resolve-requires-clause-enough c = enough-since c.args.uses.now (sign_of c.args.signs.now) c.args.id c.args.lits.now
    c.as_slice.result.now c.in-Some.vars.now c.requires.in_order c.requires.kept c.in-Some.ensures
    (c.as_slice.ensures.value ∙ c.in_ok-parts-in-Some.ensures)
