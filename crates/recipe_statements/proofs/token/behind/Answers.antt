use Rattle.std.proofs.Common.{◌∙◌, ◌+◌, arith, sym, get_or}
use Rattle.std.proofs.lemmas.List.{take_rest}
use Rattle.recipe_statements.proofs.Tokens.{nothing, drop_at, behind_more, behind_closed, behind_none}
use Rattle.recipe_statements.proofs.token.behind.Goals as goal

pub returns-in-None : goal.returns-in-None
returns-in-None c =
    let tokens = c.args.tokens.now in
    let closed = behind_closed c.loop-i.inner c.loop-i.i tokens (get_or tokens c.loop-i.i nothing)
    (drop_at tokens c.loop-i.i c.loop-i-test.true) (sym c.in-None.ensures.value) in
    rw (take_rest tokens (c.loop-i.i + 1)) (c.loop-i.invariant.1 ∙ closed)

pub loop-i-preserved : goal.loop-i-preserved
loop-i-preserved c =
    let tokens = c.args.tokens.now in
    let more = behind_more c.loop-i.inner c.in-Some.now c.loop-i.i tokens (get_or tokens c.loop-i.i nothing)
    (drop_at tokens c.loop-i.i c.loop-i-test.true) (sym c.in-Some.ensures.value) in
    (omega (arith, c.in-Some.ensures.bound, c.loop-i.invariant.0), c.loop-i.invariant.1 ∙ more)

pub returns : goal.returns
returns c = c.loop-i.invariant.1 ∙ behind_none c.loop-i.inner c.loop-i.i c.args.tokens.now c.loop-i-test.false
