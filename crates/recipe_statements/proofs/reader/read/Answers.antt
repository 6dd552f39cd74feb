use Rattle.std.proofs.Common.{◌∙◌, ◌+◌, sym, get_or}
use Rattle.recipe_statements.specs.Inside.{view}
use Rattle.recipe_statements.proofs.Tokens.{nothing, drop_at, step_keeps, ok_keeps, err_fails, whole_end}
use Rattle.recipe_statements.proofs.reader.read.Goals as goal

pub returns-in-Err : goal.returns-in-Err
returns-in-Err c =
    let tokens = c.args.tokens.now in
    let keeps = step_keeps c.args.bytes.now tokens c.loop-i.i (view c.loop-i.reader) (get_or tokens c.loop-i.i nothing) c.loop-i.invariant.0
    c.loop-i-test.true (drop_at tokens c.loop-i.i c.loop-i-test.true) in
    rw (sym (c.loop-i.invariant.2)) (err_fails c.in-Err.fault c.args.bytes.now tokens (c.loop-i.i + 1) _ _ c.in-Err.ensures.step keeps)

pub loop-i-preserved : goal.loop-i-preserved
loop-i-preserved c =
    let tokens = c.args.tokens.now in
    let keeps = step_keeps c.args.bytes.now tokens c.loop-i.i (view c.loop-i.reader) (get_or tokens c.loop-i.i nothing) c.loop-i.invariant.0
    c.loop-i-test.true (drop_at tokens c.loop-i.i c.loop-i-test.true) in
    let now = ok_keeps c.in-Ok.field-0 c.take_token.new.reader c.args.bytes.now tokens (c.loop-i.i + 1) _ _ c.in-Ok.ensures.step keeps in
    (c.in-Ok.ensures.first, c.in-Ok.ensures.room, now ∙ c.loop-i.invariant.2)

pub returns : goal.returns
returns c =
    sym c.loop-i.invariant.2 ∙ whole_end c.args.bytes.now c.args.tokens.now c.loop-i.i (view c.loop-i.reader) c.loop-i-test.false
