use Rattle.std.proofs.Common.{◌∙◌, ◌+◌, sym}
use Rattle.recipe_values.proofs.Joins.{gives_ok, gives_err}
use Rattle.recipe_values.proofs.Texts.{byte_more, byte_fails, bytes_end}
use Rattle.recipe_values.proofs.text.add_decoded.Goals as goal

pub returns-in-Err : goal.returns-in-Err
returns-in-Err c =
    let l = c.loop-i in
    let bytes = c.args.bytes.now in
    sym l.invariant ∙ byte_fails l.text.items c.args.place l.i c.in-Err.place l.taken bytes c.loop-i-test.true
    (gives_err _ _ _ _ c.in-Err.is c.in_ok-add_byte.ensures)

pub loop-i-preserved : goal.loop-i-preserved
loop-i-preserved c =
    let l = c.loop-i in
    let bytes = c.args.bytes.now in
    let more = byte_more l.text.items c.add_byte.new.text.items c.args.place l.i l.taken bytes c.loop-i-test.true
    (gives_ok _ _ _ _ c.in-Ok.is c.in_ok-add_byte.ensures) in
    rw c.takes-taken.ensures (sym more ∙ l.invariant)

pub returns : goal.returns
returns c =
    let l = c.loop-i in
    sym l.invariant ∙ bytes_end l.text.items (c.args.place + l.i) l.i l.taken c.args.bytes.now c.loop-i-test.false
