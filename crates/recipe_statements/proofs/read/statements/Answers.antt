use Rattle.std.proofs.Common.{◌∙◌, sym}
use Rattle.recipe_statements.proofs.Tokens.{whole_start}
use Rattle.recipe_statements.proofs.read.statements.Goals as goal

pub returns-in-Ok-clause-found : goal.returns-in-Ok-clause-found
returns-in-Ok-clause-found c =
    let start = whole_start c.args.bytes.now c.args.tokens.now c.new.result.items c.new.ensures.items in
    let finished = rw (c.if-reader.true) at c.in-Ok.ensures in
    rw (c.from_vec.ensures) (sym start ∙ finished)

pub returns-in-Ok-2-clause-fault : goal.returns-in-Ok-2-clause-fault
returns-in-Ok-2-clause-fault c =
    let start = whole_start c.args.bytes.now c.args.tokens.now c.new.result.items c.new.ensures.items in
    let finished = rw (c.if-reader.false) at c.in-Ok.ensures in
    sym start ∙ finished

pub returns-in-Err-clause-fault : goal.returns-in-Err-clause-fault
returns-in-Err-clause-fault c =
    let start = whole_start c.args.bytes.now c.args.tokens.now c.new.result.items c.new.ensures.items in
    rw (sym start) c.in-Err.ensures
