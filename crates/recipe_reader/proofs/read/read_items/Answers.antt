use Rattle.std.proofs.Common.{◌∙◌, sym, arith}
use Rattle.recipe_reader.specs.Recipes.{read_items}
use Rattle.recipe_reader.proofs.StepLaws.{items_ok_at, items_err_at, items_past}
use Rattle.recipe_reader.proofs.read.read_items.Goals as goal

pub returns-in-Err : goal.returns-in-Err
returns-in-Err c =
    let all = read_items c.args.bytes.now c.args.tokens.now 0 c.args.items.now c.args.state.now in
    items_err_at c.args.bytes.now c.args.tokens.now c.loop-i.number c.args.items.now c.loop-i.i _ c.loop-i.state all c.in-Err.fault
    c.loop-i-test.true c.loop-i.invariant.1 c.in-Err.ensures

pub loop-i-preserved : goal.loop-i-preserved
loop-i-preserved c =
    let all = read_items c.args.bytes.now c.args.tokens.now 0 c.args.items.now c.args.state.now in (
      omega (arith, c.count-number.ensures.room, c.loop-i.invariant.0),
      rw c.count-number.ensures.value (items_ok_at c.args.bytes.now c.args.tokens.now c.loop-i.number c.args.items.now c.loop-i.i _
          c.loop-i.state c.item.new.state all c.loop-i-test.true c.loop-i.invariant.1 c.in-Ok.ensures),
    )

pub returns : goal.returns
returns c =
    sym c.loop-i.invariant.1 ∙ items_past c.args.bytes.now c.args.tokens.now c.loop-i.number c.args.items.now c.loop-i.i c.loop-i.state
    c.loop-i-test.false
