use Rattle.recipe_reader.specs.Recipes.{innermost}
use Rattle.recipe_reader.proofs.CallLaws.{called}
use Rattle.recipe_reader.proofs.item.call.Goals as goal

pub returns : goal.returns
returns c =
    let around = innermost c.args.state.now.heads c.args.depth in
    called c.args.bytes.now c.args.directive c.args.place c.args.number c.args.segments _ around c.args.state.now _ c.in_ok-given.given
    c.add_given.result c.add_given.new.state
    c.innermost.ensures c.in_ok-may_stand.ensures c.in_ok-given.ensures c.add_given.ensures
