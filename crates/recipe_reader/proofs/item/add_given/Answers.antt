use Rattle.recipe_reader.specs.Recipes.{innermost}
use Rattle.recipe_reader.proofs.CallLaws.{added, specs_by}
use Rattle.recipe_reader.proofs.item.add_given.Goals as goal

pub returns : goal.returns
returns c =
    let around = innermost c.args.state.now.heads c.args.depth in
    added c.args.directive c.args.place c.args.number c.args.given.now c.take-own.new.self c.in_ok-when.when around c.args.state.now
    c.add.result c.add.new.state
    (specs_by _ _ _ _ _ c.innermost.ensures c.take-own.ensures.value c.in_ok-when.ensures) c.add.ensures
