use Rattle.std.proofs.Common.{◌∙◌}
use Rattle.recipe_values.proofs.Tokens.{levels_more, levels_start}
use Rattle.recipe_values.proofs.levels.levels_of.Goals as goal

pub loop-i-init : goal.loop-i-init
loop-i-init c = levels_start c.args.bytes.now c.args.stop c.args.tokens.now _ _ c.ending.ensures c.new.ensures

pub loop-i-preserved : goal.loop-i-preserved
loop-i-preserved c =
    c.in_ok-add_token.ensures ∙ levels_more c.args.bytes.now c.args.stop c.loop-i.i c.args.tokens.now c.loop-i.levels c.loop-i-test.true
    c.loop-i.auto.i c.loop-i.invariant
