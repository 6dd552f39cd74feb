use Rattle.problem_rows.proofs.PutLaws.{put_order, put_right}
use Rattle.problem_rows.proofs.recipes.put.Goals as goal

pub returns-clause-order : goal.returns-clause-order
returns-clause-order c = rw c.in_ok-insert.ensures.new
    (put_order c.in_ok-insert.field-0 c.args.recipes.now.items c.args.recipe c.requires.order)

pub returns-clause-right : goal.returns-clause-right
returns-clause-right c = rw c.in_ok-insert.ensures.new
    (put_right c.in_ok-insert.field-0 c.args.recipes.now.items c.args.recipe c.requires.right c.requires.one)
