use Rattle.clause_watch.proofs.Around.{none-behind}
use Rattle.clause_watch.proofs.pick.open_behind.Goals as goal

pub returns-clause-none : goal.returns-clause-none
returns-clause-none c =
    none-behind c.args.trail.now.placed c.args.codes.now c.args.from c.args.other c.open_between.result c.open_between.ensures.none
