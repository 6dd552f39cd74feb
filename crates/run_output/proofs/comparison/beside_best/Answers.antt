use Rattle.std.proofs.Common.{sym, ◌∙◌}
use Rattle.run_output.proofs.Comparisons.{outdone, still_best}
use Rattle.run_output.proofs.comparison.beside_best.Goals as goal

pub returns-in_ok-stale_text : goal.returns-in_ok-stale_text
returns-in_ok-stale_text c =
    outdone c.args.problem.now c.args.numbers.now c.requires.costs c.args.graph.now c.args._log.now c.requires.best c.in_ok-best.best _
    c.in_ok-best.ensures (sym c.is_smaller.ensures ∙ c.if-is_smaller.true) c.in_ok-stale_text.ensures

pub returns-in_ok-fresh_text : goal.returns-in_ok-fresh_text
returns-in_ok-fresh_text c =
    still_best c.args.problem.now c.args.numbers.now c.requires.costs c.args.graph.now c.args._log.now c.requires.best c.in_ok-best.best _
    c.in_ok-best.ensures (sym c.is_smaller.ensures ∙ c.if-is_smaller.false) c.in_ok-fresh_text.ensures
