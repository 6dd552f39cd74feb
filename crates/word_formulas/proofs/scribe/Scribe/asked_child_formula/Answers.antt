use Rattle.std.proofs.Common.{sym, ap, ◌∙◌}
use Rattle.clause_formulas.specs.Rules.{fact}
use Rattle.graph_formulas.specs.Facts.{provides_as}
use Rattle.graph_formulas.specs.Edges.{asked_child}
use Rattle.word_formulas.specs.Builders.{given_said, plain_said}
use Rattle.word_formulas.proofs.AskedSteps.{child-provides, child-given}
use Rattle.word_formulas.proofs.Steps.{ok-same}
use Rattle.word_formulas.proofs.scribe.Scribe.asked_child_formula.Goals as goal

pub returns-then-is_virtual : goal.returns-then-is_virtual
returns-then-is_virtual c =
    let table = c.args.self.now.table.now in
    let world = c.args.world.now in
    let child = c.args.child.now in
    let asked = c.args.asked.now in
    ok-same c.provides_as.result (plain_said table (fact (provides_as asked child))) (plain_said table (asked_child world child asked))
    (child-provides table world child asked (sym c.is_virtual.ensures ∙ c.if-is_virtual.true)) c.provides_as.ensures

pub returns-else-is_virtual : goal.returns-else-is_virtual
returns-else-is_virtual c =
    c.given.ensures ∙ ap given_said c.eq.ensures
    ∙ child-given c.args.self.now.table.now c.args.world.now c.args.child.now c.args.asked.now (sym c.is_virtual.ensures ∙ c.if-is_virtual.false)
