use Rattle.condition_rules.proofs.BelowLaws.{told_below, not_below}
use Rattle.condition_rules.proofs.search.Below.leads_to.Goals as goal

pub returns-in-Ok : goal.returns-in-Ok
returns-in-Ok c = rw (← c.self.view_is)
    (told_below c.self.inside.graph.now c.in-Ok.ensures.graph c.self.inside.from.now c.in-Ok.place c.self.inside.marks c.args.name.now _
    c.self.invariant c.in-Ok.ensures.place c.get.ensures)

pub returns-in-Err : goal.returns-in-Err
returns-in-Err c = rw (← c.self.view_is)
    (not_below c.self.inside.graph.now c.in-Err.ensures.graph c.self.inside.from.now c.in-Err.field-0 c.args.name.now
    c.in-Err.ensures.place)
