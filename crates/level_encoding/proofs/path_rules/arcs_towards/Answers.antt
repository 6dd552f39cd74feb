use Rattle.std.proofs.Common.{◌<◌, sym, subst, take}
use Rattle.std.specs.List.{All}
use Rattle.std.proofs.lemmas.List.Elements.{All-filter, All-take}
use Rattle.level_encoding.specs.declared.input.Arc.{Arc}
use Rattle.level_encoding.specs.Input.{numbers}
use Rattle.level_encoding.specs.Towards.{may_begin}
use Rattle.level_encoding.proofs.path_rules.arcs_towards.Goals as goal

pub returns-clause-within : goal.returns-clause-within
returns-clause-within c =
    let leads = λ (a : Arc). a.child < numbers c.args.input.now in
    let items = c.arcs_from-arc-items.result.now in
    subst (All leads) (sym c.loop-arc.invariant)
    (All-filter (may_begin c.args.input.now c.args.q) leads (take c.loop-arc.arc-index items)
    (All-take leads c.loop-arc.arc-index items c.arcs_from-arc-items.ensures.within))
