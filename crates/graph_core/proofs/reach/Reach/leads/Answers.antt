use Rattle.std.proofs.Common.{sym, ◌∙◌}
use Rattle.std.specs.Cmp.Lexicographic.{nat_list_cmp_total}
use Rattle.keyed_lists.proofs.OfVariantValues.Texts2.{ties_are_equal}
use Rattle.keyed_lists.proofs.KeyedLaws.{lacks_key}
use Rattle.graph_core.specs.Graphs.{name_of}
use Rattle.graph_core.proofs.PathLaws.{begins_at_node, ends_at_node, name_at, told_path, no_path}
use Rattle.graph_core.proofs.reach.Reach.leads.Goals as goal

pub returns-in_default : goal.returns-in_default
returns-in_default c = rw (← c.self.view_is)
    (no_path c.self.inside.graph.now c.args.from.now c.args.to.now
    (λ path. lacks_key nat_list_cmp_total ties_are_equal name_of _ _ _ c.in_default.ensures.place
    (begins_at_node _ c.self.invariant.graph _ _ path)))

pub returns-in_default-node_place : goal.returns-in_default-node_place
returns-in_default-node_place c = rw (← c.self.view_is)
    (no_path c.self.inside.graph.now c.args.from.now c.args.to.now
    (λ path. lacks_key nat_list_cmp_total ties_are_equal name_of _ _ _ c.in_default-node_place.ensures.place
    (ends_at_node _ c.self.invariant.graph _ _ path)))

pub returns : goal.returns
returns c =
    let at = name_at _ c.self.invariant.graph in
    let tells = c.self.invariant.table.marks _ _ _ _ (at _ _ c.in-Ok.ensures.place) (at _ _ c.in-Ok-node_place.ensures.place) in
    rw (← c.self.view_is) (told_path c.self.inside.graph.now c.args.from.now c.args.to.now _
    (λ t. tells.0 (sym c.leads.ensures ∙ t), λ path. c.leads.ensures ∙ tells.1 path))
