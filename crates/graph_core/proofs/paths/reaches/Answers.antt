use Rattle.std.proofs.lemmas.List.{length-map}
use Rattle.std.specs.Cmp.Lexicographic.{nat_list_cmp_total}
use Rattle.keyed_lists.proofs.OfVariantValues.Texts2.{ties_are_equal}
use Rattle.keyed_lists.proofs.OfReachability.HeadLaws.{numbers_within}
use Rattle.keyed_lists.proofs.KeyedLaws.{lacks_key}
use Rattle.graph_core.specs.Graphs.{name_of}
use Rattle.graph_core.proofs.PathLaws.{begins_at_node, ends_at_node, told_by_mark, told_path, no_path}
use Rattle.graph_core.proofs.paths.reaches.Goals as goal

pub returns-in_default : goal.returns-in_default
returns-in_default c = no_path c.args.graph.now c.args.from.now c.args.to.now
    (λ path. lacks_key nat_list_cmp_total ties_are_equal name_of _ _ _ c.in_default.ensures.place
    (begins_at_node _ c.in_default.ensures.graph _ _ path))

pub returns-in_default-node_place : goal.returns-in_default-node_place
returns-in_default-node_place c = no_path c.args.graph.now c.args.from.now c.args.to.now
    (λ path. lacks_key nat_list_cmp_total ties_are_equal name_of _ _ _ c.in_default-node_place.ensures.place
    (ends_at_node _ c.in_default-node_place.ensures.graph _ _ path))

pub heads_of-requires : goal.heads_of-requires
heads_of-requires c = rw (c.as_slice.ensures.value, c.nodes.ensures.nodes, ← length-map c.args.graph.now.nodes name_of)
    (numbers_within _ _ _ c.in_ok-arcs.ensures)

pub returns : goal.returns
returns c = told_path c.args.graph.now c.args.from.now c.args.to.now _
    (told_by_mark c.args.graph.now c.nodes.ensures.graph c.as_slice.result.now c.as_slice-2.result.now c.in_ok-marks.marks _ _ _ _
    (rw (← c.as_slice.ensures.value) at c.in_ok-arcs.ensures)
    (rw (c.nodes.ensures.nodes, ← c.as_slice-2.ensures.value) at c.in_ok-heads.ensures.arcs)
    c.in-Ok.ensures.place c.in-Ok-node_place.ensures.place c.in_ok-marks.ensures _ c.get.ensures)
