use Rattle.std.proofs.Common.{◌≡◌, ◌<◌, ◌≤◌, ◌∙◌, sym, ap, true, false, get_or, ⊎_elim, arith}
use Rattle.std.proofs.lemmas.Bool.{cases_lt, false≢true}
use Rattle.std.proofs.lemmas.List.{get_or_default}
use Rattle.std.specs.Cmp.Lexicographic.{bytes_decides}
use Rattle.std.specs.Str.{bytes_eq}
use Rattle.keyed_lists.proofs.OfReachability.CountLaws.{image_of}
use Rattle.keyed_lists.proofs.OfReachability.SpreadLaws.{reaches_decides}
use Rattle.graph_core.specs.Graphs.{name_of}
use Rattle.graph_core.specs.Paths.{arcs_of, reaches_in}
use Rattle.graph_core.proofs.PathLaws.{begins_at_node}
use Rattle.problem_rows.proofs.plans.has_no_cycle.Goals as goal

pub loop-node-preserved : goal.loop-node-preserved
loop-node-preserved c = λ k node lt is. ⊎_elim
    (λ (less : k < c.loop-node.node-index). c.loop-node.invariant k node less is)
    (λ (le : c.loop-node.node-index ≤ k).
    let same : k ≡ c.loop-node.node-index = omega (arith, lt, le) in
    let one : node ≡ c.node-item.result = is ∙ ap (λ i. get_or c.nodes-node-items.result.now i node) same
    ∙ get_or_default c.nodes-node-items.result.now c.loop-node.node-index node c.node-item.result c.loop-node-test.true
    ∙ sym c.node-item.is in
    rw one (rw (c.as_str-name.ensures, c.requires) at (sym c.leads.ensures ∙ c.if-leads.false)))
    (cases_lt k c.loop-node.node-index)

pub returns : goal.returns
returns c = λ told p path.
    let nodes = c.nodes-node-items.ensures.nodes in
    let graph = c.nodes-node-items.ensures.graph in
    let node = image_of name_of c.args.graph.now.nodes p (begins_at_node c.args.graph.now graph p p path) in
    let all = rw nodes at c.loop-node.invariant in
    let end = rw nodes at c.loop-node-test.false in
    let none : reaches_in c.args.graph.now node.0.name node.0.name ≡ false =
    all node.1.0 node.0 (omega (arith, node.1.1, end)) (sym node.1.2) in
    let some : reaches_in c.args.graph.now p p ≡ true = (reaches_decides bytes_eq bytes_decides (arcs_of c.args.graph.now) p p).1 path in
    false≢true (sym none ∙ ap (λ name. reaches_in c.args.graph.now name name) node.2 ∙ some)
