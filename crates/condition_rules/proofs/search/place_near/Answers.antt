use Rattle.std.proofs.Common.{sym}
use Rattle.std.specs.Cmp.Lexicographic.{bytes_decides}
use Rattle.condition_rules.proofs.BelowLaws.{known_at}
use Rattle.condition_rules.proofs.search.place_near.Goals as goal

pub returns-then-eq : goal.returns-then-eq
returns-then-eq c =
    let nodes = c.nodes-nodes.ensures.nodes in
    let same = (bytes_decides _ _).0 (sym (rw (c.as_str.ensures, ← c.index-nodes-guess.is) at c.if-eq.ensures)) in
    known_at c.args.graph.now.nodes c.args.guess c.index-nodes-guess.result c.args.name.now (rw nodes at c.if-guess-nodes.true)
    (rw nodes at c.index-nodes-guess.is) same
