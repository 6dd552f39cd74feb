use Rattle.std.proofs.Common.{◌≡◌, Contains, subst}
use Rattle.std.specs.Cmp.Lexicographic.{bytes_decides}
use Rattle.std.specs.Str.{bytes_eq}
use Rattle.keyed_lists.proofs.OfReachability.CountLaws.{has_image}
use Rattle.keyed_lists.proofs.OfReachability.SpreadLaws.{reaches_decides}
use Rattle.keyed_lists.proofs.KeyedLaws.{find_known}
use Rattle.keyed_lists.proofs.LookupLaws.{find_sound}
use Rattle.graph_core.specs.declared.node.Edge.{Edge}
use Rattle.graph_core.specs.Graphs.{Text, Content, ends_of}
use Rattle.graph_core.specs.Paths.{arcs_of, JoinedIn}
use Rattle.graph_core.proofs.PairLaws.{pair_total, pair_exact}
use Rattle.graph_core.proofs.PathLaws.{begins_at_node, ends_at_node}
use Rattle.graph_core.proofs.theorems.path_laws.Goals as goal

joined : (g : Content) (p q : Text) (edge : Edge) → Contains g.edges edge × (ends_of edge ≡ (p, q)) → JoinedIn g p q
joined g p q edge found = subst (Contains (arcs_of g)) found.1 (has_image ends_of g.edges edge found.0)

pub returns : goal.returns
returns c = record {
  decides = λ g. reaches_decides bytes_eq bytes_decides (arcs_of g);
  joined = λ g p q graph. (
    find_known pair_total pair_exact ends_of g.edges (p, q),
    λ w. joined g p q w.0
        (find_sound pair_total pair_exact ends_of g.edges (p, q) w.0 w.1),
  );
  nodes = λ g p q graph path. (begins_at_node g graph p q path, ends_at_node g graph p q path);
}
