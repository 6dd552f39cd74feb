use Rattle.std.specs.Cmp.Lexicographic.{nat_list_cmp_total}
use Rattle.virtuals.proofs.OfVariantValues.Texts2.{ties_are_equal}
use Rattle.virtuals.proofs.OfKeyedLists.KeyedLaws.{lacks_key}
use Rattle.virtuals.specs.OfGraphCore.Graphs.{name_of}
use Rattle.virtuals.proofs.OfGraphCore.PathLaws.{name_at}
use Rattle.condition_rules.proofs.search.known_place.Goals as goal

pub unreachable-requires : goal.unreachable-requires
unreachable-requires c = lacks_key nat_list_cmp_total ties_are_equal name_of c.args.graph.now.nodes c.args.name.now _
    c.in-Err.ensures.place c.requires

pub returns : goal.returns
returns c = name_at c.args.graph.now c.in-Ok.ensures.graph c.args.name.now _ c.in-Ok.ensures.place
