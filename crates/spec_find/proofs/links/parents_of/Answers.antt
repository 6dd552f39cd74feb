use Rattle.std.proofs.lemmas.List.{length-map}
use Rattle.reachability.proofs.HeadLaws.{numbers_within}
use Rattle.reuse_db.specs.declared.record.Record.{Record}
use Rattle.spec_find.specs.Marks.{AreParents}
use Rattle.spec_find.proofs.OrderLaws.{hashes_once}
use Rattle.spec_find.proofs.LinkLaws.{are_parents}
use Rattle.spec_find.proofs.MarkLaws.{ok_both}
use Rattle.spec_find.proofs.links.parents_of.Goals as goal

pub heads_of-requires : goal.heads_of-requires
heads_of-requires c = rw (c.as_slice.ensures.value, ← length-map c.args.records.now (λ (e : Record). e.hash))
    (numbers_within _ _ _ c.in_ok-arcs.ensures)

pub returns : goal.returns
returns c = ok_both _ _ (λ parents. AreParents c.args.records.now parents.items)
    (λ parents are within. are_parents c.args.records.now c.as_slice.result.now parents.items
    (hashes_once c.args.records.now c.requires.right.once)
    (rw (← c.as_slice.ensures.value) at c.in_ok-arcs.ensures) are within) c.heads_of.result c.heads_of.ensures.arcs
    c.heads_of.ensures.within
