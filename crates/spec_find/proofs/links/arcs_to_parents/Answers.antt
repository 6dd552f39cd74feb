use Rattle.std.proofs.Common.{sym, subst}
use Rattle.std.proofs.lemmas.List.{take_all}
use Rattle.reachability.specs.Places.{AreNumbered}
use Rattle.reuse_db.specs.Databases.{hashes_of}
use Rattle.spec_find.specs.Found.{links_in}
use Rattle.std.proofs.Common.{take}
use Rattle.spec_find.specs.Marks.{flipped}
use Rattle.spec_find.proofs.OrderLaws.{got_some}
use Rattle.spec_find.proofs.LinkLaws.{links_more}
use Rattle.spec_find.proofs.links.arcs_to_parents.Goals as goal

pub loop-place-preserved : goal.loop-place-preserved
loop-place-preserved c =
    let w = got_some c.args.records.now c.loop-place.place c.loop-place-test.true in
    subst (λ links. AreNumbered (hashes_of c.args.records.now) links c.add_arcs.new.arcs.items)
    (sym (links_more c.args.records.now c.loop-place.place w.0 w.1))
    (c.in_ok-add_arcs.ensures (flipped (links_in (take c.loop-place.place c.args.records.now))) w.0 w.1 c.loop-place.invariant)

pub returns : goal.returns
returns c = rw (take_all c.loop-place.place c.args.records.now c.loop-place-test.false) at c.loop-place.invariant
