use Rattle.std.proofs.Common.{◌≡◌, sym, subst, false, get_or, map, filter}
use Rattle.std.proofs.lemmas.Result.{IfOk-weaker}
use Rattle.spec_find.specs.declared.order.Placed.{Placed}
use Rattle.spec_find.specs.Found.{AreFound}
use Rattle.spec_find.proofs.FoundLaws.{are_found}
use Rattle.spec_find.proofs.search.find.Goals as goal

pub by_hash-requires : goal.by_hash-requires
by_hash-requires c = rw c.records-records.ensures.records c.records-records.ensures.right.once

pub returns : goal.returns
returns c =
    let are = rw c.records-records.ensures.records at c.in_ok-order.ensures in
    let told = rw (c.records-records.ensures.records, c.as_slice-parts.ensures) at c.in_ok-keep_met.ensures.marks in
    IfOk-weaker c.places_in.result
    (λ places. places.items ≡ map (λ (p : Placed). p.place)
    (filter (λ (p : Placed). get_or c.as_slice-3.result.now p.place false) c.as_slice-2.result.now))
    (λ places. AreFound c.args.world.now c.args.database.now c.args.spec.now places.items)
    (λ places is. subst (AreFound c.args.world.now c.args.database.now c.args.spec.now)
    (sym (rw (c.as_slice-2.ensures.value, c.as_slice-3.ensures.value) at is))
    (are_found c.args.world.now c.args.database.now c.args.spec.now c.in_ok-order.order.items c.keep_met.new.marks.items are told))
    c.places_in.ensures
