use Rattle.std.proofs.Common.{◌≡◌, sym, ap, ◌∙◌, length, take, arith}
use Rattle.std.proofs.lemmas.List.{take_all, length-take, length-map, get_or_default}
use Rattle.reuse_db.specs.declared.record.Record.{Record}
use Rattle.reuse_db.specs.Databases.{hashes_of, IsTwice}
use Rattle.reachability.proofs.TextPlaces.{lacks_text, has_text, places_more, none_more}
use Rattle.reuse_db.proofs.PlaceLaws.{hashes_more, twice, not_twice}
use Rattle.reuse_db.proofs.places.places_of.Goals as goal

pub returns-in-Some-clause-fault : goal.returns-in-Some-clause-fault
returns-in-Some-clause-fault c =
    let there = has_text _ c.loop-i.places c.loop-i.invariant.places _ _ (sym c.in-Some.ensures) in (
      c.loop-i.i,
      twice _ _ _ c.loop-i-test.true c.index-records-i.is (rw c.as_str-hash.ensures at there),
      c.loop-i.invariant.once,
      λ d. ap (λ (e : Record). e.hash) (sym (c.index-records-i.is
          ∙ get_or_default c.args.records.now c.loop-i.i c.index-records-i.result d c.loop-i-test.true)),
    )

pub loop-i-preserved : goal.loop-i-preserved
loop-i-preserved c =
    let names = hashes_of c.args.records.now in
    let absent = sym c.in-None.ensures in
    let lacks = lacks_text (take c.loop-i.i names) c.loop-i.places c.loop-i.invariant.places _ absent in
    let i_is : c.loop-i.i ≡ length (take c.loop-i.i names) =
    omega (arith, length-take c.loop-i.i names, length-map c.args.records.now (λ (e : Record). e.hash), c.loop-i-test.true) in
    record {
      places = rw (hashes_more _ _ _ c.loop-i-test.true c.index-records-i.is, ← c.as_str-hash.ensures)
          (places_more (take c.loop-i.i names) c.loop-i.places c.loop-i.invariant.places c.add_place.new.places _ c.loop-i.i i_is absent
          c.in_ok-add_place-in-None.ensures);
      once = none_more (IsTwice c.args.records.now) c.loop-i.i c.loop-i.invariant.once
          (not_twice _ _ _ c.loop-i-test.true c.index-records-i.is (rw c.as_str-hash.ensures at lacks));
    }

pub returns-clause-places : goal.returns-clause-places
returns-clause-places c =
    rw (take_all c.loop-i.i (hashes_of c.args.records.now)
    (omega (arith, length-map c.args.records.now (λ (e : Record). e.hash), c.loop-i-test.false))) at c.loop-i.invariant.places

pub returns-clause-once : goal.returns-clause-once
returns-clause-once c = λ k h. c.loop-i.invariant.once k (omega (arith, h.0, c.loop-i-test.false)) h
