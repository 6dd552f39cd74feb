use Rattle.std.proofs.Common.{◌∙◌, ◌++◌, sym, subst, map, filter, Contains}
use Rattle.std.proofs.lemmas.List.{append-nil, take_all}
use Rattle.reachability.specs.Places.{AreNumbered}
use Rattle.reuse_db.specs.declared.record.Dependency.{Dependency}
use Rattle.reuse_db.specs.Databases.{hashes_of}
use Rattle.spec_find.specs.Found.{is_kept}
use Rattle.spec_find.specs.Marks.{flipped}
use Rattle.spec_find.proofs.OrderLaws.{got_from}
use Rattle.spec_find.proofs.LinkLaws.{kept_there, links_same, one_arc_more, same_dependencies}
use Rattle.spec_find.proofs.links.add_arcs.Goals as goal
use Rattle.spec_find.proofs.links.add_arcs.Goals.{then-is_kept+in_ok-push, else-is_kept}

pub loop-needed-init : goal.loop-needed-init
loop-needed-init c = λ links entry got start.
    subst (λ l. AreNumbered (hashes_of c.args.records.now) l c.args.arcs.now.items) (sym (append-nil links)) start

pub known_place-requires-clause-there : goal.known_place-requires-clause-there
known_place-requires-clause-there c =
    let own = got_from c.args.records.now c.args.place c.index-records-place.result c.index-records-place.result c.requires.place
    (sym c.index-records-place.is) in
    rw c.as_str.ensures (kept_there c.args.records.now c.requires.right c.args.place c.index-records-place.result own c.needed-item.result
    (subst (λ ds. Contains ds c.needed-item.result) c.as_slice-needed-items.ensures
    (c.loop-needed.needed-index, c.loop-needed-test.true, sym c.needed-item.is)) (sym c.is_kept.ensures ∙ c.if-is_kept.true))

pub loop-needed-preserved : goal.loop-needed-preserved
loop-needed-preserved c =
    let own = got_from c.args.records.now c.args.place c.index-records-place.result c.index-records-place.result c.requires.place
    (sym c.index-records-place.is) in
    elim c.if-is_kept.branch [
      | then-is_kept+in_ok-push w ↦ λ links entry got start.
          let deps = same_dependencies c.args.records.now c.args.place c.index-records-place.result entry
          c.as_slice-needed-items.result.now own got
          c.as_slice-needed-items.ensures in
          rw (w.arcs-is, w.in_ok-push.ensures.items) (one_arc_more c.args.records.now c.args.place entry got c.loop-needed.needed-index
          c.needed-item.result (rw deps at c.loop-needed-test.true) (rw deps at c.needed-item.is) (sym c.is_kept.ensures
          ∙ w.if-is_kept.true)
          w.known_place.result (rw w.as_str.ensures at w.known_place.ensures) links c.loop-needed.arcs.items
          (c.loop-needed.invariant links entry got start))
      | else-is_kept w ↦ λ links entry got start.
          let deps = same_dependencies c.args.records.now c.args.place c.index-records-place.result entry
          c.as_slice-needed-items.result.now own got
          c.as_slice-needed-items.ensures in
          rw (
            w.arcs-is,
            links_same entry c.loop-needed.needed-index c.needed-item.result (rw deps at c.loop-needed-test.true)
                (rw deps at c.needed-item.is) (sym c.is_kept.ensures ∙ w.if-is_kept.false),
          ) (c.loop-needed.invariant links entry got start)
    ]

pub returns : goal.returns
returns c = λ links entry got start.
    let own = got_from c.args.records.now c.args.place c.index-records-place.result c.index-records-place.result c.requires.place
    (sym c.index-records-place.is) in
    let deps = same_dependencies c.args.records.now c.args.place c.index-records-place.result entry
    c.as_slice-needed-items.result.now own got
    c.as_slice-needed-items.ensures in
    subst (λ ds. AreNumbered (hashes_of c.args.records.now)
    (links ++ flipped (map (λ (x : Dependency). (entry.hash, x.hash)) (filter is_kept ds))) c.loop-needed.arcs.items)
    (take_all c.loop-needed.needed-index entry.dependencies (rw deps at c.loop-needed-test.false))
    (c.loop-needed.invariant links entry got start)
