use Rattle.std.proofs.Common.{◌∙◌, rules, ◌<◌, [], length, arith}
use Rattle.std.proofs.lemmas.List.{get_or_read}
use Rattle.reachability.proofs.SearchLaws.{starts, next_place, heads_marked, follows, ends}
use Rattle.reachability.proofs.search.search.Goals as goal

pub loop-place-init : goal.loop-place-init
loop-place-init c = rw (c.in_ok-push.ensures.items, c.new-waiting.ensures.items)
    (starts _ _ _ c.requires.within _ c.requires.place c.requires.fresh)

pub bounds-heads-place : goal.bounds-heads-place
bounds-heads-place c = next_place _ _ _ c.requires.within _ _ _ _ _ c.in-Some.ensures.items c.loop-place.invariant

pub offset_bounds-heads-place : goal.offset_bounds-heads-place
offset_bounds-heads-place c =
    let lt : c.in-Some.place < length c.args.heads.now =
    next_place _ _ _ c.requires.within _ _ _ _ _ c.in-Some.ensures.items c.loop-place.invariant in
    search (rules, lt)

pub visit-requires-clause-within : goal.visit-requires-clause-within
visit-requires-clause-within c =
    let lt = next_place _ _ _ c.requires.within _ _ _ _ _ c.in-Some.ensures.items c.loop-place.invariant in
    rw (c.as_slice.ensures ∙ get_or_read _ _ _ lt c.index-heads-place.is [])
    (heads_marked _ _ _ c.requires.within _ _ _ _ _ c.in-Some.ensures.items c.loop-place.invariant c.requires.room)

pub loop-place-preserved : goal.loop-place-preserved
loop-place-preserved c =
    let lt = next_place _ _ _ c.requires.within _ _ _ _ _ c.in-Some.ensures.items c.loop-place.invariant in
    follows _ _ _ c.requires.within _ _ _ _ _ c.in-Some.ensures.items c.loop-place.invariant _ _
    (rw (c.as_slice.ensures ∙ get_or_read _ _ _ lt c.index-heads-place.is []) at c.in_ok-visit.ensures)

pub returns : goal.returns
returns c = ends _ _ _ c.requires.within _ _ _ (omega (arith, c.in_default.ensures.cases.0)) c.loop-place.invariant
