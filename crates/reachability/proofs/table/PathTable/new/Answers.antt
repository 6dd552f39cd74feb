use Rattle.std.proofs.Common.{◌≡◌, sym, arith}
use Rattle.reachability.proofs.TableLaws.{one_more_row, all_rows}
use Rattle.reachability.proofs.table.PathTable.new.Goals as goal

pub loop-place-preserved : goal.loop-place-preserved
loop-place-preserved c =
    one_more_row _ _ _ _ c.loop-place.invariant c.loop-place-test.true _ (sym c.in_ok-heads.ensures.arcs.each)
    (rw c.as_slice.ensures.value at c.in_ok-search.ensures)

pub returns : goal.returns
returns c =
    let all : c.loop-place.place ≡ c.args.places = omega arith in
    all_rows _ _ _ _ c.in_ok-heads.ensures.arcs (rw all at c.loop-place.invariant)
