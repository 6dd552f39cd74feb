use Rattle.std.proofs.Common.{sym, subst, arith}
use Rattle.std.proofs.lemmas.List.Elements.{All-get_or}
use Rattle.root_groups.specs.Solved.{IsFoundFor, IsInRange}
use Rattle.root_groups.proofs.Laws.{zip_more}
use Rattle.root_groups.proofs.solved.solve_in_turn.Goals as goal

pub search-requires : goal.search-requires
search-requires g c =
    record {
      in_range =
          rw c.as_slice.ensures.value (subst IsInRange (sym c.index-parts-i.is)
          (All-get_or IsInRange c.args.parts.now c.loop-i.i c.index-parts-i.result (omega arith) c.requires.in_range));
    }

pub loop-i-preserved : goal.loop-i-preserved
loop-i-preserved g c =
    rw c.in_ok-push.ensures.items
    (zip_more (IsFoundFor c.args.budget) c.args.parts.now c.loop-i.i c.index-parts-i.result c.loop-i.found.items _ (omega arith)
    c.index-parts-i.is c.loop-i.invariant
    (rw c.as_slice.ensures.value at c.in_ok-search.ensures.found, c.in_ok-search.ensures.in_order))
