use Rattle.std.proofs.Common.{◌∙◌, sym, subst, take}
use Rattle.std.proofs.lemmas.List.{take_more}
use Rattle.spec_find.specs.Marks.{AreParents}
use Rattle.spec_find.proofs.FoundLaws.{one_more_part}
use Rattle.spec_find.proofs.search.keep_met.Goals as goal

pub loop-part-preserved : goal.loop-part-preserved
loop-part-preserved c = record {
  each = c.keep_both.ensures.each ∙ c.loop-part.invariant.each;
  told = rw (take_more c.args.parts.now c.loop-part.part-index c.part-item.result c.loop-part-test.true, ← c.part-item.is)
      (one_more_part c.args.world.now c.args.records.now c.args.top.now (take c.loop-part.part-index c.args.parts.now) c.part-item.result
      c.loop-part.marks.items c.in_ok-met.met c.keep_both.new.marks.items c.loop-part.invariant.told c.in_ok-met.ensures.marks
      c.keep_both.ensures.both);
  parents = subst (AreParents c.args.records.now) (sym c.in_ok-met.ensures.parents) c.loop-part.invariant.parents;
}
