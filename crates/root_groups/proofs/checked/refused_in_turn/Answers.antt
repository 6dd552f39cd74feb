use Rattle.std.proofs.Common.{◌∙◌, sym, arith}
use Rattle.root_groups.proofs.Parts.{accepted_at, all_certified, certified_more, first_here, first_later, first_none, not_all}
use Rattle.root_groups.proofs.checked.refused_in_turn.Goals as goal

pub loop-i-preserved : goal.loop-i-preserved
loop-i-preserved g c =
    let passed = sym c.refused_at.ensures ∙ c.in-None.is in record {
      first =
          first_later c.args.place c.loop-i.i c.index-parts-i.result c.args.parts.now _ (omega arith) c.index-parts-i.is
          c.in_ok-check_part.ensures.steps passed c.loop-i.invariant.first;
      certified =
          certified_more c.loop-i.i c.index-parts-i.result c.args.parts.now (omega arith) c.index-parts-i.is c.loop-i.invariant.certified
          (c.in_ok-check_part.ensures.exact.0 (accepted_at _ _ passed));
    }

pub returns-in-Some-clause-first : goal.returns-in-Some-clause-first
returns-in-Some-clause-first g c =
    first_here c.args.place c.loop-i.i c.index-parts-i.result c.args.parts.now _ c.in-Some.bad (omega arith) c.index-parts-i.is
    c.in_ok-check_part.ensures.steps (sym c.in-Some.is ∙ c.refused_at.ensures) c.loop-i.invariant.first

pub returns-in-Some-clause-exact : goal.returns-in-Some-clause-exact
returns-in-Some-clause-exact g c =
    not_all _ c.loop-i.i c.index-parts-i.result c.args.parts.now _ c.in-Some.bad (omega arith) c.index-parts-i.is
    c.in_ok-check_part.ensures.exact (sym c.in-Some.is ∙ c.refused_at.ensures)

pub returns-clause-first : goal.returns-clause-first
returns-clause-first g c = first_none c.args.place c.loop-i.i c.args.parts.now (omega arith) c.loop-i.invariant.first

pub returns-clause-exact : goal.returns-clause-exact
returns-clause-exact g c = all_certified c.loop-i.i c.args.parts.now (omega arith) c.loop-i.invariant.certified
