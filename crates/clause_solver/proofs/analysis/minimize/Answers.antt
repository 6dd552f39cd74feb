use Rattle.std.proofs.Common.{◌∙◌, arith}
use Rattle.clause_solver.proofs.SeenLaws.{some_lit, AllBelow-next}
use Rattle.clause_solver.proofs.Minimizing.{KeepsUip-trans}
use Rattle.clause_solver.proofs.analysis.minimize.Goals as goal

pub loop-lit-preserved : goal.loop-lit-preserved
loop-lit-preserved c =
    let i = c.loop-lit.lit-index in let ls = c.args.lits.now in record {
      in_range = AllBelow-next _ i ls some_lit (omega arith) c.loop-lit.invariant.in_range;
      keeps = KeepsUip-trans c.args.watch.now c.args.seen.now c.loop-lit.seen c.minimize_by_unit.new.seen c.args.chain.now c.loop-lit.chain
          c.minimize_by_unit.new.chain c.loop-lit.invariant.keeps c.in_ok-minimize_by_unit.ensures.uip;
      same = c.minimize_by_unit.ensures.same ∙ c.loop-lit.invariant.same;
    }
