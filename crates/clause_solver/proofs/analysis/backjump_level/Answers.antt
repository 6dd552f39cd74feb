use Rattle.std.proofs.Common.{◌+◌, ◌∙◌, get_or, take, sym, subst, arith}
use Rattle.clause_solver.specs.Learning.{IsBackjumpLevelOf, IsBackjumpLevel}
use Rattle.clause_solver.proofs.SeenLaws.{some_lit, AllBelow-next}
use Rattle.clause_solver.proofs.Levels.{backjump-passed, backjump-more}
use Rattle.clause_solver.proofs.analysis.backjump_level.Goals as goal
use Rattle.clause_solver.proofs.analysis.backjump_level.Goals.{in-Some, in_default}

pub loop-lit-preserved : goal.loop-lit-preserved
loop-lit-preserved c =
    let ps = c.args.watch.now.placed in
    let ls = c.args.lits.now in
    let i = c.loop-lit.lit-index in
    let highest = c.loop-lit.highest in
    let b = c.loop-lit.invariant.level in record {
      in_range = AllBelow-next _ i ls some_lit (omega arith) c.loop-lit.invariant.in_range;
      level = elim c.match-backjump_level_of.branch [
        | in-Some w ↦
            subst (IsBackjumpLevel ps (take (i + 1) ls)) (sym (w.highest-is ∙ w.max-highest.ensures))
            (backjump-more ps ls highest i _ (omega arith) b c.requires.right.orderly.apart w.in-Some.level w.in-Some.ensures)
        | in_default w ↦
            subst (IsBackjumpLevel ps (take (i + 1) ls)) (sym w.highest-is)
            (backjump-passed ps ls highest i some_lit (omega arith) b
            (subst (IsBackjumpLevelOf ps (get_or ls i some_lit)) w.in_default.is c.backjump_level_of.ensures))
      ];
    }
