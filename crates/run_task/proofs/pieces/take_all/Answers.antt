use Rattle.std.proofs.Common.{subst, ◌∙◌, arith}
use Rattle.outside_desk.proofs.Tellings.{both_still, held_still}
use Rattle.run_answers.proofs.ReadOnly.{only_more, so_far}
use Rattle.run_task.specs.Pieces.{Moves}
use Rattle.run_task.specs.declared.pieces.Next.{Next}
use Rattle.run_task.specs.declared.pieces.Next.TheVariants.{More, End, Long}
use Rattle.run_task.proofs.Next.{carries_more, all_taken, all_stopped, at_next, at_stop}
use Rattle.run_task.proofs.pieces.take_all.Goals as goal

pub pieces-preserved : goal.pieces-preserved
pieces-preserved g c =
    let i = c.pieces.invariant in
    let e = c.in-Ok-More.ensures in
    let moved : Moves c.pieces.from (More c.in-Ok-More.place) =
    subst (λ (n : Next). Moves c.pieces.from n) c.in-Ok-More.field-0-is e.moves in
    record {
      same = both_still _ _ _ i.same e.only_reads.same;
      steady = e.only_reads.steady tt ∙ i.steady;
      put_faults = e.only_reads.put_faults ∙ i.put_faults;
      within = moved.1;
      room = let a = i.room in let b = c.take_next.auto.piece in omega (arith, a, b);
      carried = carries_more c.args.path.now c.pieces.from c.args.checker.now c.pieces.checker c.take_next.new.checker _ c.in-Ok-More.place
          (held_still _ _ _ e.only_reads.same i.carried)
          (at_next _ c.args.path.now c.pieces.from c.pieces.checker c.take_next.new.checker _ (More c.in-Ok-More.place)
          c.in-Ok-More.field-0-is e.taken);
    }

pub returns-in-Ok-End-clause-taken : goal.returns-in-Ok-End-clause-taken
returns-in-Ok-End-clause-taken g c =
    let i = c.pieces.invariant in
    all_taken c.args.path.now c.pieces.from c.args.checker.now c.pieces.checker c.take_next.new.checker _ End
    (held_still _ _ _ c.in-Ok-End.ensures.only_reads.same i.carried)
    (at_next _ c.args.path.now c.pieces.from c.pieces.checker c.take_next.new.checker _ End c.in-Ok-End.field-0-is
    c.in-Ok-End.ensures.taken)

pub returns-in-Ok-End-clause-only_reads : goal.returns-in-Ok-End-clause-only_reads
returns-in-Ok-End-clause-only_reads g c =
    let i = c.pieces.invariant in only_more (so_far i.same i.steady i.put_faults) c.in-Ok-End.ensures.only_reads

pub returns-in-Ok-Long-clause-taken : goal.returns-in-Ok-Long-clause-taken
returns-in-Ok-Long-clause-taken g c =
    let i = c.pieces.invariant in
    all_taken c.args.path.now c.pieces.from c.args.checker.now c.pieces.checker c.take_next.new.checker _ Long
    (held_still _ _ _ c.in-Ok-Long.ensures.only_reads.same i.carried)
    (at_next _ c.args.path.now c.pieces.from c.pieces.checker c.take_next.new.checker _ Long c.in-Ok-Long.field-0-is
    c.in-Ok-Long.ensures.taken)

pub returns-in-Ok-Long-clause-only_reads : goal.returns-in-Ok-Long-clause-only_reads
returns-in-Ok-Long-clause-only_reads g c =
    let i = c.pieces.invariant in only_more (so_far i.same i.steady i.put_faults) c.in-Ok-Long.ensures.only_reads

pub returns-in-Err-clause-taken : goal.returns-in-Err-clause-taken
returns-in-Err-clause-taken g c =
    let i = c.pieces.invariant in
    all_stopped c.args.path.now c.pieces.from c.args.checker.now c.pieces.checker c.take_next.new.checker _ c.in-Err.stop
    (at_stop _ c.args.path.now c.pieces.from c.pieces.checker c.take_next.new.checker _ c.in-Err.stop c.in-Err.stop-is
    c.in-Err.ensures.taken)
