use Rattle.std.proofs.Common.{◌-◌, take, arith}
use Rattle.run_task.proofs.Next.{next_end, next_settled, next_long, next_more, not_true, not_false}
use Rattle.run_task.proofs.pieces.take_next.Goals as goal

pub returns-then-count-eq0-clause-taken : goal.returns-then-count-eq0-clause-taken
returns-then-count-eq0-clause-taken g c =
    next_end c.args.path.now c.read_piece.new.out c.args.from c.in_ok-count.count c.args.checker.now _ c.if-count-eq0.true
    (let same = c.read_piece.auto.out in let room = c.requires.room in omega (arith, same, room)) c.in_ok-count.ensures.read

pub returns-then-not-branch-clause-taken : goal.returns-then-not-branch-clause-taken
returns-then-not-branch-clause-taken g c =
    next_settled c.args.path.now c.read_piece.new.out c.args.from c.in_ok-count.count c.args.checker.now c.take.new.self _
    c.within-taken.result
    c.within-taken.ensures (grind arith) c.in_ok-take.ensures.fed _
    (not_true _ _ c.in_ok-take.ensures.goes_on c.if-not-branch.true) c.in_ok-count.ensures.read

pub returns-then-taken-count-clause-taken : goal.returns-then-taken-count-clause-taken
returns-then-taken-count-clause-taken g c =
    next_long c.args.path.now c.read_piece.new.out c.args.from c.in_ok-count.count c.args.checker.now c.take.new.self _
    c.within-taken.result
    c.within-taken.ensures (grind arith) c.in_ok-take.ensures.fed _
    (not_false _ _ c.in_ok-take.ensures.goes_on c.if-not-branch.false) c.if-taken-count.true c.in_ok-count.ensures.read

pub returns-clause-taken : goal.returns-clause-taken
returns-clause-taken g c =
    next_more c.args.path.now c.read_piece.new.out c.args.from c.in_ok-count.count c.args.checker.now c.take.new.self _
    c.within-taken.result
    c.within-taken.ensures (grind arith) c.in_ok-take.ensures.fed _
    (not_false _ _ c.in_ok-take.ensures.goes_on c.if-not-branch.false) c.in_ok-count.ensures.read
