use Rattle.outside_desk.proofs.Writings.{gone_more, gone_kept, gone_part}
use Rattle.outside_desk.proofs.real_files.write_whole.Goals as goal
use Rattle.outside_desk.proofs.real_files.write_whole.Goals.{in-Ok, in-Err}

pub returns-in-Ok-eq0-clause-err : goal.returns-in-Ok-eq0-clause-err
returns-in-Ok-eq0-clause-err g c =
    gone_part _ _ _ _ (gone_more _ _ _ _ _ c.in-Ok-eq0.field-0 c.writings.invariant (rw c.in-Ok-eq0.is at c.write.ensures.bytes))

pub returns-in-Err-2-clause-err : goal.returns-in-Err-2-clause-err
returns-in-Err-2-clause-err g c = gone_part _ _ _ _ (gone_kept _ _ _ _ _ c.writings.invariant c.in-Err-2.ensures.bytes)

pub writings-preserved : goal.writings-preserved
writings-preserved g c =
    elim c.match-write.branch [
      | in-Ok w ↦ rw w.rest-is (gone_more _ _ _ _ _ w.in-Ok.count c.writings.invariant w.in-Ok.ensures.bytes)
      | in-Err w ↦ rw w.rest-is (gone_kept _ _ _ _ _ c.writings.invariant w.in-Err.ensures.bytes)
    ]

pub returns-clause-err : goal.returns-clause-err
returns-clause-err g c = gone_part _ _ _ _ c.writings.invariant
