use Rattle.std.proofs.Common.{◌+◌, ◌∙◌, map, drop}
use Rattle.std.specs.String.{string_bytes}
use Rattle.outside_desk.proofs.Tellings.{both_still, held_still}
use Rattle.run_answers.proofs.ReadOnly.{only_more, so_far}
use Rattle.run_answers.proofs.StageLaws.{carried}
use Rattle.run_input.specs.Sources.{names_of}
use Rattle.run_input.proofs.Entries.{entry_failed, order_at, so_far_next, whole_next}
use Rattle.run_input.proofs.read.read_entries.Goals as goal

pub loop-name-preserved : goal.loop-name-preserved
loop-name-preserved g c =
    let i = c.loop-name.name-index in
    let more = c.loop-name.invariant in
    record {
      same = both_still _ _ _ more.same c.in_ok-read_entry.ensures.only_reads.same;
      steady = c.in_ok-read_entry.ensures.only_reads.steady tt ∙ more.steady;
      put_faults = c.in_ok-read_entry.ensures.only_reads.put_faults ∙ more.put_faults;
      order =
          c.in_ok-read_entry.ensures.order (map string_bytes (drop (i + 1) c.args.names.now))
          (order_at c.args.names.now i c.name-item.result c.as_str.result.now c.loop-name-test.true c.name-item.is c.as_str.ensures.value
          (names_of c.loop-name.sources) more.order);
      whole =
          whole_next c.args.names.now i c.name-item.result c.as_str.result.now c.loop-name-test.true c.name-item.is c.as_str.ensures.value
          _ c.args.repo.now c.loop-name.sources _ c.in_ok-read_entry.ensures.left
          (held_still _ _ _ c.in_ok-read_entry.ensures.only_reads.same more.whole);
      so_far =
          so_far_next c.args.names.now i c.name-item.result c.as_str.result.now c.loop-name-test.true c.name-item.is c.as_str.ensures.value
          _ c.args.repo.now c.loop-name.sources _ c.in_ok-read_entry.ensures.left
          (held_still _ _ _ c.in_ok-read_entry.ensures.only_reads.same more.so_far);
    }

pub returns-in_err-read_entry-clause-path : goal.returns-in_err-read_entry-clause-path
returns-in_err-read_entry-clause-path g c =
    rw (carried c.in_err-read_entry.field-0.0 c.from_residual.result c.from_residual.ensures.1)
    (entry_failed c.args.names.now c.loop-name.name-index c.name-item.result c.as_str.result.now c.loop-name-test.true c.name-item.is
    c.as_str.ensures.value (Unit {0}) (Unit {0}) _ c.args.repo.now c.loop-name.sources c.in_err-read_entry.field-0.0
    (held_still _ _ _ c.in_err-read_entry.ensures.only_reads.same c.loop-name.invariant.so_far) c.in_err-read_entry.ensures.path)

pub returns-in_err-read_entry-clause-only_reads : goal.returns-in_err-read_entry-clause-only_reads
returns-in_err-read_entry-clause-only_reads g c =
    rw (carried c.in_err-read_entry.field-0.0 c.from_residual.result c.from_residual.ensures.1)
    (only_more (so_far c.loop-name.invariant.same c.loop-name.invariant.steady c.loop-name.invariant.put_faults)
    c.in_err-read_entry.ensures.only_reads)
