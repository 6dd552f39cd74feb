use Rattle.std.proofs.Common.{◌∙◌}
use Rattle.outside_desk.proofs.Tellings.{held_still}
use Rattle.run_answers.proofs.ReadOnly.{gave, only_more}
use Rattle.run_input.proofs.Entries.{inside, pile_read}
use Rattle.run_input.proofs.read.read_sources.Goals as goal

pub returns-in-Ok-clause-read : goal.returns-in-Ok-clause-read
returns-in-Ok-clause-read g c =
    pile_read _ c.args.repo.now c.as_str.result.now c.in-Ok.names c.as_slice.result.now c.as_slice.ensures.value
    (c.as_str.ensures.value ∙ c.in_ok-folder.ensures)
    (held_still _ _ _ c.read_entries.ensures.only_reads.same c.in-Ok.ensures.names) c.read_entries.result c.read_entries.ensures.read

pub returns-in-Ok-clause-path : goal.returns-in-Ok-clause-path
returns-in-Ok-clause-path g c =
    inside _ c.args.repo.now c.as_str.result.now c.in-Ok.names c.as_slice.result.now c.as_slice.ensures.value
    (c.as_str.ensures.value ∙ c.in_ok-folder.ensures)
    (held_still _ _ _ c.read_entries.ensures.only_reads.same c.in-Ok.ensures.names) c.read_entries.result c.read_entries.ensures.path

pub returns-in-Ok-clause-only_reads : goal.returns-in-Ok-clause-only_reads
returns-in-Ok-clause-only_reads g c =
    only_more (gave c.in-Ok.names c.in-Ok.ensures.same c.in-Ok.ensures.cause c.in-Ok.ensures.steady c.in-Ok.ensures.put_faults)
    c.read_entries.ensures.only_reads
