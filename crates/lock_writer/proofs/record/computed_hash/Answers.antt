use Rattle.std.proofs.Common.{ap, ◌∙◌}
use Rattle.spec_hash.specs.Base32.{hash_of}
use Rattle.lock_writer.proofs.record.computed_hash.Goals as goal

pub returns : goal.returns
returns c = c.hash_text-computed.ensures ∙ ap hash_of (c.as_slice.ensures.value ∙ c.in_ok-text.ensures)
