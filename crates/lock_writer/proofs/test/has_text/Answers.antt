use Rattle.spec_grammar.specs.Canonical.{spec_text}
use Rattle.lock_writer.proofs.TestLaws.{text_told}
use Rattle.lock_writer.proofs.test.has_text.Goals as goal

pub returns : goal.returns
returns c = text_told c.from_utf8.result (spec_text c.args.root.now) _ _ _
    (rw (c.as_slice.ensures.value, c.in_ok-text.ensures) at c.from_utf8.ensures.cases) c.is_ok.ensures.value
