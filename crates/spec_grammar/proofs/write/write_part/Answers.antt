use Rattle.std.proofs.Common.{append_assoc}
use Rattle.spec_grammar.specs.Canonical.{part_text}
use Rattle.spec_grammar.proofs.write.write_part.Goals as goal

pub returns : goal.returns
unfolding part_text
returns c =
    rw (
      c.in_ok-write_targets.ensures,
      c.in_ok-write_one-2.ensures,
      c.in_ok-write_one.ensures,
      c.in_ok-write_compiler.ensures,
      c.in_ok-write_variants.ensures,
      c.as_slice.ensures,
      c.in_ok-write_list.ensures,
      c.in_ok-write_some.ensures,
    )
    (simp append_assoc)
