use Rattle.level_encoding.proofs.Choices.{pairs-within}
use Rattle.level_encoding.proofs.arcs.table_of.Goals as goal

pub new-requires : goal.new-requires
new-requires c =
    rw (c.as_slice.ensures.value, c.in_ok-pairs.ensures, c.size.ensures) (pairs-within c.args.input.now c.requires)

pub returns : goal.returns
returns c =
    rw (← c.size.ensures, ← c.in_ok-pairs.ensures, ← c.as_slice.ensures.value) c.in_ok-table.ensures
