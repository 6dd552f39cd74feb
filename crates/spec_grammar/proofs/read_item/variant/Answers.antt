use Rattle.std.proofs.Common.{arith}
use Rattle.spec_grammar.proofs.RunLaws.{name_front, name_utf8}
use Rattle.spec_grammar.proofs.NameLaws.{variant_stuck, variant_read}
use Rattle.spec_grammar.proofs.read_item.variant.Goals as goal

pub word-requires : goal.word-requires
word-requires c = name_utf8 _ (name_front c.args.text.now c.name_length-len.result c.name_length-len.ensures.value (omega arith))

pub returns-then-len-eq0-clause-fault : goal.returns-then-len-eq0-clause-fault
returns-then-len-eq0-clause-fault c = variant_stuck c.args.mark c.args.text.now (omega (arith, c.name_length-len.ensures.value))

pub returns-clause-found : goal.returns-clause-found
returns-clause-found c = rw c.in_ok-name.ensures
    (variant_read c.args.mark c.args.text.now c.name_length-len.result c.name_length-len.ensures.value (omega arith))
