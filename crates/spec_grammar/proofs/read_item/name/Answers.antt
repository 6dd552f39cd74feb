use Rattle.std.proofs.Common.{◌∙◌, sym, refl, arith}
use Rattle.spec_grammar.proofs.RunLaws.{name_front, name_utf8}
use Rattle.spec_grammar.proofs.KindLaws.{name_some}
use Rattle.spec_grammar.proofs.NameLaws.{name_read, name_stuck}
use Rattle.spec_grammar.proofs.read_item.name.Goals as goal

pub returns-then-starts_with_byte-clause-fault : goal.returns-then-starts_with_byte-clause-fault
returns-then-starts_with_byte-clause-fault c =
    let is = rw c.split_at.ensures.back at c.starts_with_byte.ensures in
    name_stuck c.args.text.now c.name_length-len.result 58 c.name_length-len.ensures.value c.requires refl refl refl (sym is
    ∙ c.if-starts_with_byte.true)

pub returns-then-starts_with_byte-2-clause-fault : goal.returns-then-starts_with_byte-2-clause-fault
returns-then-starts_with_byte-2-clause-fault c =
    let is = rw c.split_at.ensures.back at c.starts_with_byte-2.ensures in
    name_stuck c.args.text.now c.name_length-len.result 46 c.name_length-len.ensures.value c.requires refl refl refl (sym is
    ∙ c.if-starts_with_byte-2.true)

pub word-requires : goal.word-requires
word-requires c =
    let some = name_some c.args.text.now c.requires in
    rw c.split_at.ensures.front
    (name_utf8 _ (name_front c.args.text.now c.name_length-len.result c.name_length-len.ensures.value (omega (arith, some.0))))

pub returns-clause-found : goal.returns-clause-found
returns-clause-found c =
    let colon = rw c.split_at.ensures.back at c.starts_with_byte.ensures in
    let point = rw c.split_at.ensures.back at c.starts_with_byte-2.ensures in
    rw (c.in_ok-word.ensures, c.split_at.ensures.front)
    (name_read c.args.text.now c.name_length-len.result c.name_length-len.ensures.value c.requires (sym colon ∙ c.if-starts_with_byte.false)
    (sym point ∙ c.if-starts_with_byte-2.false))
