use Rattle.std.proofs.Common.{arith, ◌∙◌, ◌+◌, sym, drop}
use Rattle.std.proofs.lemmas.List.{take_rest, length-drop}
use Rattle.spec_grammar.proofs.RunLaws.{name_front, name_utf8}
use Rattle.spec_grammar.proofs.ListLaws.{list_fits}
use Rattle.spec_grammar.proofs.NameLaws.{starts_is}
use Rattle.spec_grammar.proofs.read_item.compiler.Goals as goal
use Rattle.spec_grammar.proofs.CompilerLaws.{compiler_stuck, compiler_alone, compiler_read, compiler_moved}

pub word-requires : goal.word-requires
word-requires c = rw c.split_at.ensures.front
    (name_utf8 _ (name_front c.args.text.now c.name_length-len.result c.name_length-len.ensures.value (omega arith)))

pub returns-then-len-eq0-clause-fault : goal.returns-then-len-eq0-clause-fault
returns-then-len-eq0-clause-fault c = compiler_stuck c.args.text.now (omega (arith, c.name_length-len.ensures.value))

pub returns-then-not-starts_with_byte-clause-found : goal.returns-then-not-starts_with_byte-clause-found
returns-then-not-starts_with_byte-clause-found c =
    let none = rw c.split_at.ensures.back at c.starts_with_byte.ensures in
    rw (c.in_ok-name.ensures, c.split_at.ensures.front)
    (compiler_alone c.args.text.now c.name_length-len.result c.name_length-len.ensures.value (omega arith) (sym none
    ∙ c.if-not-starts_with_byte.true))

pub moved-requires : goal.moved-requires
moved-requires c =
    let fault = rw (take_rest c.split_at.result.1.now 1, c.split_at.ensures.back) at c.in-Err.ensures.fault in
    list_fits (drop 1 (drop c.name_length-len.result c.args.text.now)) (2 + c.name_length-len.result) c.in-Err.fault
    (omega (
      arith,
      c.requires,
      c.name_length-len.ensures.bound,
      length-drop 1 (drop c.name_length-len.result c.args.text.now),
      length-drop c.name_length-len.result c.args.text.now,
    )) fault

pub returns-in-Ok-clause-found : goal.returns-in-Ok-clause-found
returns-in-Ok-clause-found c =
    let is = rw c.split_at.ensures.back at c.starts_with_byte.ensures in
    let behind = starts_is 64 (drop c.name_length-len.result c.args.text.now) (sym is ∙ c.if-not-starts_with_byte.false) in
    let found = rw (take_rest c.split_at.result.1.now 1, c.split_at.ensures.back) at c.in-Ok.ensures.found.0 in
    rw (c.in_ok-name.ensures, c.split_at.ensures.front)
    (compiler_read c.args.text.now c.name_length-len.result c.in-Ok.more c.in-Ok.set _ c.name_length-len.ensures.value (omega arith) behind
    found c.in-Ok.ensures.found.1)

pub returns-in-Err-clause-fault : goal.returns-in-Err-clause-fault
returns-in-Err-clause-fault c =
    let is = rw c.split_at.ensures.back at c.starts_with_byte.ensures in
    let behind = starts_is 64 (drop c.name_length-len.result c.args.text.now) (sym is ∙ c.if-not-starts_with_byte.false) in
    let fault = rw (take_rest c.split_at.result.1.now 1, c.split_at.ensures.back) at c.in-Err.ensures.fault in
    rw c.moved.ensures (compiler_moved c.args.text.now c.name_length-len.result _ c.in-Err.fault c.name_length-len.ensures.value
    (omega arith) behind fault)
