use Rattle.std.proofs.Common.{arith, ◌≡◌, ◌+◌, sym, drop, take, None}
use Rattle.std.proofs.lemmas.List.{take_rest, length-drop}
use Rattle.spec_grammar.specs.Keys.{key_of}
use Rattle.spec_grammar.specs.Values.{start_run}
use Rattle.spec_grammar.proofs.RunLaws.{name_front, name_utf8}
use Rattle.spec_grammar.proofs.KeyLaws.{flags_stuck, key_behind, key_read, key_moved, key_fits}
use Rattle.spec_grammar.proofs.read_item.key.Goals as goal

pub returns-in_default-clause-fault : goal.returns-in_default-clause-fault
returns-in_default-clause-fault c =
    let none : start_run (key_of (take c.name_length-len.result c.args.text.now)) ≡ None =
    rw (← c.split_at.ensures.front, ← c.key_of-key.ensures) (sym c.in_default.ensures) in
    flags_stuck c.args.text.now c.name_length-len.result c.name_length-len.ensures.value c.requires none

pub word-requires : goal.word-requires
word-requires c =
    let behind = key_behind c.args.text.now c.name_length-len.result c.name_length-len.ensures.value c.requires in
    rw c.split_at.ensures.front (name_utf8 _ (name_front c.args.text.now c.name_length-len.result c.name_length-len.ensures.value behind.0))

pub returns-in_ok-word-in-Ok-clause-found : goal.returns-in_ok-word-in-Ok-clause-found
returns-in_ok-word-in-Ok-clause-found c =
    let behind = key_behind c.args.text.now c.name_length-len.result c.name_length-len.ensures.value c.requires in
    let found = rw (take_rest c.split_at.result.1.now 1, c.split_at.ensures.back, c.key_of-key.ensures, c.split_at.ensures.front) at
    c.in-Ok.ensures.found in
    rw (c.in_ok-word-in-Ok.ensures, c.split_at.ensures.front)
    (key_read c.args.text.now c.name_length-len.result c.in-Ok.more _ c.in-Ok.values c.name_length-len.ensures.value behind.0
    behind.1 found)

pub moved-requires : goal.moved-requires
moved-requires c =
    let behind = key_behind c.args.text.now c.name_length-len.result c.name_length-len.ensures.value c.requires in
    let fault = rw (take_rest c.split_at.result.1.now 1, c.split_at.ensures.back) at c.in-Err.ensures.fault in
    key_fits (drop 1 (drop c.name_length-len.result c.args.text.now)) c.key_of-key.result (c.name_length-len.result + 1) c.in-Err.fault
    (omega (
      arith,
      c.name_length-len.ensures.bound,
      length-drop 1 (drop c.name_length-len.result c.args.text.now),
      length-drop
          c.name_length-len.result c.args.text.now,
    )) fault

pub returns-in-Err-clause-fault : goal.returns-in-Err-clause-fault
returns-in-Err-clause-fault c =
    let behind = key_behind c.args.text.now c.name_length-len.result c.name_length-len.ensures.value c.requires in
    let fault = rw (take_rest c.split_at.result.1.now 1, c.split_at.ensures.back, c.key_of-key.ensures, c.split_at.ensures.front) at
    c.in-Err.ensures.fault in
    rw c.moved.ensures (key_moved c.args.text.now c.name_length-len.result _ c.in-Err.fault c.name_length-len.ensures.value c.requires
    behind.1 fault)
