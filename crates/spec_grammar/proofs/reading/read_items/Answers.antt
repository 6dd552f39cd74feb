use Rattle.std.proofs.Common.{◌∙◌, ◌+◌, sym, refl, arith}
use Rattle.std.proofs.lemmas.List.{take_rest}
use Rattle.spec_grammar.proofs.StandLaws.{stands_first, stands_more}
use Rattle.spec_grammar.proofs.FaultLaws.{fault_here, fits, ends_early}
use Rattle.spec_grammar.proofs.reading.read_items.Goals as goal

pub loop-at-init : goal.loop-at-init
loop-at-init c = rw c.requires (stands_first c.args.mode c.args.text.now c.white_length-at.result _ c.white_length-at.ensures.value refl)

pub moved-requires : goal.moved-requires
moved-requires c =
    let fault = rw (take_rest c.args.text.now c.loop-at.at) at c.in-Err.ensures.fault in
    fits c.args.mode c.args.text.now c.loop-at.at c.loop-at.before c.loop-at.gap c.in-Err.fault c.loop-at.invariant.within
    (omega arith) fault

pub returns-in-Err-clause-fault : goal.returns-in-Err-clause-fault
returns-in-Err-clause-fault c =
    let fault = rw (take_rest c.args.text.now c.loop-at.at) at c.in-Err.ensures.fault in
    rw c.moved.ensures (fault_here c.args.mode c.args.text.now c.loop-at.at c.loop-at.draft c.loop-at.before c.loop-at.gap c.in-Err.fault
    c.loop-at.invariant c.loop-at-test.true fault)

pub loop-at-preserved : goal.loop-at-preserved
loop-at-preserved c =
    let taken = rw (take_rest c.args.text.now c.loop-at.at) at c.in-Ok.ensures.found.0 in
    let n = c.in-Ok.found.1 in
    let white = rw (take_rest c.args.text.now (c.loop-at.at + n)) at c.white_length-white.ensures.value in
    let item = rw c.if-not-branch.false at c.in_ok-take.ensures in
    rw c.before_item-before.ensures
    (stands_more c.args.mode c.args.text.now c.loop-at.at n c.white_length-white.result c.loop-at.draft c.take.new.self c.loop-at.before
    c.loop-at.gap _ c.in-Ok.found.0 c.loop-at.invariant taken item white refl)

pub returns-in-None-clause-fault : goal.returns-in-None-clause-fault
returns-in-None-clause-fault c =
    ends_early c.args.mode c.args.text.now c.loop-at.at c.loop-at.draft c.loop-at.before c.loop-at.gap c.loop-at.invariant (omega arith)
    (sym c.in_ok-specs.ensures ∙ c.in-None.is)
