use Rattle.std.proofs.Common.{sym}
use Rattle.std.proofs.lemmas.Result.{IfOk-weaker, IfErr-weaker}
use Rattle.spec_grammar.specs.Locals.{IsCutOff, IsItemFault, IsAllowedItem, IsItemFaultHere}
use Rattle.spec_grammar.proofs.ItemLaws.{refused_stuck, taken, refused, none_stuck}
use Rattle.spec_grammar.proofs.read_item.read_item.Goals as goal

pub returns-in_default-clause-fault : goal.returns-in_default-clause-fault
returns-in_default-clause-fault c = none_stuck c.args.mode c.args.before c.args.gap c.args.text.now (sym c.in_default.ensures)

pub returns-then-not-may_stand-clause-fault : goal.returns-then-not-may_stand-clause-fault
returns-then-not-may_stand-clause-fault c =
    rw c.refused_at.ensures (refused_stuck c.args.mode c.args.before c.args.gap c.in-Some.kind c.args.text.now (sym c.in-Some.ensures) (cc))

pub returns-clause-found : goal.returns-clause-found
returns-clause-found c =
    IfOk-weaker c.item.result (λ found. IsCutOff c.args.text.now found.0 found.1)
    (λ found. IsAllowedItem c.args.mode c.args.before c.args.gap c.args.text.now found.0 found.1)
    (λ found h. taken c.args.mode c.args.before c.args.gap c.in-Some.kind c.args.text.now found.0 found.1 (sym c.in-Some.ensures) (cc) h)
    c.item.ensures.found

pub returns-clause-fault : goal.returns-clause-fault
returns-clause-fault c =
    IfErr-weaker c.item.result (IsItemFault c.args.text.now) (IsItemFaultHere c.args.mode c.args.before c.args.gap c.args.text.now)
    (λ fault h. refused c.args.mode c.args.before c.args.gap c.in-Some.kind c.args.text.now fault (sym c.in-Some.ensures) (cc) h)
    c.item.ensures.fault
