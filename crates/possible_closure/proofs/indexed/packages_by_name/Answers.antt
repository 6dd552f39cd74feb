use Rattle.std.proofs.lemmas.List.{take_all}
use Rattle.std.proofs.lemmas.Result.{IfOk-weaker}
use Rattle.keyed_lists.proofs.Lent.{indexes}
use Rattle.possible_closure.proofs.indexed.packages_by_name.Goals as goal

pub returns : goal.returns
returns c =
    let all = rw (take_all c.loop-entry.entry-index c.args.packages.now c.loop-entry-test.false) at c.loop-entry.invariant in
    IfOk-weaker c.new.result _ _ (λ index same. indexes (λ entry. entry.name) c.args.packages.now c.loop-entry.named.items index all same)
    c.new.ensures
