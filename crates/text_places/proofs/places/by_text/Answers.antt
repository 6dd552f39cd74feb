use Rattle.std.proofs.lemmas.List.{take_all}
use Rattle.std.proofs.lemmas.Result.{IfOk-weaker}
use Rattle.keyed_lists.proofs.Lent.{indexes}
use Rattle.text_places.proofs.places.by_text.Goals as goal

pub returns : goal.returns
returns c =
    let all = rw (take_all c.loop-one.one-index c.args.placed.now c.loop-one-test.false) at c.loop-one.invariant in
    IfOk-weaker c.new.result _ _ (λ index same. indexes (λ p. p.0.now) c.args.placed.now c.loop-one.entries.items index all same)
    c.new.ensures
