use Rattle.std.proofs.Common.{refl}
use Rattle.std.proofs.lemmas.Fn.{says_at}
use Rattle.std.proofs.lemmas.List.{drop_all}
use Rattle.word_formulas.proofs.Steps.{one_done, all_done, ok-is}
use Rattle.node_formulas.proofs.names.virtual_parts.Goals as goal

pub loop-provider-preserved : goal.loop-provider-preserved
loop-provider-preserved g c = λ formula builds.
    let x = c.provider-item.result in
    let made = ok-is c.part.result c.in_ok-made.made (formula x.name) c.in_ok-made.was (builds _ _ (says_at g.F.Fn c.part.ensures refl)) in
    one_done (λ p. formula p.name) c.loop-provider.parts.items c.push.new.self.items c.args.providers.now c.loop-provider.provider-index x
    c.in_ok-made.made
    c.loop-provider-test.true c.provider-item.is made c.in_ok-push.ensures.items (c.loop-provider.invariant formula builds)

pub returns : goal.returns
returns g c = λ formula builds. all_done (λ p. formula p.name) c.loop-provider.parts.items c.args.providers.now
    c.loop-provider.provider-index
    (drop_all c.loop-provider.provider-index c.args.providers.now c.loop-provider-test.false) (c.loop-provider.invariant formula builds)
