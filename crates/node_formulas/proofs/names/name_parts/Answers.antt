use Rattle.std.proofs.Common.{refl}
use Rattle.std.proofs.lemmas.Fn.{says_at}
use Rattle.std.proofs.lemmas.List.{drop_all}
use Rattle.word_formulas.proofs.Steps.{one_done, all_done, ok-is}
use Rattle.node_formulas.proofs.names.name_parts.Goals as goal

pub loop-block-preserved : goal.loop-block-preserved
loop-block-preserved g c = λ formula builds.
    let x = c.block-item.result in
    let made = ok-is c.part.result c.in_ok-made.made (formula x.name) c.in_ok-made.was (builds _ _ (says_at g.F.Fn c.part.ensures refl)) in
    one_done (λ b. formula b.name) c.loop-block.parts.items c.push.new.self.items c.args.blocks.now c.loop-block.block-index x
    c.in_ok-made.made
    c.loop-block-test.true c.block-item.is made c.in_ok-push.ensures.items (c.loop-block.invariant formula builds)

pub returns : goal.returns
returns g c = λ formula builds. all_done (λ b. formula b.name) c.loop-block.parts.items c.args.blocks.now c.loop-block.block-index
    (drop_all c.loop-block.block-index c.args.blocks.now c.loop-block-test.false) (c.loop-block.invariant formula builds)
