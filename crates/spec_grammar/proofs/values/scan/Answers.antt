use Rattle.std.proofs.Common.{◌∙◌, length, arith}
use Rattle.std.proofs.lemmas.List.{take_all}
use Rattle.version_order.proofs.MachineLaws.{run_more}
use Rattle.spec_grammar.specs.Values.{after}
use Rattle.spec_grammar.proofs.values.scan.Goals as goal

pub returns-in-None : goal.returns-in-None
returns-in-None c = record { within = omega arith; reached = c.loop-index.invariant; stuck = λ lt. cc }

pub loop-index-preserved : goal.loop-index-preserved
loop-index-preserved c = run_more after c.args.start c.loop-index.run c.args.text.now c.loop-index.index (omega arith)
    c.loop-index.invariant ∙ cc

pub returns : goal.returns
returns c =
    let all = take_all c.loop-index.index c.args.text.now (omega arith) in
    let whole = take_all (length c.args.text.now) c.args.text.now (omega arith) in
    record { within = omega arith; reached = rw (whole, ← all) c.loop-index.invariant; stuck = λ lt. absurd (omega arith) }
