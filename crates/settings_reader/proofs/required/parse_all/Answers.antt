use Rattle.settings_reader.specs.Required.{AreConditions}
use Rattle.settings_reader.proofs.Conditions.{text_end, text_more, text_stop}
use Rattle.settings_reader.proofs.Telling.{hands_on}
use Rattle.settings_reader.proofs.required.parse_all.Goals as goal

pub returns-in_err-condition_at : goal.returns-in_err-condition_at
returns-in_err-condition_at c =
    let texts = c.args.texts.now in
    let stop = c.in_err-condition_at.field-0.0 in
    hands_on (AreConditions texts) stop c.from_residual.result c.from_residual.ensures.1
    (text_stop texts c.loop-i.i c.index-texts-i.result c.loop-i.specs stop c.loop-i.invariant c.loop-i-test.true c.index-texts-i.is
    c.in_err-condition_at.ensures)

pub loop-i-preserved : goal.loop-i-preserved
loop-i-preserved c =
    text_more c.args.texts.now c.loop-i.i c.index-texts-i.result c.loop-i.specs c.push.new.self c.in_ok-condition_at.field-0
    c.loop-i.invariant c.loop-i-test.true c.index-texts-i.is c.in_ok-condition_at.ensures c.in_ok-push.ensures.ok

pub returns : goal.returns
returns c = text_end c.args.texts.now c.loop-i.i c.loop-i.specs c.loop-i.invariant c.loop-i-test.false
