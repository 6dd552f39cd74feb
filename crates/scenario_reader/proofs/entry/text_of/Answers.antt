use Rattle.std.proofs.Common.{◌∙◌}
use Rattle.scenario_reader.proofs.Texts.{text_right, text_wrong}
use Rattle.scenario_reader.proofs.entry.text_of.Goals as goal

pub returns-in_ok-new-in-Ok : goal.returns-in_ok-new-in-Ok
returns-in_ok-new-in-Ok c = text_right c.args.bytes.now _ c.in-Ok.ensures.cases.1 (c.in_ok-new-in-Ok.ensures ∙ c.in-Ok.ensures.cases.0)

pub returns-in-Err : goal.returns-in-Err
returns-in-Err c = text_wrong c.args.bytes.now c.in-Err.ensures.cases.0
