use Rattle.settings_reader.specs.Required.{IsOnly, AreOnly}
use Rattle.settings_reader.proofs.Telling.{hands_on, told_err}
use Rattle.settings_reader.proofs.required.parse_alone.Goals as goal

pub returns-in_err-entry : goal.returns-in_err-entry
returns-in_err-entry c =
    let text = c.args.text.now in
    let stop = c.in_err-entry.field-0.0 in
    hands_on (AreOnly text) stop c.from_residual.result c.from_residual.ensures.1
    (told_err (IsOnly text) _ stop c.in_err-entry.ensures)
