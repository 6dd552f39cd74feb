use Rattle.std.proofs.Common.{Some}
use Rattle.settings_reader.specs.Required.{IsCondition, IsWhenBy}
use Rattle.settings_reader.proofs.Telling.{hands_on, told_err}
use Rattle.settings_reader.proofs.required.parse_written.Goals as goal

pub returns-in_err-spec : goal.returns-in_err-spec
returns-in_err-spec c =
    let text = c.args.text.now in
    let stop = c.in_err-spec.field-0.0 in
    hands_on (IsWhenBy (Some text)) stop c.from_residual.result c.from_residual.ensures.1
    (told_err (IsCondition text) _ stop c.in_err-spec.ensures)
