use Rattle.std.proofs.Common.{Some, codes}
use Rattle.serde_json.specs.View.{members_view}
use Rattle.json_readers.specs.Objects.{may}
use Rattle.json_readers.specs.Texts.{text_of}
use Rattle.settings_reader.proofs.Telling.{said_tells}
use Rattle.settings_reader.proofs.required.when_in.Goals as goal

pub returns : goal.returns
returns c = said_tells (may (text_of Some) (codes "when") (members_view c.args.members.now.entries)) c.in_ok-text.text _ c.when_below.result
    c.in_ok-text.ensures c.when_below.ensures
