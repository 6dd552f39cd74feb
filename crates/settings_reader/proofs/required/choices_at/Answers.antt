use Rattle.serde_json.specs.View.{members_view}
use Rattle.json_readers.specs.Objects.{may}
use Rattle.settings_reader.specs.Lists.{text_list}
use Rattle.settings_reader.proofs.Telling.{said_tells}
use Rattle.settings_reader.proofs.required.choices_at.Goals as goal

pub returns : goal.returns
returns c = said_tells (may text_list c.args.key.now (members_view c.args.members.now.entries)) c.in_ok-texts.texts _
    c.choices_below.result c.in_ok-texts.ensures c.choices_below.ensures
