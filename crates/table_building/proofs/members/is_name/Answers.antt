use Rattle.table_building.proofs.Steps.{told_among}
use Rattle.table_building.proofs.members.is_name.Goals as goal

pub returns : goal.returns
returns c = told_among c.args.names.now c.args.text.now c.has.result c.has.ensures
