use Rattle.serde_json.specs.View.{view}
use Rattle.lockfile.proofs.ReadLaws.{provided}
use Rattle.lockfile.proofs.lock.read_value.Goals as goal

pub lock_of-requires : goal.lock_of-requires
lock_of-requires c = provided (view c.args.value.now) c.in-Ok.file c.in-Ok.ensures
