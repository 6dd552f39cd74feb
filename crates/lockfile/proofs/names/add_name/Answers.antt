use Rattle.std.proofs.lemmas.Map.Text.{btree_map_updates_text}
use Rattle.lockfile.proofs.names.add_name.Goals as goal

pub returns : goal.returns
returns c = rw (← c.as_str.ensures, ← c.in_ok-hash.ensures.ok, ← c.in_ok-name.ensures)
    (btree_map_updates_text _ c.args.names.now c.insert.new.self _ c.in_ok-insert.ensures.updates)
