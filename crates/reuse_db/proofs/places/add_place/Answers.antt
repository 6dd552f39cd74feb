use Rattle.std.proofs.lemmas.Map.Text.{btree_map_updates_text}
use Rattle.reuse_db.proofs.places.add_place.Goals as goal

pub returns : goal.returns
returns c = rw (← c.in_ok-from_str.ensures.ok)
    (btree_map_updates_text _ c.args.places.now c.insert.new.self _ c.in_ok-insert.ensures.updates)
