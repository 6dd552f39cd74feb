use Rattle.level_encoding.specs.Input.{chosen}
use Rattle.literal_table.specs.Tables.{table_names}
use Rattle.graph_levels.proofs.PlaceLaws.{place-at, names-once}
use Rattle.graph_levels.proofs.ArcLaws.{path-law}
use Rattle.graph_levels.proofs.level_theorems.path_laws.Goals as goal

pub returns : goal.returns
unfolding chosen
returns c = λ t ls roots targets first v g table spells graph p q i j at_p at_q.
    path-law t g v spells.0 graph ls spells.1 (names-once t table) p q i j (place-at (table_names t) p i at_p)
    (place-at (table_names t) q j at_q)
