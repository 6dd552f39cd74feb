use Rattle.table_building.specs.Parts.{names_by}
use Rattle.table_building.proofs.Indexed.{values_indexed}
use Rattle.table_building.proofs.variants.possible_variants.Goals as goal

pub returns : goal.returns
returns c =
    let can = c.args.can in
    let rows = c.args.rows.now in
    let kept = c.args.kept.now in
    let same = rw c.in_ok-entries.ensures at c.in_ok-index.ensures in
    rw (c.in_ok-variants.ensures, c.values.ensures.texts, c.in_ok-names.ensures)
    (values_indexed can rows kept c.in_ok-index.index same (names_by can rows kept))
