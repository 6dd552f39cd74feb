use Rattle.std.proofs.Common.{◌≡◌, ◌++◌, map, drop}
use Rattle.recipe_reader.specs.Rows.{provided}
use Rattle.recipe_reader.proofs.row.push_provided.Given as goal

abbrev pub invariant-loop-part : goal.invariant-loop-part
invariant-loop-part l = l.rows ++ map (provided l.number l.when) (drop l.part-index l.parts) ≡ l.fn.rows
    ++ map (provided l.number l.when) l.parts
