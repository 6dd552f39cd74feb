-- What a part of a spec asks of one node.
use Rattle.std.specs.Prelude.{Bool, true, ◌&&◌, List, find, Option, Some, None, if◌then◌else◌}
use Rattle.std.specs.List.{list_any, list_all}
use Rattle.std.specs.Str.{bytes_eq}
use Rattle.virtuals.specs.OfConditions.Sets.{set_contains, sets_overlap}
use Rattle.virtuals.specs.OfConditions.Item.{Item}
use Rattle.virtuals.specs.OfConditions.Part.{Part}
use Rattle.virtuals.specs.OfConditions.TargetItem.{TargetItem}
use Rattle.target_table.specs.Targets.{in_range}
use Rattle.virtuals.specs.OfGraphCore.Graphs.{Text}
use Rattle.virtuals.specs.OfGraphCore.Node.{Node}
use Rattle.virtuals.specs.OfGraphCore.Compiler.{Compiler}
use Rattle.virtuals.specs.OfConditions.ProvideRow.{ProvideRow}
use Rattle.condition_rules.specs.Words.{includes, if_written, is_some_and}
use Rattle.condition_rules.specs.Worlds.{World, recipe_of, rows}

-- ---- the constraints, one by one

-- the name is the node's, where one is written
abbrev pub meets_name : Part → Node → Bool
meets_name part node = if_written part.name (bytes_eq node.name)

-- the version set contains the node's version
abbrev pub meets_versions : Part → Node → Bool
meets_versions part node = if_written part.versions (λ set. set_contains set node.version)

-- the node has the variant, with all the values that are asked for
abbrev pub has_values : List (Text × List Text) → (Text × List Text) → Bool
has_values variants wanted = is_some_and (find (λ v. bytes_eq v.0 wanted.0) variants) (λ v. includes v.1 wanted.1)

-- each variant that is asked for is there, with all its values
abbrev pub meets_variants : Part → Node → Bool
meets_variants part node = list_all (has_values node.variants) part.variants

-- the compiler has the name, and its version is in the list
abbrev pub is_compiler : (Text × Option (List Item)) → Compiler → Bool
is_compiler wanted compiler =
    bytes_eq wanted.0 compiler.name && if_written wanted.1 (λ set. set_contains set compiler.version)

-- the node has a compiler, and it is the one that is asked for
abbrev pub meets_compiler : Part → Node → Bool
meets_compiler part node = if_written part.compiler (λ wanted. is_some_and node.compiler (is_compiler wanted))

-- the platform is the machine's
abbrev pub meets_platform : World → Part → Bool
meets_platform world part = if_written part.platform (bytes_eq world.platform)

abbrev pub meets_os : Part → Node → Bool
meets_os part node = if_written part.os (bytes_eq node.os)

-- `t` alone means that target, and a range the targets in it
abbrev pub is_target : World → Text → TargetItem → Bool
is_target world target item =
    if item.range then in_range world.targets target item.low item.high
    else is_some_and item.low (bytes_eq target)

-- some item of the targets holds
abbrev pub meets_targets : World → Part → Node → Bool
meets_targets world part node = if_written part.targets (list_any (is_target world node.target))

-- ---- all of them

-- the constraints other than name and version
unfoldable pub meets_rest : World → Part → Node → Bool
meets_rest world part node =
    meets_variants part node && meets_compiler part node && meets_platform world part && meets_os part node && meets_targets world part node

-- a part holds at a node
unfoldable pub meets : World → Part → Node → Bool
meets world part node = meets_name part node && meets_versions part node && meets_rest world part node

-- ---- what a node provides

-- a list that is not written overlaps every list
abbrev pub lists_overlap : Option (List Item) → Option (List Item) → Bool
lists_overlap None wanted = true
lists_overlap (Some provided) None = true
lists_overlap (Some provided) (Some wanted) = sets_overlap provided wanted

-- the row's condition holds at the node, of which alone a condition of `provides` speaks, and its list overlaps
abbrev pub row_provides : World → Node → Text → Option (List Item) → ProvideRow → Bool
row_provides world node name wanted row =
    bytes_eq row.name name && list_all (λ spec. meets world spec.top node) row.when.specs && lists_overlap row.versions wanted

-- some row of the node's recipe provides the virtual for the list
unfoldable pub provides : World → Node → Text → Option (List Item) → Bool
provides world node name wanted = list_any (row_provides world node name wanted)
    (rows (λ recipe. recipe.provides) (recipe_of world node.name))
