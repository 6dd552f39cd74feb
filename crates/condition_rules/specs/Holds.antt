-- What a spec, and a condition, means at a node of a graph.
use Rattle.std.specs.Prelude.{Bool, ◌&&◌, Option, Some, option_and_then, if◌then◌else◌}
use Rattle.std.specs.List.{list_all}
use Rattle.std.specs.Str.{bytes_eq}
use Rattle.virtuals.specs.OfConditions.Part.{Part}
use Rattle.virtuals.specs.OfConditions.Spec.{Spec}
use Rattle.virtuals.specs.OfGraphCore.Graphs.{Text, Content, node_of, provider_of}
use Rattle.virtuals.specs.OfGraphCore.Paths.{reaches_in}
use Rattle.virtuals.specs.OfGraphCore.Node.{Node}
use Rattle.virtuals.specs.OfConditions.Condition.{Condition}
use Rattle.virtuals.specs.OfConditions.VariantRow.{VariantRow}
use Rattle.virtuals.specs.Virtuals.{is_virtual}
use Rattle.condition_rules.specs.Words.{is_some_and, find_last}
use Rattle.condition_rules.specs.Worlds.{World, recipe_of, rows}
use Rattle.condition_rules.specs.Meets.{meets, meets_rest, provides}

-- the node that a name asks for: that of the package, or the provider of the virtual
unfoldable pub asked_node : World → Content → Text → Option Node
asked_node world graph name =
    option_and_then (node_of graph) (if is_virtual world.recipes name then provider_of graph name else Some name)

-- the part, which has this name, holds at the node that the name asks for: at a virtual's provider a provision
-- overlaps the part's list, and the constraints other than name and version hold
unfoldable pub suits : World → Part → Text → Node → Bool
suits world part name node =
    if is_virtual world.recipes name then provides world node name part.versions && meets_rest world part node
    else meets world part node

-- a part after `^` holds where it holds at the node that it asks for, and a path leads there; one without a
-- name never does
abbrev pub holds_below : World → Content → Text → Part → Bool
holds_below world graph from part =
    is_some_and part.name (λ name. is_some_and (asked_node world graph name) (λ node. suits world part name node
    && reaches_in graph from node.name))

-- the spec holds at the name: it is a node, where the top part and each part after `^` hold
unfoldable pub holds : World → Spec → Content → Text → Bool
holds world spec graph name =
    is_some_and (node_of graph name) (meets world spec.top) && list_all (holds_below world graph name) spec.below

-- all specs of the condition hold
unfoldable pub all_hold : World → Condition → Content → Text → Bool
all_hold world condition graph name = list_all (λ spec. holds world spec graph name) condition.specs

-- the row defines the variant, and its condition holds
abbrev pub is_governed_by : World → Content → Text → Text → VariantRow → Bool
is_governed_by world graph name variant row = bytes_eq row.name variant && all_hold world row.when graph name

-- the last definition of the variant whose condition holds
unfoldable pub governing : World → Content → Text → Text → Option VariantRow
governing world graph name variant = find_last (is_governed_by world graph name variant)
    (rows (λ recipe. recipe.variants) (recipe_of world name))
