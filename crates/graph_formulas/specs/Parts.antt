-- What parts, specs and conditions ask, as rules over the facts of a graph.
use Rattle.std.specs.Prelude.{Bool, ◌&&◌, ◌||◌, List, filter, Option, is_some, if◌then◌else◌}
use Rattle.std.specs.List.{list_any}
use Rattle.std.specs.Str.{bytes_eq}
use Rattle.version_order.specs.Sets.{set_contains}
use Rattle.version_order.specs.declared.item.Item.{Item}
use Rattle.spec_grammar.specs.declared.part.Part.{Part}
use Rattle.spec_grammar.specs.declared.part.Spec.{Spec}
use Rattle.graph_core.specs.Graphs.{Text}
use Rattle.clause_formulas.specs.Rules.{Proposition, fact, nowhere}
use Rattle.virtuals.specs.Virtuals.{is_virtual}
use Rattle.condition_rules.specs.Words.{if_written, is_some_and}
use Rattle.condition_rules.specs.Worlds.{World, recipe_of, rows}
use Rattle.condition_rules.specs.Meets.{meets_platform, lists_overlap, is_compiler, is_target}
use Rattle.recipe_data.specs.OfSpecGrammar.Condition.{Condition}
use Rattle.recipe_data.specs.declared.recipe.ProvideRow.{ProvideRow}
use Rattle.graph_formulas.specs.Facts.{GraphWord, is_there, has_version, has_variant, has_value, has_compiler, has_os, has_target, node_has, provides_as, has_path}
use Rattle.graph_formulas.specs.Lists.{◌and◌, settled_test, asked_unless, where_written, one_keeps, each_keeps, some}
use Rattle.problem.specs.Closure.{is_filled}

-- ---- at the node of a name

abbrev pub there_rule : Text → Proposition GraphWord
there_rule name = fact (node_has name is_there)

-- the node has the variant, with all the values that are asked for: where it has one of these, it has the variant
abbrev pub values_rule : Text → (Text × List Text) → Proposition GraphWord
values_rule name wanted =
    asked_unless (is_filled wanted.1) (fact (node_has name (has_variant wanted.0)))
    and each_keeps (λ value. fact (node_has name (has_value wanted.0 (bytes_eq value)))) wanted.1

-- whether a part asks for what only a node has
abbrev pub asks_rest : Part → Bool
asks_rest part = is_filled part.variants || is_some part.compiler || is_some part.os || is_some part.targets

abbrev pub asks_fact : Part → Bool
asks_fact part = is_some part.versions || asks_rest part

-- the constraints other than name and version
unfoldable pub rest_rule : World → Text → Part → Proposition GraphWord
rest_rule world name part =
    each_keeps (values_rule name) part.variants
    and where_written part.compiler (λ wanted. fact (node_has name (has_compiler (λ c. is_some_and c (is_compiler wanted)))))
    and settled_test (meets_platform world part)
    and where_written part.os (λ os. fact (node_has name (has_os (λ o. bytes_eq o os))))
    and where_written part.targets (λ items. fact (node_has name (has_target (λ target. list_any (is_target world target) items))))

-- the node is there, and the part holds at it: where the node has what is asked for, it is there
unfoldable pub meets_rule : World → Text → Part → Proposition GraphWord
meets_rule world name part =
    asked_unless (asks_fact part) (there_rule name)
    and settled_test (if_written part.name (bytes_eq name))
    and where_written part.versions (λ set. fact (node_has name (has_version (set_contains set))))
    and rest_rule world name part

-- ---- virtuals

-- the node is there, and the top parts hold at it
abbrev pub tops_rule : World → Text → List Spec → Proposition GraphWord
tops_rule world name specs = asked_unless (is_filled specs) (there_rule name) and each_keeps (λ spec. meets_rule world name spec.top) specs

abbrev pub row_rule : World → Text → Text → Option (List Item) → ProvideRow → Proposition GraphWord
row_rule world name virtual wanted row =
    if bytes_eq row.name virtual && lists_overlap row.versions wanted then tops_rule world name row.when.specs else nowhere

-- the rows of the package that name the virtual
abbrev pub rows_naming : World → Text → Text → List ProvideRow
rows_naming world name virtual = filter (λ row. bytes_eq row.name virtual) (rows (λ recipe. recipe.provides) (recipe_of world name))

-- the node is there and provides the virtual: of rows of other names nothing is said
unfoldable pub provides_rule : World → Text → Text → Option (List Item) → Proposition GraphWord
provides_rule world name virtual wanted = some (row_rule world name virtual wanted) (rows_naming world name virtual)

-- the node that a name asks for keeps a rule: that of the package, or of some package that may provide the virtual
abbrev pub asked_rule : World → (Text → List Text) → Text → (Text → Proposition GraphWord) → Proposition GraphWord
asked_rule world packages asked rule =
    if is_virtual world.recipes asked then some (λ name. fact (provides_as asked name) and rule name) (packages asked)
    else rule asked

-- the part, which has this name, holds at the node
abbrev pub suits_rule : World → Part → Text → Text → Proposition GraphWord
suits_rule world part asked name =
    if is_virtual world.recipes asked then provides_rule world name asked part.versions and rest_rule world name part
    else meets_rule world name part

-- ---- specs and conditions

abbrev pub below_rule : World → (Text → List Text) → Text → Part → Proposition GraphWord
below_rule world packages from part =
    one_keeps part.name (λ asked. asked_rule world packages asked (λ name. suits_rule world part asked name and fact (has_path from name)))

unfoldable pub holds_rule : World → (Text → List Text) → Text → Spec → Proposition GraphWord
holds_rule world packages name spec = meets_rule world name spec.top and each_keeps (below_rule world packages name) spec.below

unfoldable pub condition_rule : World → (Text → List Text) → Text → Condition → Proposition GraphWord
condition_rule world packages name condition = each_keeps (holds_rule world packages name) condition.specs
