-- The rule of kept nodes, and of the prefix of built ones.
use Rattle.std.specs.Prelude.{Bool, true, false, List, [], Option, Some, None, is_none, slice_get}
use Rattle.std.specs.List.{list_any}
use Rattle.std.specs.Option.{option_eq}
use Rattle.std.specs.Str.{bytes_eq}
use Rattle.clause_formulas.specs.Rules.{Proposition, fact, isnt, if_so}
use Rattle.graph_core.specs.Graphs.{Text, no_kinds}
use Rattle.graph_core.specs.declared.node.Node.{Node}
use Rattle.graph_core.specs.declared.node.Kinds.{Kinds}
use Rattle.reuse_db.specs.declared.record.Dependency.{Dependency}
use Rattle.graph_core.specs.declared.node.Origin.{Origin}
use Rattle.graph_core.specs.declared.node.Origin.TheVariants.{Built, External, Installed}
use Rattle.condition_rules.specs.Words.{is_some_and}
use Rattle.problem.specs.Nodes.{same_origin}
use Rattle.problem.specs.Problems.{Problem, package_entry_of, externals_in, record_at, same_compiler}
use Rattle.problem.specs.Records.{kept_dependencies}
use Rattle.reuse_db.specs.declared.record.Record.{Record}
use Rattle.graph_rules.specs.Kept.{external_node}
use Rattle.reuse_db.specs.Installed.{installed_node}
use Rattle.literal_table.specs.Choices.{choice_values}
use Rattle.literal_table.specs.Tables.{Table, block_of}
use Rattle.literal_table.specs.declared.block.Block.{Block}
use Rattle.graph_formulas.specs.Facts.{GraphWord, node_has, has_origin, has_version, has_variants, has_compiler, has_os, has_target, has_prefix, has_edge, has_virtuals, provides_as}
use Rattle.graph_formulas.specs.Lists.{◌and◌, settled_test, one_keeps, each_keeps}

-- ---- origins

abbrev pub installs : Text → Origin → Bool
installs hash origin = elim origin [ Built ↦ false | External place ↦ false | Installed h ↦ bytes_eq h hash ]

abbrev pub origins_in : Option Block → List Origin
origins_in None = []
origins_in (Some b) = choice_values b.origins

-- the origins that the table offers a name
abbrev pub origins_of : Table → Text → List Origin
origins_of table name = origins_in (block_of table name)

-- ---- attributes

-- the node of the name has all attributes of this one but the origin
abbrev pub same_rule : Text → Node → Proposition GraphWord
same_rule name k =
    settled_test (bytes_eq name k.name)
    and fact (node_has name (has_version (λ version. bytes_eq version k.version)))
    and fact (node_has name (has_variants k.variants))
    and fact (node_has name (has_compiler (λ compiler. option_eq same_compiler compiler k.compiler)))
    and fact (node_has name (has_os (λ os. bytes_eq os k.os)))
    and fact (node_has name (has_target (λ target. bytes_eq target k.target)))
    and fact (node_has name (has_prefix (λ prefix. option_eq bytes_eq prefix k.prefix)))

-- ---- edges

-- an edge has the kinds link and run alone, as recorded
abbrev pub kinds_rule : Text → Text → Kinds → Proposition GraphWord
kinds_rule name child kinds =
    fact (has_edge name child (record kinds { build = false }))
    and isnt (fact (has_edge name child (record no_kinds { build = true })))
    and if_so (fact (has_edge name child (record no_kinds { link = true }))) (settled_test kinds.link)
    and if_so (fact (has_edge name child (record no_kinds { run = true }))) (settled_test kinds.run)

abbrev pub is_child_name : Problem → Record → Text → Bool
is_child_name problem entry name =
    list_any (λ d. is_some_and (record_at problem d.hash) (λ child. bytes_eq child.name name)) (kept_dependencies entry)

-- the package is the provider of each of the virtuals
abbrev pub provided_rule : Text → List Text → Proposition GraphWord
provided_rule name virtuals = each_keeps (λ virtual. fact (provides_as virtual name)) virtuals

-- the node is there as the installed one of that hash, with its edge, and provides what is recorded
abbrev pub joined_rule : Text → Text → Dependency → Proposition GraphWord
joined_rule name child d =
    fact (node_has child (has_origin (installs d.hash))) and (kinds_rule name child d.kinds and fact (has_virtuals name child d.virtuals))
    and provided_rule child d.virtuals

module _ (problem : Problem) (children : List Text) where
  abbrev pub child_rule : Text → Dependency → Proposition GraphWord
  child_rule name d = one_keeps (record_at problem d.hash) (λ child. joined_rule name child.name d)

  -- an edge goes to a child of the record
  abbrev pub recorded_rule : Text → Record → Text → Proposition GraphWord
  recorded_rule name entry child = if_so (fact (has_edge name child no_kinds)) (settled_test (is_child_name problem entry child))

  -- ---- the rule

  abbrev pub origin_rule : Text → Origin → Proposition GraphWord
  origin_rule name Built = fact (node_has name (has_prefix is_none))
  origin_rule name (External place) =
      one_keeps (slice_get (externals_in (package_entry_of problem name)) place)
      (λ entry. same_rule name (external_node problem name place entry))
      and each_keeps (λ child. isnt (fact (has_edge name child no_kinds))) children
  origin_rule name (Installed hash) =
      one_keeps (record_at problem hash) (λ entry.
      same_rule name (installed_node entry)
      and each_keeps (child_rule name) (kept_dependencies entry)
      and each_keeps (recorded_rule name entry) children)

  -- where the node has an origin, it is as that origin asks
  abbrev pub kept_rule : List Origin → Text → Proposition GraphWord
  kept_rule origins name = each_keeps (λ origin. if_so (fact (node_has name (has_origin (same_origin origin)))) (origin_rule name origin))
      origins
