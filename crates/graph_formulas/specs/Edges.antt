-- The rules of edges that none asks for, and of providers that none uses.
use Rattle.std.specs.Prelude.{Bool, true, ◌&&◌, List, filter, if◌then◌else◌}
use Rattle.std.specs.Str.{bytes_eq}
use Rattle.clause_formulas.specs.Rules.{Proposition, fact, if_so}
use Rattle.graph_core.specs.Graphs.{Text, no_kinds}
use Rattle.condition_rules.specs.Words.{is_one_text, is_some_and}
use Rattle.condition_rules.specs.Worlds.{World}
use Rattle.graph_core.specs.declared.node.Kinds.{Kinds}
use Rattle.virtuals.specs.Virtuals.{is_virtual}
use Rattle.recipe_data.specs.declared.recipe.DependRow.{DependRow}
use Rattle.problem.specs.Problems.{Problem, world_of, depends_at}
pub use Rattle.graph_rules.specs.Built.{names_virtual}
use Rattle.graph_formulas.specs.Facts.{GraphWord, provides_as, has_edge, has_virtual}
use Rattle.graph_formulas.specs.Lists.{◌and◌, settled_test, one_keeps, each_keeps, some}
use Rattle.graph_formulas.specs.Terms.{Term, known_rule, met_rule}

-- a name asks for this child, where that is there: it is the child's own, or that of a virtual which the child provides
abbrev pub asked_child : World → Text → Text → Proposition GraphWord
asked_child world child asked = if is_virtual world.recipes asked then fact (provides_as asked child) else settled_test
    (bytes_eq asked child)

module _ (problem : Problem) (packages : Text → List Text) where
  -- the row holds at the node and asks for this child, where that is there
  abbrev pub asks_rule : Text → Text → DependRow → Proposition Term
  asks_rule name child row = met_rule name row.when and known_rule (one_keeps row.part.name (asked_child (world_of problem) child))

  -- the row may ask for this child, by its name or by a virtual
  abbrev pub may_ask : Text → DependRow → Bool
  may_ask child row = is_some_and row.part.name
      (λ asked. if is_virtual problem.recipes asked then is_one_text (packages asked) child else bytes_eq asked child)

  -- where the edge has the kind, some row asks for it
  abbrev pub kind_rule : Kinds → (Kinds → Bool) → Text → Text → Proposition Term
  kind_rule kinds has name child =
      if_so (known_rule (fact (has_edge name child kinds)))
      (some (asks_rule name child) (filter (λ row. has row.kinds && may_ask child row) (depends_at problem name)))

  -- where the edge names the virtual, the child is its provider, and some row that holds asks for it
  abbrev pub virtual_rule : Text → Text → Text → Proposition Term
  virtual_rule name child virtual =
      if_so (known_rule (fact (has_virtual name child virtual)))
      (known_rule (fact (provides_as virtual child))
      and some (λ row. met_rule name row.when) (filter (names_virtual problem virtual) (depends_at problem name)))

  -- of an edge that may name these virtuals
  abbrev pub extra_edge_rule : List Text → Text → Text → Proposition Term
  extra_edge_rule virtuals name child =
      kind_rule (record no_kinds { build = true }) (λ kinds. kinds.build) name child
      and kind_rule (record no_kinds { link = true }) (λ kinds. kinds.link) name child
      and kind_rule (record no_kinds { run = true }) (λ kinds. kinds.run) name child
      and each_keeps (virtual_rule name child) virtuals

  -- of the edges to each of these names, each of which may name these virtuals
  abbrev pub extra_edges_rule : (Text → List Text) → List Text → Text → Proposition Term
  extra_edges_rule virtuals children name = each_keeps (λ child. extra_edge_rule (virtuals child) name child) children

-- an edge from the name to the provider names the virtual
abbrev pub use_rule : Text × Text → Text → Proposition Term
use_rule p name = known_rule (fact (has_virtual name p.1 p.0))

-- so it is of one of these names, from which an edge may
abbrev pub used_rule : (Text × Text → Text → Bool) → List Text → Text × Text → Proposition Term
used_rule may_use names p = some (use_rule p) (filter (may_use p) names)

-- the provider of a virtual keeps a rule
abbrev pub of_provider : (Text → List Text) → (Text × Text → Proposition Term) → Text → Proposition Term
of_provider packages rule virtual = each_keeps (λ p. if_so (known_rule (fact (provides_as virtual p))) (rule (virtual, p)))
    (packages virtual)
