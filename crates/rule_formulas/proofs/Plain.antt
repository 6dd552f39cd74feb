-- The rules of edges and of providers speak of no path, but by conditions.
use Rattle.std.proofs.Common.{◌≡◌, refl, ap, Bool, true, ◌&&◌, List, filter}
use Rattle.clause_formulas.specs.Statements.{Statement, both_statements, implication_of}
use Rattle.clause_formulas.specs.Rules.{in_words, fact, if_so}
use Rattle.recipe_data.specs.OfSpecGrammar.Condition.{Condition}
use Rattle.recipe_data.specs.declared.recipe.DependRow.{DependRow}
use Rattle.graph_core.specs.Graphs.{Text, no_kinds}
use Rattle.graph_core.specs.declared.node.Kinds.{Kinds}
use Rattle.literal_table.specs.Tables.{Table}
use Rattle.problem.specs.Problems.{Problem, depends_at}
use Rattle.graph_formulas.specs.Edges.{names_virtual}
use Rattle.graph_formulas.specs.Facts.{provides_as, has_edge, has_virtual}
use Rattle.graph_formulas.specs.Words.{names_for}
use Rattle.graph_formulas.specs.Terms.{Term, known, term_said, known_rule, met_rule}
use Rattle.graph_formulas.specs.Edges.{asks_rule, may_ask, kind_rule, virtual_rule, extra_edge_rule, extra_edges_rule, use_rule, used_rule, of_provider}
use Rattle.word_formulas.specs.Builders.{no_paths}
use Rattle.word_formulas.proofs.PathFree.{each-agree, some-agree}
use Rattle.word_formulas.proofs.PathFreeRows.{asks_child-agree}
use Rattle.word_formulas.proofs.Steps.{both-same}
use Rattle.rule_formulas.specs.Terms.{no_conditions}

module _ (path : Text → Text → Statement) (condition : Text → Condition → Statement) (table : Table) (problem : Problem) where
  abbrev f : Term → Statement
  f = term_said path condition table

  abbrev g : Term → Statement
  g = term_said no_paths condition table

  asks-agree : (name child : Text) (row : DependRow)
      → in_words f (asks_rule problem (names_for table) name child row) ≡ in_words g (asks_rule problem (names_for table) name child row)
  asks-agree name child row = ap (λ s. both_statements (condition name row.when) s) (asks_child-agree path table problem child row)

  kind-agree : (kinds : Kinds) (has : Kinds → Bool) (name child : Text)
      → in_words f (kind_rule problem (names_for table) kinds has name child)
      ≡ in_words g (kind_rule problem (names_for table) kinds has name child)
  kind-agree kinds has name child = ap (λ s. implication_of (f (known (fact (has_edge name child kinds)))) s)
      (some-agree f g (asks_rule problem (names_for table) name child) (asks-agree name child)
      (filter (λ row. has row.kinds && may_ask problem (names_for table) child row) (depends_at problem name)))

  virtual-agree : (name child virtual : Text)
      → in_words f (virtual_rule problem (names_for table) name child virtual)
      ≡ in_words g (virtual_rule problem (names_for table) name child virtual)
  virtual-agree name child virtual =
      ap (λ s. implication_of (f (known (fact (has_virtual name child virtual))))
      (both_statements (f (known (fact (provides_as virtual child)))) s))
      (some-agree f g (λ row. met_rule name row.when) (λ row. refl) (filter (names_virtual problem virtual) (depends_at problem name)))

  extra-agree : (virtuals : List Text) (name child : Text)
      → in_words f (extra_edge_rule problem (names_for table) virtuals name child)
      ≡ in_words g (extra_edge_rule problem (names_for table) virtuals name child)
  extra-agree virtuals name child = both-same _ _ _ _ (both-same _ _ _ _ (both-same _ _ _ _
      (kind-agree (record no_kinds { build = true }) (λ kinds. kinds.build) name child)
      (kind-agree (record no_kinds { link = true }) (λ kinds. kinds.link) name child))
      (kind-agree (record no_kinds { run = true }) (λ kinds. kinds.run) name child))
      (each-agree f g (virtual_rule problem (names_for table) name child) (virtual-agree name child) virtuals)

  -- the rule of edges, for all formulas of paths
  pub extras-agree : (virtuals : Text → List Text) (children : List Text) (name : Text)
      → in_words f (extra_edges_rule problem (names_for table) virtuals children name)
      ≡ in_words g (extra_edges_rule problem (names_for table) virtuals children name)
  extras-agree virtuals children name = each-agree f g (λ child. extra_edge_rule problem (names_for table) (virtuals child) name child)
      (λ child. extra-agree (virtuals child) name child) children

-- for all formulas of conditions too
module _ (path : Text → Text → Statement) (condition : Text → Condition → Statement) (table : Table) where
  abbrev own : Term → Statement
  own = term_said path condition table

  abbrev plain : Term → Statement
  plain = term_said no_paths no_conditions table

  used-agree : (may : Text × Text → Text → Bool) (names : List Text) (p : Text × Text)
      → in_words own (used_rule may names p) ≡ in_words plain (used_rule may names p)
  used-agree may names p = some-agree own plain (use_rule p) (λ name. refl) (filter (may p) names)

  -- that of used providers
  pub provider-agree : (may : Text × Text → Text → Bool) (names : List Text) (virtual : Text)
      → in_words own (of_provider (names_for table) (used_rule may names) virtual)
      ≡ in_words plain (of_provider (names_for table) (used_rule may names) virtual)
  provider-agree may names virtual = each-agree own plain
      (λ p. if_so (known_rule (fact (provides_as virtual p))) (used_rule may names (virtual, p)))
      (λ p. ap (λ s. implication_of (own (known (fact (provides_as virtual p)))) s) (used-agree may names (virtual, p)))
      (names_for table virtual)
