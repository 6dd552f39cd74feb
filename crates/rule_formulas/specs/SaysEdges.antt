-- What the builder of edges says: the formula of a rule, over what it holds.
use Rattle.std.specs.Prelude.{◌≡◌, map}
use Rattle.clause_formulas.specs.Statements.{Statement, all_statements}
use Rattle.clause_formulas.specs.Rules.{Proposition}
use Rattle.graph_core.specs.Graphs.{Text}
use Rattle.recipe_data.specs.OfSpecGrammar.Condition.{Condition}
use Rattle.problem.specs.Problems.{Problem}
use Rattle.literal_table.specs.Tables.{children_of}
use Rattle.graph_formulas.specs.Words.{names_for}
use Rattle.graph_formulas.specs.Terms.{Term}
use Rattle.rule_formulas.specs.Asking.{asking_said, kind_said, extra_edge_said}
use Rattle.rule_formulas.specs.Says.{Names}
use Rattle.rule_formulas.specs.Terms.{plain_term}
use Rattle.rule_formulas.specs.declared.extra_edges.EdgeKind.{EdgeKind}
use Rattle.rule_formulas.specs.declared.extra_edges.EdgeBuilder.{EdgeBuilder}

-- the formulas of conditions come first
module _ {C : Type 0} (condition_of : C → Text → Condition → Statement) (b : EdgeBuilder C) where
  -- the formula is that of the rule of the edges from the name
  abbrev pub says_edges : (Problem → Names → Text → Proposition Term) → Statement → Type 0
  says_edges rule = λ formula. formula ≡ plain_term b.scribe.table.now (condition_of b.conditions.now)
      (rule b.problem.now (names_for b.scribe.table.now) b.name.now)

  -- the formula is that of the rule of the package whose rows are found by names
  abbrev pub says_named : (Problem → Names → Text → Proposition Term) → Statement → Type 0
  says_named rule = λ formula. formula ≡ plain_term b.scribe.table.now (condition_of b.conditions.now)
      (rule b.named.now.0 (names_for b.scribe.table.now) b.named.now.1)

  -- some row asks for the child as this kind
  abbrev pub says_asking : EdgeKind → Text → Statement → Type 0
  says_asking kind child = λ formula. formula
      ≡ asking_said b.problem.now b.scribe.table.now (condition_of b.conditions.now) b.rows.now kind b.name.now child

  -- where the edge to the child has the kind, some row asks for it
  abbrev pub says_kind : EdgeKind → Text → Statement → Type 0
  says_kind kind child = λ formula. formula
      ≡ kind_said b.problem.now b.scribe.table.now (condition_of b.conditions.now) b.rows.now kind b.name.now child

  -- the edge to the child has no kind and no virtual that none asks for
  abbrev pub says_edge : Text → Statement → Type 0
  says_edge child = λ formula. formula
      ≡ extra_edge_said b.problem.now b.scribe.table.now (condition_of b.conditions.now) b.rows.now b.named.now b.name.now child

  -- so it is of each edge from the name
  abbrev pub says_all : Statement → Type 0
  says_all = λ formula. formula
      ≡ all_statements (map (extra_edge_said b.problem.now b.scribe.table.now (condition_of b.conditions.now) b.rows.now b.named.now b.name.now)
      (children_of b.scribe.table.now b.name.now))
