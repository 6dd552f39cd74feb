-- Each demand as one rule.
use Rattle.std.specs.Prelude.{ℕ, Bool, true, ◌==◌, List, filter, slice_get, if◌then◌else◌}
use Rattle.clause_formulas.specs.Rules.{Proposition}
use Rattle.graph_core.specs.Graphs.{Text}
use Rattle.problem.specs.Problems.{Problem, depends_at, conflicts_at, requirements_at, required_at}
use Rattle.problem.specs.declared.demand.Demand.{Demand}
use Rattle.problem.specs.declared.demand.Demand.TheVariants as demand
use Rattle.graph_formulas.specs.Lists.{◌and◌, settled_test, where_written, each_keeps}
use Rattle.graph_formulas.specs.Terms.{Term, known_rule, where_built, where_there}
use Rattle.graph_formulas.specs.Directives.{root_rule, edge_rule, constraint_rule, conflict_rule, requirement_rule}

module _ (problem : Problem) (packages : Text → List Text) where
  -- the directives with this number
  abbrev pub directive_rule : ℕ → Text → Proposition Term
  directive_rule number name =
      each_keeps (λ row. edge_rule problem packages name row and constraint_rule problem packages name row)
      (filter (λ row. row.number == number) (depends_at problem name))
      and each_keeps (conflict_rule problem packages name) (filter (λ row. row.number == number) (conflicts_at problem name))
      and each_keeps (requirement_rule problem packages name) (filter (λ row. row.number == number) (requirements_at problem name))

  -- the requirement of the settings at this place
  abbrev pub required_rule : ℕ → Text → Proposition Term
  required_rule place name = where_written (slice_get (required_at problem name) place) (requirement_rule problem packages name)

  -- a directive or requirement of a name that no node can have holds by itself, and nothing of it is said
  abbrev pub demand_rule : (Text → Bool) → Demand → Proposition Term
  demand_rule may_be (demand.Root place) = where_written (slice_get problem.roots place)
      (λ spec. known_rule (root_rule problem packages spec))
  demand_rule may_be (demand.Directive name number) =
      if may_be name then where_built name (directive_rule number name) else settled_test true
  demand_rule may_be (demand.Setting name place) =
      if may_be name then where_there name (required_rule place name) else settled_test true
