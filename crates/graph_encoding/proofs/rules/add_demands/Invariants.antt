use Rattle.std.proofs.Common.{◌≡◌, ◌≤◌, map, drop}
use Rattle.clause_formulas.specs.Drafts.{statement_at}
use Rattle.clause_formulas.specs.Gated.{gated, GatesBelow}
use Rattle.clause_formulas.specs.Built.{demand_all_in}
use Rattle.problem.specs.Demands.{demands}
use Rattle.graph_encoding.specs.Ranges.{path_words}
use Rattle.graph_encoding.proofs.rules.add_demands.Given as goal

abbrev pub invariant-loop-id : goal.invariant-loop-id
invariant-loop-id g l = record {
  rest : demand_all_in (gated l.clauses l.gates) l.id
      (map ((g.F.RuleFormulas.formulas l.formulas l.table).demand (path_words l.table l.paths) (statement_at l.values))
      (drop l.id (demands l.problem)))
      ≡ demand_all_in (gated l.fn.clauses l.fn.gates) 0
      (map ((g.F.RuleFormulas.formulas l.formulas l.table).demand (path_words l.table l.paths) (statement_at l.values))
      (demands l.problem));
  more : l.fn.clauses.vars ≤ l.clauses.vars;
  below : GatesBelow l.clauses.vars l.gates;
}
