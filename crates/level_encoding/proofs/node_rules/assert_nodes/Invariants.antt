use Rattle.std.proofs.Common.{◌≡◌, ◌≤◌}
use Rattle.clause_formulas.specs.Allowed.{Allows}
use Rattle.level_encoding.specs.Asserted.{assert_all}
use Rattle.level_encoding.proofs.OpenLaws.{keeping}
use Rattle.level_encoding.proofs.RuleLaws.{node_rules_to}
use Rattle.level_encoding.proofs.node_rules.assert_nodes.Given as goal

abbrev pub invariant-loop-i : goal.invariant-loop-i
invariant-loop-i l = record {
  so_far : l.clauses ≡ assert_all l.initial.clauses (node_rules_to l.input l.i);
  more : l.initial.clauses.vars ≤ l.clauses.vars;
  allows : Allows l.initial.clauses l.clauses (keeping l.input);
}
