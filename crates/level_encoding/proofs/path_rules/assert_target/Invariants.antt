use Rattle.std.proofs.Common.{◌≡◌, ◌≤◌}
use Rattle.clause_formulas.specs.Allowed.{Allows}
use Rattle.level_encoding.specs.Asserted.{assert_all}
use Rattle.level_encoding.proofs.OpenLaws.{keeping}
use Rattle.level_encoding.proofs.RuleLaws.{path_rules_to}
use Rattle.level_encoding.proofs.path_rules.assert_target.Given as goal

abbrev pub invariant-loop-p : goal.invariant-loop-p
invariant-loop-p l = record {
  so_far : l.clauses ≡ assert_all l.initial.clauses (path_rules_to l.input l.q l.p);
  more : l.initial.clauses.vars ≤ l.clauses.vars;
  allows : Allows l.initial.clauses l.clauses (keeping l.input);
}
