use Rattle.std.proofs.Common.{◌≡◌, ◌≤◌}
use Rattle.clause_formulas.specs.Allowed.{Allows}
use Rattle.level_encoding.specs.Asserted.{assert_all}
use Rattle.level_encoding.proofs.OpenLaws.{keeping}
use Rattle.level_encoding.proofs.RuleLaws.{target_rules_to}
use Rattle.level_encoding.proofs.path_rules.assert_paths.Given as goal

abbrev pub invariant-loop-q : goal.invariant-loop-q
invariant-loop-q l = record {
  so_far : l.clauses ≡ assert_all l.initial.clauses (target_rules_to l.input l.q);
  more : l.initial.clauses.vars ≤ l.clauses.vars;
  allows : Allows l.initial.clauses l.clauses (keeping l.input);
}
