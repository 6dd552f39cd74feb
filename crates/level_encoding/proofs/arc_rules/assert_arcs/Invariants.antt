use Rattle.std.proofs.Common.{◌≡◌, ℕ, ◌+◌, ◌≤◌, Bool, drop}
use Rattle.std.specs.List.{sum_by}
use Rattle.clause_formulas.specs.Allowed.{Allows}
use Rattle.level_encoding.specs.Composed.{Meets}
use Rattle.level_encoding.specs.Asserted.{assert_all}
use Rattle.level_encoding.proofs.OpenLaws.{keeping}
use Rattle.level_encoding.specs.Encoding.{turns, turn_start, arcs_rules, constraints, end}
use Rattle.level_encoding.proofs.arc_rules.assert_arcs.Given as goal

abbrev pub invariant-loop-arc : goal.invariant-loop-arc
invariant-loop-arc l = record {
  rest : assert_all l.clauses (arcs_rules l.input l.turn (drop l.arc-index l.arc-items)) ≡ assert_all l.initial.clauses
      (arcs_rules l.input (turn_start l.input) l.arc-items);
  turns_left : l.turn + sum_by (turns l.input) (drop l.arc-index l.arc-items) ≡ end l.input;
  more : l.initial.clauses.vars ≤ l.clauses.vars;
  left : (v : ℕ → Bool) → Meets v (constraints l.input) → Meets v (arcs_rules l.input l.turn (drop l.arc-index l.arc-items));
  allows : Allows l.initial.clauses l.clauses (keeping l.input);
}
