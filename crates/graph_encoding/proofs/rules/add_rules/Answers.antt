use Rattle.std.proofs.Common.{◌∙◌}
use Rattle.clause_formulas.specs.Gated.{gated}
use Rattle.graph_encoding.specs.Ranges.{path_words}
use Rattle.graph_encoding.proofs.Steps.{conditions_range, values_made}
use Rattle.graph_encoding.proofs.CallSteps.{rules_fit, demands_fit, rules_made}
use Rattle.graph_encoding.proofs.rules.add_rules.Goals as goal

pub define_all_in-requires : goal.define_all_in-requires
define_all_in-requires g c = record {
  formulas_below = conditions_range c.args.table.now c.requires.range.0 (g.F.RuleFormulas.formulas c.args.formulas.now c.args.table.now)
      c.args.clauses.now (path_words c.args.table.now c.args.paths.now) c.as_slice.result.now c.requires.range.1 c.requires.range.2
      c.requires.paths (c.as_slice.ensures.value ∙ c.in_ok-conditions.ensures);
  gates_below = c.new-gates.ensures.below _;
}

pub assert_in-requires : goal.assert_in-requires
assert_in-requires g c = record {
  formula_below = rules_fit c.args.table.now c.requires.range.0 (g.F.RuleFormulas.formulas c.args.formulas.now c.args.table.now)
      (gated c.args.clauses.now c.new-gates.result) (gated c.define_all_in.new.clauses c.define_all_in.new.gates)
      (path_words c.args.table.now c.args.paths.now) c.in_ok-values.values.items c.as_slice-2.result.now c.as_slice.result.now
      c.in_ok-rules.rules c.requires.range.1 c.requires.range.2 c.requires.paths c.in_ok-values.ensures.values c.as_slice-2.ensures.value
      c.in_ok-rules.ensures;
  gates_below = c.define_all_in.ensures.keeps.below;
}

pub add_demands-requires : goal.add_demands-requires
add_demands-requires g c = record {
  gates = c.assert_in.ensures.allows.below;
  demands = demands_fit c.args.table.now c.requires.range.0 (g.F.RuleFormulas.formulas c.args.formulas.now c.args.table.now)
      (gated c.args.clauses.now c.new-gates.result) (gated c.define_all_in.new.clauses c.define_all_in.new.gates)
      c.assert_in.new.clauses.vars (path_words c.args.table.now c.args.paths.now) c.in_ok-values.values.items
      c.as_slice-3.result.now c.as_slice.result.now c.requires.range.1 c.requires.range.2 c.requires.paths
      c.in_ok-values.ensures.values c.assert_in.ensures.allows.grows.more c.as_slice-3.ensures.value;
}

pub returns-clause-built : goal.returns-clause-built
returns-clause-built g c = rules_made c.args.problem.now (g.F.RuleFormulas.formulas c.args.formulas.now c.args.table.now)
    (path_words c.args.table.now c.args.paths.now) c.args.clauses.now c.new-gates.result
    (gated c.define_all_in.new.clauses c.define_all_in.new.gates) (gated c.assert_in.new.clauses c.assert_in.new.gates)
    (gated c.add_demands.new.clauses c.add_demands.new.gates)
    c.as_slice.result.now c.in_ok-values.values.items c.as_slice-2.result.now c.as_slice-3.result.now c.in_ok-rules.rules
    c.new-gates.ensures.value (c.as_slice.ensures.value ∙ c.in_ok-conditions.ensures) c.in_ok-values.ensures.built
    c.as_slice-2.ensures.value
    c.in_ok-rules.ensures c.in_ok-assert_in.ensures.built c.as_slice-3.ensures.value c.in_ok-add_demands.ensures

pub returns-clause-values : goal.returns-clause-values
returns-clause-values g c = values_made c.args.clauses.now c.new-gates.result (gated c.define_all_in.new.clauses c.define_all_in.new.gates)
    c.as_slice.result.now _ c.in_ok-values.values.items c.new-gates.ensures.value (c.as_slice.ensures.value ∙ c.in_ok-conditions.ensures)
    c.in_ok-values.ensures.built
