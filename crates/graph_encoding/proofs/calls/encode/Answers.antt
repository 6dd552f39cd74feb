use Rattle.std.proofs.Common.{◌∙◌}
use Rattle.graph_encoding.proofs.Steps.{encode_step, values_step}
use Rattle.graph_encoding.proofs.CallSteps.{decodes_step}
use Rattle.graph_encoding.proofs.calls.encode.Goals as goal

pub returns-clause-built : goal.returns-clause-built
returns-clause-built g c = encode_step c.args.problem.now c.args.table.now c.args.vars
    (g.F.RuleFormulas.formulas c.args.formulas.now c.args.table.now)
    c.args.targets.now c.add_structure.new.clauses c.add_rules.new.clauses c.in_ok-paths.paths c.in_ok-paths.ensures.built
    c.in_ok-paths.ensures.targets
    c.in_ok-values.ensures.built

pub returns-clause-decodes : goal.returns-clause-decodes
returns-clause-decodes g c = decodes_step c.args.problem.now c.args.table.now c.args.vars
    (g.F.RuleFormulas.formulas c.args.formulas.now c.args.table.now)
    c.args.targets.now c.add_rules.new.clauses (returns-clause-built g c)

pub returns-clause-values : goal.returns-clause-values
returns-clause-values g c = c.from_vec.ensures
    ∙ values_step c.args.problem.now c.args.table.now c.args.vars (g.F.RuleFormulas.formulas c.args.formulas.now c.args.table.now)
    c.args.targets.now c.add_structure.new.clauses c.in_ok-paths.paths _ c.in_ok-paths.ensures.built c.in_ok-paths.ensures.targets
    c.in_ok-values.ensures.values
