use Rattle.std.proofs.Common.{◌∙◌}
use Rattle.graph_encoding.proofs.CallSteps.{if_both, edges_fit, structure_made}
use Rattle.graph_encoding.proofs.calls.add_structure.Goals as goal

pub add_levels-requires-clause-edges : goal.add_levels-requires-clause-edges
add_levels-requires-clause-edges g c =
    (edges_fit c.args.table.now c.args.vars (g.F.RuleFormulas.formulas c.args.formulas.now c.args.table.now) c.args.clauses.now
    c.add_vars.new.clauses c.assert_each.new.clauses c.define_edges.new.clauses c.in_ok-edges.edges.items c.as_slice-lits.result.now
    c.requires.range c.in_ok-add_vars.ensures c.in_ok-assert_each.ensures.more c.in_ok-edges.ensures.built c.as_slice-lits.ensures.value).0

pub add_levels-requires-clause-each : goal.add_levels-requires-clause-each
add_levels-requires-clause-each g c =
    (edges_fit c.args.table.now c.args.vars (g.F.RuleFormulas.formulas c.args.formulas.now c.args.table.now) c.args.clauses.now
    c.add_vars.new.clauses c.assert_each.new.clauses c.define_edges.new.clauses c.in_ok-edges.edges.items c.as_slice-lits.result.now
    c.requires.range c.in_ok-add_vars.ensures c.in_ok-assert_each.ensures.more c.in_ok-edges.ensures.built c.as_slice-lits.ensures.value).1

pub returns-clause-built : goal.returns-clause-built
returns-clause-built g c = if_both c.add_levels.result _ _ _
    (λ paths new_is paths_are. structure_made c.args.problem.now c.args.table.now c.args.vars
    (g.F.RuleFormulas.formulas c.args.formulas.now c.args.table.now) c.args.targets.now c.args.clauses.now c.add_vars.new.clauses
    c.assert_each.new.clauses
    c.define_edges.new.clauses c.add_levels.new.clauses c.as_slice.result.now c.in_ok-edges.edges.items c.as_slice-lits.result.now paths
    c.requires.start c.in_ok-add_vars.ensures c.in_ok-assert_each.ensures.built (c.as_slice.ensures.value ∙ c.in_ok-structure.ensures)
    c.in_ok-edges.ensures.built c.as_slice-lits.ensures.value new_is paths_are) c.add_levels.ensures.built c.add_levels.ensures.paths
