use Rattle.std.proofs.Common.{sym, ap, subst, ◌∙◌, arith}
use Rattle.std.specs.Option.{option_copied}
use Rattle.clause_formulas.specs.Drafts.{statement_at}
use Rattle.clause_formulas.specs.Gated.{gated, GatesBelow}
use Rattle.clause_formulas.proofs.DraftLaws.{SaidBelow-le}
use Rattle.problem.specs.Demands.{demands}
use Rattle.graph_encoding.specs.Ranges.{path_words}
use Rattle.graph_encoding.proofs.Steps.{demand_more, demand_gap}
use Rattle.graph_encoding.proofs.rules.add_demands.Goals as goal
use Rattle.graph_encoding.proofs.rules.add_demands.Goals.{in-Some+in_ok-add_demand-in-Some, in-None}

pub add_demand-requires : goal.add_demand-requires
add_demand-requires g c = record {
  gates = c.loop-id.invariant.below;
  demand = SaidBelow-le c.args.clauses.now.vars c.loop-id.clauses.vars
      ((g.F.RuleFormulas.formulas c.args.formulas.now c.args.table.now).demand (path_words c.args.table.now c.args.paths.now)
      (statement_at c.args.values.now) c.in-Some.asked.now)
      c.loop-id.invariant.more (c.requires.demands c.in-Some.asked.now);
}

pub loop-id-preserved : goal.loop-id-preserved
loop-id-preserved g c = elim c.match-demand.branch [
  | in-Some+in_ok-add_demand-in-Some w ↦ record {
    rest = demand_more ((g.F.RuleFormulas.formulas c.args.formulas.now c.args.table.now).demand
        (path_words c.args.table.now c.args.paths.now) (statement_at c.args.values.now))
        (demands c.args.problem.now) (gated c.loop-id.clauses c.loop-id.gates) (gated c.match-demand.clauses c.match-demand.gates) _
        c.loop-id.id w.in-Some.asked.now
        (sym c.demand.ensures ∙ ap (λ r. option_copied r) w.in-Some.is)
        (w.in_ok-add_demand-in-Some.ensures.built ∙ λ i. gated (sym w.clauses-is i) (sym w.gates-is i))
        c.loop-id.invariant.rest;
    more = omega (arith, c.loop-id.invariant.more, w.in_ok-add_demand-in-Some.ensures.more, ap (λ s. s.vars) w.clauses-is);
    below = subst (λ s. GatesBelow s.vars c.match-demand.gates) (sym w.clauses-is)
        (subst (GatesBelow _) (sym w.gates-is) w.in_ok-add_demand-in-Some.ensures.below);
  }
  | in-None w ↦ absurd (demand_gap (demands c.args.problem.now) c.loop-id.id (omega (arith, c.loop-id-test.true, c.demands-id-end.ensures))
      (sym c.demand.ensures ∙ ap (λ r. option_copied r) w.in-None.is))
]
