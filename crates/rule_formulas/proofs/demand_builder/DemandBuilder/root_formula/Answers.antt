use Rattle.std.proofs.Common.{sym, ap, ◌∙◌, Option}
use Rattle.spec_grammar.specs.declared.part.Spec.{Spec}
use Rattle.graph_formulas.specs.Words.{names_for, rule_said}
use Rattle.graph_formulas.specs.Directives.{root_rule}
use Rattle.rule_formulas.specs.Paths.{path_by}
use Rattle.word_formulas.proofs.Steps.{ok-same}
use Rattle.rule_formulas.specs.Terms.{root_said}
use Rattle.std.specs.Prelude.{slice_get}
use Rattle.std.specs.Option.{option_copied}
use Rattle.rule_formulas.proofs.demand_builder.DemandBuilder.root_formula.Goals as goal

pub returns-in-Some : goal.returns-in-Some
returns-in-Some g c =
    let table = c.args.self.now.scribe.table.now in
    let problem = c.args.self.now.problem.now in
    let path = path_by table c.args.self.now.paths.now in
    ok-same c.spec_formula.result (rule_said path table (root_rule problem (names_for table) c.in-Some.spec.now))
    (root_said path table problem (slice_get problem.roots c.args.place))
    (sym (ap (λ (o : Option Spec). root_said path table problem o) (sym c.root_at.ensures ∙ ap (λ r. option_copied r) c.in-Some.is)))
    c.spec_formula.ensures
