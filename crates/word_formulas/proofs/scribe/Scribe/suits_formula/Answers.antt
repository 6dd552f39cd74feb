use Rattle.std.proofs.Common.{sym, ap, ◌∙◌}
use Rattle.graph_core.specs.Graphs.{Text}
use Rattle.virtuals.specs.Virtuals.{is_virtual}
use Rattle.graph_formulas.specs.Parts.{provides_rule, rest_rule, suits_rule}
use Rattle.word_formulas.specs.Builders.{plain_said}
use Rattle.word_formulas.proofs.AskedSteps.{suits-virtual}
use Rattle.word_formulas.proofs.Steps.{ok-same, ok-is, both-same}
use Rattle.word_formulas.proofs.scribe.Scribe.suits_formula.Goals as goal

pub returns-in_ok-rest : goal.returns-in_ok-rest
returns-in_ok-rest c =
    let table = c.args.self.now.table.now in
    let world = c.args.world.now in
    let part = c.args.part.now in
    let asked = c.args.asked.now in
    let name = c.args.name.now in
    let says = λ (n v : Text). plain_said table (provides_rule world n v part.versions) in
    let provides = ok-is c.provides_formula.result c.in_ok-provides.provides
    (says c.as_str-then-is_virtual.result.now c.as_str-then-is_virtual-2.result.now) c.in_ok-provides.was c.provides_formula.ensures
    ∙ ap (λ (n : Text). says n c.as_str-then-is_virtual-2.result.now) c.as_str-then-is_virtual.ensures
    ∙ ap (says name) c.as_str-then-is_virtual-2.ensures in
    let rest = ok-is c.rest_formula.result c.in_ok-rest.rest (plain_said table (rest_rule world c.as_str-then-is_virtual-3.result.now part))
    c.in_ok-rest.was c.rest_formula.ensures
    ∙ ap (λ (n : Text). plain_said table (rest_rule world n part)) c.as_str-then-is_virtual-3.ensures in
    ok-same c.both.result _ (plain_said table (suits_rule world part asked name))
    (both-same _ _ _ _ provides rest ∙ suits-virtual table world part asked name (sym (ap (is_virtual world.recipes) c.as_str.ensures)
    ∙ sym c.is_virtual.ensures ∙ c.if-is_virtual.true)) c.both.ensures
