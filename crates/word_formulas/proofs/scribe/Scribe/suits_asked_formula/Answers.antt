use Rattle.std.proofs.Common.{rules, sym, ap, ◌∙◌, Option}
use Rattle.condition_rules.specs.Worlds.{World}
use Rattle.graph_core.specs.Graphs.{Text}
use Rattle.problem.specs.Problems.{world_of}
use Rattle.graph_formulas.specs.Lists.{one_keeps}
use Rattle.graph_formulas.specs.Parts.{asked_rule, suits_rule}
use Rattle.graph_formulas.specs.Words.{names_for}
use Rattle.graph_formulas.specs.Directives.{suits_asked}
use Rattle.word_formulas.specs.Asked.{NodeRule}
use Rattle.word_formulas.specs.Builders.{plain_said}
use Rattle.word_formulas.proofs.Steps.{ok-same}
use Rattle.word_formulas.proofs.scribe.Scribe.suits_asked_formula.Goals as goal

pub returns-in-Some : goal.returns-in-Some
returns-in-Some c =
    let table = c.args.self.now.table.now in
    let problem = c.args.problem.now in
    let row = c.args.row.now in
    let asked = c.in-Some.asked in
    let keeps : NodeRule = suits_rule c.world-world.result row.part asked in
    let said = λ (w : World). plain_said table (asked_rule w (names_for table) asked (suits_rule w row.part asked)) in
    let made = c.asked_formula.ensures keeps (λ x r says. search rules) in
    ok-same c.asked_formula.result (said c.world-world.result) (plain_said table (suits_asked problem (names_for table) row))
    (ap said c.world-world.ensures
    ∙ sym (ap (λ (o : Option Text). plain_said table
    (one_keeps o (λ (a : Text). asked_rule (world_of problem) (names_for table) a (suits_rule (world_of problem) row.part a))))
    c.in-Some.is)) made
