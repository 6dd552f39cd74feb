use Rattle.std.proofs.Common.{rules, sym, ap, ◌∙◌, map}
use Rattle.clause_formulas.specs.Statements.{any_statement}
use Rattle.site_settings.specs.declared.settings.Settings.{Settings}
use Rattle.site_settings.specs.declared.settings.CompilerEntry.{CompilerEntry}
use Rattle.graph_formulas.specs.Facts.{word_said}
use Rattle.graph_formulas.specs.Built.{entry_rule, compiler_rule}
use Rattle.word_formulas.specs.Builders.{no_paths, plain_said}
use Rattle.word_formulas.proofs.Steps.{ok-same, some-said}
use Rattle.word_formulas.proofs.scribe.Scribe.compiler_formula.Goals as goal

pub returns : goal.returns
returns c =
    let table = c.args.self.now.table.now in
    let problem = c.args.problem.now in
    let name = c.args.name.now in
    let rule = λ (entry : CompilerEntry). entry_rule problem name entry in
    let formula = λ (entry : CompilerEntry). plain_said table (entry_rule problem name entry) in
    ok-same c.some.result (any_statement (map formula c.as_slice.result.now)) (plain_said table (compiler_rule problem name))
    (ap (λ l. any_statement (map formula l)) (c.as_slice.ensures ∙ ap (λ (s : Settings). s.compilers) c.settings-settings.ensures)
    ∙ sym (some-said (word_said no_paths table) rule problem.settings.compilers))
    (c.some.ensures formula (λ x r says. search rules))
