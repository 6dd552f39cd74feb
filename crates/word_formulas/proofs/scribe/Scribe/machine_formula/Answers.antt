use Rattle.std.proofs.Common.{rules, ap, ◌∙◌}
use Rattle.std.specs.List.{list_any}
use Rattle.std.specs.Str.{bytes_eq}
use Rattle.site_settings.specs.declared.settings.Settings.{Settings}
use Rattle.target_table.specs.declared.entry.TargetEntry.{TargetEntry}
use Rattle.condition_rules.specs.Words.{is_one_text}
use Rattle.graph_core.specs.Graphs.{Text}
use Rattle.std.proofs.Common.{List}
use Rattle.graph_formulas.specs.Facts.{has_os, has_target}
use Rattle.graph_formulas.specs.Built.{machine_rule}
use Rattle.word_formulas.specs.Builders.{node_said, plain_said}
use Rattle.word_formulas.proofs.Steps.{ok-same, ok-is, both-same}
use Rattle.word_formulas.proofs.scribe.Scribe.machine_formula.Goals as goal

pub returns : goal.returns
returns c =
    let table = c.args.self.now.table.now in
    let name = c.args.name.now in
    let names = c.as_slice-names.result.now in
    let entries = c.entries-entries.result.now in
    let of_os = λ (texts : List Text). node_said table name (has_os (is_one_text texts)) in
    let of_targets = λ (rows : List TargetEntry). node_said table name
    (has_target (λ target. list_any (λ (entry : TargetEntry). bytes_eq entry.name target) rows)) in
    let os = ok-is c.os_passes.result c.in_ok-os.os (of_os names) c.in_ok-os.was
    (c.os_passes.ensures (is_one_text names) (λ x b says. search rules)) in
    let target = ok-is c.target_passes.result c.in_ok-target.target (of_targets entries) c.in_ok-target.was
    (c.target_passes.ensures (λ target. list_any (λ (entry : TargetEntry). bytes_eq entry.name target) entries)
    (λ x b says. search rules)) in
    ok-same c.both.result _ (plain_said table (machine_rule c.args.problem.now name))
    (both-same _ _ _ _
    (os ∙ ap of_os (c.as_slice-names.ensures ∙ ap (λ (s : Settings). s.os) c.settings-settings.ensures))
    (target ∙ ap of_targets (c.entries-entries.ensures.entries ∙ ap (λ (s : Settings). s.targets) c.settings-settings.ensures)))
    c.both.ensures
