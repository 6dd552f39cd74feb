use Rattle.std.proofs.Common.{sym, ap, ◌∙◌, ◌||◌, map, List}
use Rattle.std.specs.List.{filter}
use Rattle.clause_formulas.specs.Statements.{all_statements}
use Rattle.reuse_db.specs.declared.record.Dependency.{Dependency}
use Rattle.problem.specs.Records.{kept_dependencies}
use Rattle.graph_formulas.specs.Facts.{word_said}
use Rattle.graph_formulas.specs.Lists.{each_keeps}
use Rattle.word_formulas.specs.Builders.{no_paths, plain_said}
use Rattle.word_formulas.proofs.Steps.{ok-same, each-said}
use Rattle.node_formulas.specs.Attributes.{dependency_rule}
use Rattle.node_formulas.proofs.kept.dependencies_formula.Goals as goal

pub returns : goal.returns
returns c =
    let table = c.args.table.now in
    let rule = λ (d : Dependency). dependency_rule c.args.problem.now c.args.name.now d in
    ok-same c.all.result _ (plain_said table (each_keeps rule (kept_dependencies c.args.entry.now)))
    (ap all_statements (c.in_ok-parts.ensures ∙ ap
    (λ (ds : List Dependency). map (λ d. plain_said table (rule d)) (filter (λ d. d.kinds.link || d.kinds.run) ds))
    c.as_slice-dependencies.ensures)
    ∙ sym (each-said (word_said no_paths table) rule (kept_dependencies c.args.entry.now))) c.all.ensures
