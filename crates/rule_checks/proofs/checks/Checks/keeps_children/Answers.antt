use Rattle.std.proofs.Common.{◌∙◌, ◌||◌}
use Rattle.reuse_db.specs.declared.record.Dependency.{Dependency}
use Rattle.graph_rules.specs.Kept.{keeps_child}
use Rattle.rule_checks.proofs.Filters.{all-filter}
use Rattle.rule_checks.proofs.checks.Checks.keeps_children.Goals as goal

pub returns : goal.returns
returns c = c.keeps_each.ensures ∙ all-filter (λ (d : Dependency). d.kinds.link || d.kinds.run)
    (keeps_child c.args.self.now.problem c.args.self.now.graph c.args.name.now) c.args.dependencies.now
