use Rattle.std.proofs.Common.{◌∙◌, ◌||◌}
use Rattle.std.specs.Str.{bytes_eq}
use Rattle.reuse_db.specs.declared.record.Dependency.{Dependency}
use Rattle.condition_rules.specs.Words.{is_some_and}
use Rattle.problem.specs.Problems.{record_at}
use Rattle.rule_checks.proofs.Filters.{any-filter}
use Rattle.rule_checks.proofs.checks.Checks.is_child.Goals as goal

pub returns : goal.returns
returns c = rw c.as_slice.ensures at c.some_named.ensures
    ∙ any-filter (λ (d : Dependency). d.kinds.link || d.kinds.run)
    (λ d. is_some_and (record_at c.args.self.now.problem d.hash) (λ child. bytes_eq child.name c.args.edge.now.child))
    c.args.entry.now.dependencies
