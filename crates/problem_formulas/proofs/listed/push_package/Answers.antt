use Rattle.rule_formulas.specs.Paths.{path_by}
use Rattle.problem_formulas.proofs.Joined.{package-formulas}
use Rattle.problem_formulas.proofs.listed.push_package.Goals as goal

pub returns : goal.returns
returns c = rw (
  c.in_ok-push_requirements-2.ensures,
  c.in_ok-push_requirements.ensures,
  c.in_ok-push_conflicts.ensures,
  c.in_ok-push_depends.ensures,
  c.in_ok-push_variants.ensures,
  c.variants_at-variants.ensures,
  c.depends_at-depends.ensures,
  c.conflicts_at-conflicts.ensures,
  c.requirements_at-requirements.ensures,
  c.required_at-required.ensures,
) (package-formulas c.args.problem.now c.args.table.now (path_by c.args.table.now c.args.paths.now) c.args.name.now
    c.args.formulas.now.items)
