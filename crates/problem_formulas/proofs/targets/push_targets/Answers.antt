use Rattle.problem_formulas.proofs.Joined.{package-targets}
use Rattle.problem_formulas.proofs.targets.push_targets.Goals as goal

pub returns : goal.returns
returns c = rw (
  c.in_ok-push_required-2.ensures,
  c.in_ok-push_required.ensures,
  c.in_ok-push_refused.ensures,
  c.in_ok-push_requirements-2.ensures,
  c.in_ok-push_requirements.ensures,
  c.in_ok-push_conflicts.ensures,
  c.in_ok-push_depends.ensures,
  c.in_ok-push_variants.ensures,
  c.variants_at.ensures,
  c.depends_at.ensures,
  c.conflicts_at-conflicts.ensures,
  c.requirements_at-requirements.ensures,
  c.required_at-asked.ensures,
  c.world-world.ensures,
) (package-targets c.args.problem.now c.args.table.now c.args.name.now c.args.names.now.items)
