use Rattle.std.proofs.Common.{ap, ◌∙◌, []}
use Rattle.variant_values.specs.Texts.{with_texts}
use Rattle.problem_formulas.proofs.Joined.{all-targets}
use Rattle.problem_formulas.proofs.targets.targets_of.Goals as goal

pub returns : goal.returns
returns c = c.from_words.ensures.set ∙ ap (with_texts []) (rw (
  c.in_ok-push_specs.ensures,
  c.in_ok-push_all.ensures,
  c.new-names.ensures.items,
  c.world.ensures,
  c.roots.ensures,
) (all-targets c.args.problem.now c.args.table.now))
