use Rattle.std.proofs.Common.{◌≡◌, ◌∙◌, refl}
use Rattle.std.proofs.lemmas.List.Filters.{dedup_is}
use Rattle.condition_rules.specs.OfConditions.Right.{all_numbers}
use Rattle.problem.proofs.NumberLaws.{once}
use Rattle.problem.proofs.demands.numbers_of.Goals as goal

all : (c : goal.After-dedup) → c.add_requirements.new.numbers.items ≡ all_numbers c.args.recipe.now
all c = rw (
  c.in_ok-add_requirements.ensures,
  c.in_ok-add_conflicts.ensures,
  c.in_ok-add_depends.ensures,
  c.new-numbers.ensures.items,
  c.as_slice.ensures,
  c.as_slice-2.ensures,
  c.as_slice-3.ensures,
) refl

pub returns : goal.returns
returns c = dedup_is _ _ _ c.dedup.ensures.filtered
    ∙ once (all_numbers c.args.recipe.now) _ (rw (all c) at c.sort_unstable.ensures.permutation) c.sort_unstable.ensures.sorted
