use Rattle.std.proofs.Common.{◌≡◌, ◌++◌, map, drop}
use Rattle.std.specs.List.{list_any}
use Rattle.std.specs.Prelude.{if◌then◌else◌}
use Rattle.keyed_lists.specs.Lent.{with_text}
use Rattle.cost_vector.proofs.choices.mark.Given as goal

abbrev pub invariant-loop-choice : goal.invariant-loop-choice
invariant-loop-choice g l =
    l.weights.items ++ map (λ c. (if list_any (λ e. e.1.deprecated) (with_text c.0 l.index) then 1 else 0, c.1))
    (drop l.choice-index l.choices)
    ≡ map (λ c. (if list_any (λ e. e.1.deprecated) (with_text c.0 l.index) then 1 else 0, c.1)) l.choices
