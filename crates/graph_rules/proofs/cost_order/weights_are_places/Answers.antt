use Rattle.std.proofs.Common.{refl}
use Rattle.problem.specs.Problems.{versions_at, package_entry_of}
use Rattle.graph_rules.specs.Weights.{listed_in, version_weight}
use Rattle.graph_rules.proofs.Places.{place_in_sort, row_cmp_total}
use Rattle.graph_rules.proofs.cost_order.weights_are_places.Goals as goal

pub returns : goal.returns
unfolding version_weight
returns c = record {
  place = λ problem name version sorted place row moved order found at.
      rw found (place_in_sort (row_cmp_total c.laws.ensures.total (listed_in (package_entry_of problem name)))
      (versions_at problem name) sorted
      place row moved order at);
  not_declared = λ problem name version found. rw found refl;
}
