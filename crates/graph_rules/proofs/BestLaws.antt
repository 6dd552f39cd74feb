-- Best graphs have one vector, and the budget changes no answer.
use Rattle.std.proofs.Common.{◌≡◌, refl, sym, ap, ◌∙◌, false, ℕ, List}
use Rattle.std.specs.Ordering.{is_lt, nat_cmp, ordering_reverse}
use Rattle.std.specs.declared.cmp.Ordering.{Ordering}
use Rattle.std.specs.declared.cmp.Ordering.TheVariants.{Less, Equal, Greater}
use Rattle.std.specs.Cmp.Lexicographic.{slice_cmp, nat_list_cmp_total, texts_ties, same_text}
use Rattle.graph_core.specs.Graphs.{Content}
use Rattle.problem.specs.Nodes.{IsWellFormed}
use Rattle.problem.specs.Problems.{with_budget, package_entry_of, Problem}
use Rattle.graph_rules.specs.Weights.{version_weight, is_deprecated}
use Rattle.graph_rules.specs.Costs.{other_values, unused_defaults, provider_weights, summed_cost, criteria, vector}
use Rattle.graph_rules.specs.Optimal.{IsOptimal}

tied : (a b : List ℕ) (o : Ordering) → slice_cmp nat_cmp a b ≡ o → is_lt o ≡ false → is_lt (ordering_reverse o) ≡ false → a ≡ b
tied a b Less e below back = absurd cc
tied a b Equal e below back = same_text a b (sym (texts_ties a b ∙ rw e refl))
tied a b Greater e below back = absurd cc

-- best graphs have one vector
pub one_vector : (problem : Problem) (a b : Content) → IsWellFormed a → IsWellFormed b → IsOptimal problem a → IsOptimal problem b
    → vector problem a ≡ vector problem b
one_vector problem a b g h best other =
    let va = vector problem a in
    let vb = vector problem b in
    let turned : slice_cmp nat_cmp vb va ≡ ordering_reverse (slice_cmp nat_cmp va vb) = nat_list_cmp_total.antisymm vb va in
    tied va vb (slice_cmp nat_cmp va vb) refl (other.least a g best.is_valid) (ap is_lt (sym turned) ∙ best.least b h other.is_valid)

-- the budget changes no vector
pub budget_vector : (problem : Problem) (budget : ℕ) (graph : Content) → vector (with_budget budget problem) graph ≡ vector problem graph
unfolding vector criteria summed_cost package_entry_of version_weight is_deprecated other_values unused_defaults provider_weights
budget_vector problem budget graph = refl
