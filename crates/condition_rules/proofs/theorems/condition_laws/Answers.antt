use Rattle.std.proofs.Common.{◌≡◌, refl, Bool, true, false, ◌&&◌, List, [], Some, IsPermutation}
use Rattle.std.specs.List.{list_all}
use Rattle.std.proofs.lemmas.List.Sums.{AllPass-from_list_all, list_all-from_AllPass}
use Rattle.std.proofs.lemmas.List.Sorted.{All-permutation, IsPermutation-sym}
use Rattle.condition_rules.proofs.Sets.{same_test}
use Rattle.virtuals.specs.OfGraphCore.Graphs.{Text, Content, node_of}
use Rattle.virtuals.specs.OfGraphCore.Node.{Node}
use Rattle.condition_rules.specs.Worlds.{World}
use Rattle.condition_rules.specs.Meets.{meets}
use Rattle.condition_rules.specs.Holds.{holds, all_hold}
use Rattle.virtuals.specs.OfConditions.Spec.{Spec}
use Rattle.condition_rules.proofs.theorems.condition_laws.Goals as goal

with_true : (b : Bool) → b && true ≡ b
with_true true = refl
with_true false = refl

alone : (world : World) (spec : Spec) (graph : Content) (name : Text) (node : Node) → spec.below ≡ [] → node_of graph name ≡ Some node
    → holds world spec graph name ≡ meets world spec.top node
unfolding holds
alone world spec graph name node none at = rw (none, at) (with_true (meets world spec.top node))

any_order : (world : World) (specs others : List Spec) (graph : Content) (name : Text) → IsPermutation specs others
    → all_hold world (record { specs = specs }) graph name ≡ all_hold world (record { specs = others }) graph name
unfolding all_hold
any_order world specs others graph name moved =
    let test : Spec → Bool = λ spec. holds world spec graph name in
    same_test (list_all test specs) (list_all test others)
    (λ h. list_all-from_AllPass test others (All-permutation (λ spec. test spec ≡ true) specs others moved
    (AllPass-from_list_all test specs h)))
    (λ h. list_all-from_AllPass test specs (All-permutation (λ spec. test spec ≡ true) others specs (IsPermutation-sym specs others moved)
    (AllPass-from_list_all test others h)))

pub returns : goal.returns
returns c = record { alone = alone; any_order = any_order }
