-- The order of versions is total, and tells different texts apart.
use Rattle.std.proofs.Common.{◌≡◌, ℕ, List, [], Option, Some, None, refl, sym, ap, ◌∙◌}
use Rattle.std.specs.Cmp.{IsTotalOrder, nat_cmp_total, on_total, then_total}
use Rattle.std.specs.Cmp.Lexicographic.{slice_cmp, lists_total, nat_list_cmp_total}
use Rattle.std.specs.FinMap.{nat_cmp-IsAntisymmetric, slice_cmp-IsAntisymmetric}
use Rattle.std.specs.Ordering.{nat_cmp, ordering_then, ordering_reverse, on, then_cmp}
use Rattle.std.specs.declared.cmp.Ordering.{Ordering}
use Rattle.std.specs.declared.cmp.Ordering.TheVariants.{Less, Equal, Greater}
use Rattle.version_order.specs.Pieces.{pieces}
use Rattle.version_order.specs.Component.{Rank, Word, Number, Other, rank_of, rank_cmp, component_cmp}
use Rattle.version_order.specs.Order.{pre_release, release, pre_cmp, version_cmp}

-- orders that answer the same are total together
total_same : {K : Type 0} {R S : K → K → Ordering} → ((x y : K) → S x y ≡ R x y) → IsTotalOrder R → IsTotalOrder S
total_same h o = record {
  antisymm = λ x y. h x y ∙ o.antisymm x y ∙ sym (ap ordering_reverse (h y x));
  trans = λ x y z p q. h x z ∙ o.trans x y z (sym (h x y) ∙ p) (sym (h y z) ∙ q);
  congr = λ x y z e. h x z ∙ o.congr x y z (sym (h x y) ∙ e) ∙ sym (h y z);
}

then_none : (r : Ordering) → r ≡ ordering_then r Equal
then_none Less = refl
then_none Equal = refl
then_none Greater = refl

-- ---- ranks, by their kind, their number and their bytes

abbrev kind_of : Rank → ℕ
kind_of (Word w) = 2
kind_of (Number n) = 1
kind_of (Other b) = 0

abbrev place_of : Rank → ℕ
place_of (Word w) = w
place_of (Number n) = n
place_of (Other b) = 0

abbrev bytes_of : Rank → List ℕ
bytes_of (Word w) = []
bytes_of (Number n) = []
bytes_of (Other b) = b

abbrev by_key : Rank → Rank → Ordering
by_key = then_cmp (on kind_of nat_cmp) (then_cmp (on place_of nat_cmp) (on bytes_of (slice_cmp nat_cmp)))

rank_key : (a b : Rank) → rank_cmp a b ≡ by_key a b
rank_key (Word a) (Word b) = then_none (nat_cmp a b)
rank_key (Word a) (Number b) = refl
rank_key (Word a) (Other b) = refl
rank_key (Number a) (Word b) = refl
rank_key (Number a) (Number b) = then_none (nat_cmp a b)
rank_key (Number a) (Other b) = refl
rank_key (Other a) (Word b) = refl
rank_key (Other a) (Number b) = refl
rank_key (Other a) (Other b) = refl

by_key_total : IsTotalOrder by_key
by_key_total = then_total (on_total kind_of nat_cmp_total)
    (then_total (on_total place_of nat_cmp_total) (on_total bytes_of nat_list_cmp_total))

component_total : IsTotalOrder component_cmp
component_total = on_total rank_of (total_same rank_key by_key_total)

-- ---- pre-releases, by their stage, 4 for none, and their number

abbrev key_stage : Option (ℕ × ℕ) → ℕ
key_stage None = 1
key_stage (Some x) = 0

abbrev stage_number : Option (ℕ × ℕ) → ℕ × ℕ
stage_number None = (0, 0)
stage_number (Some x) = x

abbrev pair_cmp : ℕ × ℕ → ℕ × ℕ → Ordering
pair_cmp = then_cmp (on (λ (x : ℕ × ℕ). x.0) nat_cmp) (on (λ (x : ℕ × ℕ). x.1) nat_cmp)

abbrev by_stage : Option (ℕ × ℕ) → Option (ℕ × ℕ) → Ordering
by_stage = then_cmp (on key_stage nat_cmp) (on stage_number pair_cmp)

pre_key : (a b : Option (ℕ × ℕ)) → pre_cmp a b ≡ by_stage a b
pre_key None None = refl
pre_key None (Some b) = refl
pre_key (Some a) None = refl
pre_key (Some a) (Some b) = refl

pair_total : IsTotalOrder pair_cmp
pair_total = then_total (on_total (λ (x : ℕ × ℕ). x.0) nat_cmp_total) (on_total (λ (x : ℕ × ℕ). x.1) nat_cmp_total)

pre_total : IsTotalOrder pre_cmp
pre_total = total_same pre_key (then_total (on_total key_stage nat_cmp_total) (on_total stage_number pair_total))

-- ---- versions

-- versions are in a total order
pub version_total : IsTotalOrder version_cmp
unfolding version_cmp
version_total = then_total (on_total (λ text. release (pieces text)) (lists_total component_total))
    (then_total (on_total (λ text. pre_release (pieces text)) pre_total) nat_list_cmp_total)

then_second : (r s : Ordering) → ordering_then r s ≡ Equal → s ≡ Equal
then_second Less s e = cc e
then_second Equal s e = e
then_second Greater s e = cc e

-- versions that compare as equal are one
pub version_apart : (a b : List ℕ) → version_cmp a b ≡ Equal → a ≡ b
unfolding version_cmp
version_apart a b e = slice_cmp-IsAntisymmetric nat_cmp-IsAntisymmetric a b (then_second _ _ (then_second _ _ e))

own_reverse : (r : Ordering) → r ≡ ordering_reverse r → r ≡ Equal
own_reverse Less e = cc e
own_reverse Equal e = refl
own_reverse Greater e = cc e

-- a version compares as equal to itself
pub version_same : (a b : List ℕ) → a ≡ b → version_cmp a b ≡ Equal
version_same a b e = rw e (own_reverse (version_cmp b b) (version_total.antisymm b b))
