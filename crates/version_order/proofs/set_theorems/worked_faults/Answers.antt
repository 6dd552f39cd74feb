use Rattle.std.proofs.Common.{◌≡◌, ℕ, List, [], ◌∷◌, Some, refl, inl, inr, codes, arith}
use Rattle.version_order.specs.Pieces.{pieces}
use Rattle.version_order.specs.Component.{word_of, number_of, rank_of}
use Rattle.version_order.specs.Order.{stage_of, staged, pre_release, release, version_cmp}
use Rattle.version_order.specs.Prefix.{is_same}
use Rattle.version_order.specs.Items.{is_empty_range, first_empty}
use Rattle.version_order.specs.Scan.{step}
use Rattle.version_order.specs.declared.item.Item.TheVariants as item
use Rattle.version_order.specs.declared.scan.Place.TheVariants as place
use Rattle.version_order.proofs.ListLaws.{bad}
use Rattle.version_order.proofs.set_theorems.worked_faults.Goals as goal

some_text : (b : ℕ) (text : List ℕ) → b ∷ text ≡ [] → ⊥
some_text b text e = cc

pub returns-clause-ends_early : goal.returns-clause-ends_early
unfolding step
returns-clause-ends_early c = (
  some_text _ _,
  bad (codes "1,") place.Item 2 (record { within = omega arith; reached = refl; stuck = λ lt. absurd (omega arith) })
      (inr refl),
)

pub returns-clause-exact_range : goal.returns-clause-exact_range
unfolding step
returns-clause-exact_range c = (
  some_text _ _,
  bad (codes "=1:2") place.InExact 2 (record { within = omega arith; reached = refl; stuck = λ lt. refl })
      (inl (omega arith)),
)

pub returns-clause-blank : goal.returns-clause-blank
unfolding step
returns-clause-blank c = (
  some_text _ _,
  bad (codes "1, 2") place.Item 2 (record { within = omega arith; reached = refl; stuck = λ lt. refl })
      (inl (omega arith)),
)

pub returns-clause-empty_range : goal.returns-clause-empty_range
unfolding first_empty is_empty_range version_cmp pieces release pre_release staged stage_of rank_of word_of number_of is_same
returns-clause-empty_range c = (
  item.Prefix (codes "1") ∷ item.Range (Some (codes "2")) (Some (codes "1")) ∷ [],
  record { some = omega arith; each = (refl, ((refl, refl), tt)); spelled = refl },
  refl,
)
