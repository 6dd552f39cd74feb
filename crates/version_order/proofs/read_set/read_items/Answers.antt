use Rattle.std.proofs.Common.{◌≡◌, ℕ, false, List, [], ◌∷◌, length, sym, arith, inl, inr}
use Rattle.std.specs.Prelude.{◌==◌}
use Rattle.version_order.proofs.ListLaws.{bad, good, more-length}
use Rattle.version_order.proofs.read_set.read_items.Goals as goal
use Rattle.version_order.proofs.read_set.read_items.Goals.{then-end-text-via-then-end-text, then-end-text-via-else-end-text+then-not-is_final}

not_empty : (text : List ℕ) → (length text == 0) ≡ false → text ≡ [] → ⊥
not_empty [] h e = absurd cc
not_empty (b ∷ text) h e = absurd cc

pub returns-then-end-text-clause-fault : goal.returns-then-end-text-clause-fault
returns-then-end-text-clause-fault c =
    let is_bad = bad c.args.text.now c.scan-place.result.0 c.scan-place.result.1 c.scan-place.ensures in (
      not_empty c.args.text.now cc,
      elim c.then-end-text.branch [
        | then-end-text-via-then-end-text w ↦ is_bad (inl (w.if-end-text.true))
        | then-end-text-via-else-end-text+then-not-is_final w ↦ is_bad (inr cc)
      ],
    )

pub items_of-requires : goal.items_of-requires
items_of-requires c = good c.args.text.now c.scan-place.result.0 c.scan-place.result.1 c.scan-place.ensures (omega arith) cc

pub first_empty-requires : goal.first_empty-requires
first_empty-requires c = rw c.as_slice.ensures (omega (arith, more-length _ _ c.in_ok-items.ensures))

pub returns-in-Some-clause-fault : goal.returns-in-Some-clause-fault
returns-in-Some-clause-fault c =
    let first = rw c.as_slice.ensures at c.in-Some.ensures in
    (c.in_ok-items.items, c.in_ok-items.ensures, sym first)

pub returns-in-None-clause-found : goal.returns-in-None-clause-found
returns-in-None-clause-found c =
    let first = rw c.as_slice.ensures at c.in-None.ensures in
    (c.in_ok-items.ensures, sym first)
