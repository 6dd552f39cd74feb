-- The machine accepts each LIST.
use Rattle.std.proofs.Common.{◌≡◌, ℕ, true, List, [], ◌∷◌, ◌++◌, Option, Some, None, refl, ap, ◌∙◌, arith, inl, inr, append_assoc}
use Rattle.std.specs.Prelude.{IfSome}
use Rattle.std.specs.List.{AllByRecursion, list_all}
use Rattle.std.proofs.lemmas.Bool.{cases_Bool, and_parts}
use Rattle.version_order.specs.Signs.{is_start, is_version_byte, is_version, IsVersion}
use Rattle.version_order.specs.Machine.{run}
use Rattle.version_order.specs.Items.{written, spell, spell_more, IsItem, IsList}
use Rattle.version_order.specs.declared.item.Item.{Item}
use Rattle.version_order.specs.declared.item.Item.TheVariants as item
use Rattle.version_order.specs.Scan.{sign_of, after, is_final, step}
use Rattle.version_order.specs.declared.scan.Sign.TheVariants.{Start, Inner, Colon, Comma}
use Rattle.version_order.specs.declared.scan.Place.{Place}
use Rattle.version_order.specs.declared.scan.Place.TheVariants as place

-- ---- the signs of bytes

start-sign : (b : ℕ) → is_start b ≡ true → sign_of b ≡ Start
start-sign b h = rw h refl

-- the machine goes from s over text and rest as from t over rest
abbrev Goes : Place → List ℕ → Place → Type 0
Goes s text t = (rest : List ℕ) → run step s (text ++ rest) ≡ run step t rest

step-start : (s t : Place) (b : ℕ) (rest : List ℕ) → is_start b ≡ true → after s Start ≡ Some t → run step s (b ∷ rest) ≡ run step t rest
unfolding step
step-start s t b rest h e = rw (start-sign b h, e) refl

-- a version goes on through its bytes
abbrev GoesOn : Place → Type 0
GoesOn s = (after s Start ≡ Some s) × (after s Inner ≡ Some s)

inner-step : (s : Place) (b : ℕ) (rest : List ℕ) → GoesOn s → is_version_byte b ≡ true → run step s (b ∷ rest) ≡ run step s rest
unfolding step
inner-step s b rest on h =
    elim (cases_Bool (is_start b)) [
      | inl first ↦ rw (first, on.0) refl
      | inr other ↦ rw (other, rw other at h, on.1) refl
    ]

inner : (s : Place) (w : List ℕ) → GoesOn s → list_all is_version_byte w ≡ true → Goes s w s
inner s [] on h rest = refl
inner s (b ∷ w) on h rest =
    let p = and_parts (is_version_byte b) (list_all is_version_byte w) h in
    inner-step s b (w ++ rest) on p.0 ∙ inner s w on p.1 rest

version : (s t : Place) (w : List ℕ) → after s Start ≡ Some t → GoesOn t → is_version w ≡ true → Goes s w t
version s t [] e on h rest = absurd cc
version s t (b ∷ w) e on h rest =
    let p = and_parts (is_start b) (list_all is_version_byte w) h in
    step-start s t b (w ++ rest) p.0 e ∙ inner t w on p.1 rest

-- an item may end in this state
abbrev Ends : Place → Type 0
Ends t = (is_final t ≡ true) × (after t Comma ≡ Some place.Item)

colon : (s : Place) (rest : List ℕ) → after s Colon ≡ Some place.High → run step s (58 ∷ rest) ≡ run step place.High rest
unfolding step
colon s rest e = rw e refl

high_goes : (high : Option (List ℕ)) → IfSome high IsVersion → (t : Place) × Goes place.High (written high) t × Ends t
high_goes None h = (place.High, λ rest. refl, (refl, refl))
high_goes (Some w) h = (place.InHigh, version place.High place.InHigh w refl (refl, refl) h, (refl, refl))

item_goes : (x : Item) → IsItem x → (t : Place) × Goes place.Item (spell x) t × Ends t
unfolding step
item_goes (item.Exact w) h = (place.InExact, λ rest. version place.Exact place.InExact w refl (refl, refl) h rest, (refl, refl))
item_goes (item.Prefix w) h = (place.InLow, version place.Item place.InLow w refl (refl, refl) h, (refl, refl))
item_goes (item.Range None high) h =
    let r = high_goes high h.1 in
    (r.0, λ rest. colon place.Item (written high ++ rest) refl ∙ r.1 rest, r.2)
item_goes (item.Range (Some low) high) h =
    let r = high_goes high h.1 in (
      r.0,
      λ rest. ap (run step place.Item) (append_assoc low (58 ∷ written high) rest)
          ∙ version place.Item place.InLow low refl (refl, refl) h.0 (58 ∷ (written high ++ rest))
          ∙ colon place.InLow (written high ++ rest) refl ∙ r.1 rest,
      r.2,
    )

more_goes : (items : List Item) (t : Place) → AllByRecursion IsItem items → Ends t → (s : Place) × (run step t (spell_more items) ≡ Some s)
    × (is_final s ≡ true)
unfolding step
more_goes [] t h ends = (t, refl, ends.0)
more_goes (x ∷ items) t h ends =
    let one = item_goes x h.0 in
    let others = more_goes items one.0 h.1 one.2 in
    (others.0, rw ends.1 (one.1 (spell_more items) ∙ others.1), others.2)

-- the machine accepts each LIST
pub list_accepted : (text : List ℕ) → IsList text → (s : Place) × (run step place.Item text ≡ Some s) × (is_final s ≡ true)
list_accepted text ([], r) = absurd (omega (arith, r.some))
list_accepted text (x ∷ items, r) =
    let one = item_goes x r.each.0 in
    let others = more_goes items one.0 r.each.1 one.2 in
    (others.0, rw r.spelled (one.1 (spell_more items) ∙ others.1), others.2)
