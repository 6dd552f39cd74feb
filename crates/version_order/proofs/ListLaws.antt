-- The machine tells a LIST, and what the place where it stops says of a text.
use Rattle.std.proofs.Common.{◌≡◌, ◌<◌, ◌≤◌, ◌+◌, true, false, ℕ, List, [], ◌∷◌, length, take, Some, refl, sym, ap, subst, ◌∙◌, arith, inl, inr}
use Rattle.std.proofs.lemmas.Option.{same_Some}
use Rattle.std.specs.Prelude.{◌⊎◌}
use Rattle.std.proofs.lemmas.List.{take_all}
use Rattle.std.proofs.lemmas.Bool.{cases_lt}
use Rattle.version_order.specs.Fronts.{IsBadAt, IsLongestFront}
use Rattle.version_order.specs.Machine.{run, Tells}
use Rattle.version_order.specs.Scan.{step, is_final, Stops}
use Rattle.version_order.specs.Items.{Reads, IsList, spell_more}
use Rattle.version_order.specs.declared.item.Item.{Item}
use Rattle.version_order.specs.declared.scan.Place.{Place}
use Rattle.version_order.specs.declared.scan.Place.TheVariants as place
use Rattle.version_order.proofs.AcceptLaws.{list_accepted}
use Rattle.version_order.proofs.RestLaws.{list_from_end}
use Rattle.version_order.proofs.MachineLaws.{begins, bad_at_stop, bad_at_end}

list_completes : (s : Place) → (rest : List ℕ) × (t : Place) × (run step s rest ≡ Some t) × (is_final t ≡ true)
unfolding step
list_completes place.Item = (97 ∷ [], place.InLow, refl, refl)
list_completes place.Exact = (97 ∷ [], place.InExact, refl, refl)
list_completes place.InExact = ([], place.InExact, refl, refl)
list_completes place.InLow = ([], place.InLow, refl, refl)
list_completes place.High = ([], place.High, refl, refl)
list_completes place.InHigh = ([], place.InHigh, refl, refl)

-- the machine tells which texts are LISTs
pub list_tells : Tells step IsList place.Item is_final
list_tells = record { accepts = list_accepted; completes = list_completes; ends = list_from_end }

-- ---- where it stops

-- where the machine stops short the text is no LIST from there on
pub bad : (text : List ℕ) (place : Place) (n : ℕ) → Stops text place n → (n < length text) ⊎ (is_final place ≡ false)
    → IsBadAt IsList text n
bad text place n stops (inl lt) = bad_at_stop step list_tells text n place lt stops.reached (stops.stuck lt)
bad text place n stops (inr open_) =
    elim (cases_lt n (length text)) [
      | inl lt ↦ bad_at_stop step list_tells text n place lt stops.reached (stops.stuck lt)
      | inr le ↦
          let same : length text ≡ n = omega (arith, stops.within) in
          let reached = rw (take_all n text le) at stops.reached in
          subst (λ (k : ℕ). IsBadAt IsList text k) same (bad_at_end step list_tells text place reached open_)
    ]

-- a text on which the machine ends right is a LIST
pub good : (text : List ℕ) (place : Place) (n : ℕ) → Stops text place n → length text ≤ n → is_final place ≡ true → IsList text
good text place n stops le final = list_from_end text place (rw (take_all n text le) at stops.reached) final

-- the text of items with a comma before each is longer by one
pub more-length : (text : List ℕ) (items : List Item) → Reads text items → length (spell_more items) ≡ length text + 1
more-length text [] r = absurd (omega (arith, r.some))
more-length text (x ∷ items) r = omega (arith, ap length r.spelled)

-- ---- how far a LIST goes

-- where the machine stops is the longest front that may begin a LIST
pub stops_longest : (text : List ℕ) (place : Place) (n : ℕ) → Stops text place n → IsLongestFront IsList text n
stops_longest text place n stops = elim (cases_lt n (length text)) [
  | inl lt ↦ (bad_at_stop step list_tells text n place lt stops.reached (stops.stuck lt)).front
  | inr le ↦ record { within = stops.within; begins = begins step list_tells _ place stops.reached; longest = λ q within b. omega arith }
]

-- a front that is a LIST ends right
pub stops_whole : (text : List ℕ) (place : Place) (n : ℕ) → Stops text place n → IsList (take n text) → is_final place ≡ true
stops_whole text place n stops is =
    let a = list_accepted (take n text) is in
    let same : place ≡ a.0 = same_Some place a.0 (sym stops.reached ∙ a.1) in
    rw same a.2
