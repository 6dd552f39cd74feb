-- Each text has a reading, or a fault that is not want of memory.
use Rattle.std.proofs.Common.{◌≡◌, ◌≢◌, ℕ, zero, suc, ◌<◌, ◌+◌, Bool, List, [], ◌⊎◌, length, drop, nat_lt, refl, ap, ◌∙◌, arith, inl, inr, option_map, append-nil, length-append}
use Rattle.spec_grammar.specs.declared.fault.SpecFault.TheVariants as fault
use Rattle.spec_grammar.specs.declared.mode.Before.TheVariants.{Start}
use Rattle.spec_grammar.proofs.Common.{prefix_len, cases_lt, nil_from_length, is_white, spell_item, before_item, take_item, finished_specs, first_draft, Spells, IsFault, IsCutOff, moved}
use Rattle.spec_grammar.proofs.Common.{SpecItem, Mode, Before, Draft, Spec, SpecFault}
use Rattle.spec_grammar.proofs.SameLaws.{some_item}
use Rattle.spec_grammar.proofs.StandLaws.{Stands, stands_first, stands_more}
use Rattle.spec_grammar.proofs.FaultLaws.{fault_here, twice, ends_early, spells}
use Rattle.spec_grammar.proofs.TotalItems.{Faulty, moved_known, some_or_none, next_total}

-- something can be said of the text besides want of memory
abbrev IsSaid : Mode → List ℕ → Type 0
IsSaid mode text = ((specs : List Spec) × Spells mode text specs) ⊎ Faulty (IsFault mode text)

-- an item has a byte
item_length : (text : List ℕ) (item : SpecItem) (n : ℕ) → IsCutOff text item n → 0 < n
item_length text item zero cut =
    let none : spell_item item ≡ [] = nil_from_length (spell_item item)
    (omega (arith, ap length cut.first.cut, length-append (spell_item item) text)) in
    some_item item [] cut.first.form.0 (append-nil (spell_item item) ∙ none)
item_length text item (suc n) cut = omega arith

-- what stands behind a place is read, or has a fault; `steps` bounds how many items may come yet
from_here : (steps : ℕ) (mode : Mode) (text : List ℕ) (at : ℕ) (draft : Draft) (before : Before) (gap : Bool)
    → Stands mode text at draft before gap → length text < at + steps → IsSaid mode text
from_here zero mode text at draft before gap s lt = absurd (omega (arith, s.within, lt))
from_here (suc steps) mode text at draft before gap s lt = elim (cases_lt at (length text)) [
  | inr end ↦ elim (some_or_none (option_map (finished_specs draft) draft.part)) [
    | inl none ↦ inr (fault.Expected at, ends_early mode text at draft before gap s end none, λ same. cc)
    | inr (specs, are) ↦ inl (specs, spells mode text at draft before gap specs s end are)
  ]
  | inl more ↦ elim (next_total mode before gap (drop at text)) [
    | inr (e, h, known) ↦ inr (moved at e, fault_here mode text at draft before gap e s more h, moved_known at e known)
    | inl (item, n, allowed, none) ↦ elim (some_or_none (take_item item draft)) [
      | inl again ↦ inr (fault.TwiceSet at, twice mode text at n draft before gap item s more none allowed again, λ same. cc)
      | inr (next, took) ↦
          let w : ℕ = prefix_len is_white (drop (at + n) text) in
          let some = item_length (drop at text) item n allowed.cut in
          from_here steps mode text (at + n + w) next (before_item item) (nat_lt 0 w)
          (stands_more mode text at n w draft next before gap (nat_lt 0 w) item s allowed took refl refl) (omega arith)
    ]
  ]
]

-- the whole text
pub reading_total : (mode : Mode) (text : List ℕ) → ((specs : List Spec) × Spells mode text specs)
    ⊎ ((e : SpecFault) × IsFault mode text e × (e ≢ fault.OutOfMemory))
reading_total mode text =
    let w : ℕ = prefix_len is_white text in
    from_here (suc (length text)) mode text w (first_draft mode) Start (nat_lt 0 w)
    (stands_first mode text w (nat_lt 0 w) refl refl) (omega arith)
