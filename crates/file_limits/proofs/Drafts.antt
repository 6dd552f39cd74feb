-- What is read has at most half as many values as bytes were read.
use Rattle.std.proofs.Common.{◌≡◌, refl, ap, ℕ, ◌+◌, ◌*◌, ◌≤◌, true, false, List, [], ◌∷◌, length, Option, Some, None, is_some, if◌then◌else◌, arith, length-append}
use Rattle.std.proofs.lemmas.List.Sums.{sum_by_push}
use Rattle.std.specs.List.{sum_by}
use Rattle.spec_grammar.specs.declared.mode.Mode.TheVariants.{Specs, Condition, LocalCondition, Dependency, Provision}
use Rattle.spec_grammar.proofs.Common.{same_Some, ItemStep, spell_item, spell_step, spell_steps, AreRight, add, empty_part, spec_with, nest_in, nest, finished_specs, begin_part, constrain, take_item, take_steps, first_draft}
use Rattle.spec_grammar.specs.declared.item.SpecItem.{SpecItem}
use Rattle.spec_grammar.specs.declared.mode.Mode.{Mode}
use Rattle.spec_grammar.specs.declared.part.Part.{Part}
use Rattle.spec_grammar.specs.declared.draft.Draft.{Draft}
use Rattle.spec_grammar.specs.declared.item.SpecItem.TheVariants.{Name, Caret}
use Rattle.spec_grammar.proofs.StepLaws.{some_then, some_of}
use Rattle.file_limits.specs.SpecSizes.{part_values, spec_values, all_values, TextsBearValues}
use Rattle.file_limits.proofs.Items.{item_values, item_room}
use Rattle.file_limits.proofs.Parts.{add_few}

-- ---- drafts

abbrev maybe_values : Option Part → ℕ
maybe_values None = 0
maybe_values (Some part) = part_values part

abbrev draft_values : Draft → ℕ
draft_values draft = all_values draft.specs + maybe_values draft.top + sum_by part_values draft.below + maybe_values draft.part

with_values : (top : Option Part) (below : List Part) (part : Part)
    → spec_values (spec_with top below part) ≡ maybe_values top + sum_by part_values below + part_values part
with_values None below part = omega arith
with_values (Some top) below part = omega (arith, sum_by_push part_values below part)

finish_values : (draft : Draft) (part : Part) → draft.part ≡ Some part → all_values (finished_specs draft part) ≡ draft_values draft
finish_values draft part is =
    omega (
      arith,
      sum_by_push spec_values draft.specs (spec_with draft.top draft.below part),
      with_values draft.top draft.below part,
      ap maybe_values is,
    )

nest_values : (draft : Draft) (top : Option Part) (part : Part) → draft.top ≡ top → draft.part ≡ Some part
    → draft_values (nest_in draft top part) ≡ draft_values draft
nest_values draft None part none is = omega (arith, ap maybe_values none, ap maybe_values is)
nest_values draft (Some top) part some is = omega (arith, sum_by_push part_values draft.below part, ap maybe_values is)

begin_values : (w : List ℕ) (draft : Draft) (part : Option Part) → draft.part ≡ part
    → draft_values (begin_part w draft part) ≡ draft_values draft
begin_values w draft None is = omega (arith, ap maybe_values is)
begin_values w draft (Some part) is =
    let ended = finish_values draft part is in
    let named = ap maybe_values is in
    elim (is_some part.name) as (λ b. draft_values
    (if b then record { specs = finished_specs draft part; top = None; below = []; part = Some (empty_part (Some w)) } else record draft {
      part =
          Some (record part { name = Some w });
    }) ≡ draft_values draft) [
      | true ↦ omega (arith, ended)
      | false ↦ omega (arith, named)
    ]

constrain_few : (item : SpecItem) (draft next : Draft) (part : Option Part) → draft.part ≡ part → constrain item draft part ≡ Some next
    → draft_values next ≤ draft_values draft + item_values item
constrain_few item draft next None is e = absurd cc
constrain_few item draft next (Some part) is e =
    let more = some_of (λ q. record draft { part = Some q }) (add item part) next e in
    omega (arith, add_few item part more.0 more.1, ap maybe_values is, ap draft_values more.2)

-- ---- items

item_few : (item : SpecItem) (draft next : Draft) → take_item item draft ≡ Some next
    → draft_values next ≤ draft_values draft + item_values item
item_few (Name w) draft next e = omega (arith, begin_values w draft draft.part refl, ap draft_values (same_Some _ next e))
item_few Caret draft next e =
    let nested = some_of (nest draft) draft.part next e in
    omega (arith, nest_values draft draft.top nested.0 refl nested.1, ap draft_values nested.2)
item_few item draft next e = constrain_few item draft next draft.part refl e

steps_few : (mode : Mode) (last : Option SpecItem) (steps : List ItemStep) (draft end : Draft) → AreRight mode last steps
    → take_steps draft steps ≡ Some end → 2 * draft_values end ≤ 2 * draft_values draft + length (spell_steps steps)
unfolding take_steps
steps_few mode last [] draft end are e = omega (arith, ap draft_values (same_Some draft end e))
steps_few mode last (s ∷ steps) draft end are e =
    let next = some_then (λ d. take_steps d steps) (take_item s.item draft) end e in
    omega (
      arith,
      item_few s.item draft next.0 next.1,
      item_room s.item are.0.form.0,
      steps_few mode (Some s.item) steps next.0 end are.1 next.2,
      length-append s.gap (spell_item s.item),
      length-append (spell_step s) (spell_steps steps),
    )

first_none : (mode : Mode) → draft_values (first_draft mode) ≡ 0
first_none Specs = refl
first_none Condition = refl
first_none LocalCondition = refl
first_none Dependency = refl
first_none Provision = refl

-- ---- specs

-- a text has two bytes at least for each value that it spells
pub texts-bear-values : TextsBearValues
texts-bear-values mode text specs s =
    let read = s.read in
    omega (
      arith,
      ap all_values s.are,
      finish_values read.draft s.part s.last,
      steps_few mode None read.steps (first_draft mode) read.draft s.is.cut.right s.is.value,
      first_none mode,
      ap length s.is.cut.spelled,
      length-append (spell_steps read.steps) read.trail,
    )
