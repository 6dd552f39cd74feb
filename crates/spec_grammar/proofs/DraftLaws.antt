-- What is read of specs can be written again.
use Rattle.std.proofs.Common.{◌≡◌, ℕ, true, false, List, [], ◌∷◌, Option, Some, None, refl, sym, ap, subst, ◌∙◌, Contains, Bool, IfSome, IsSome, is_some, if◌then◌else◌}
use Rattle.spec_grammar.specs.declared.mode.Mode.TheVariants.{Condition, LocalCondition}
use Rattle.spec_grammar.proofs.Common.{AllByRecursion, and_parts, All-from_recursion, All-contains, IsName, IsSpecItem, kind_of, before_of, is_some_gap, needs_name, may_nest, may_constrain, may_have_all, may_stand, empty_part, spec_with, nest_in, begin_part, finished_specs, Spells, empty_place, first_draft}
use Rattle.spec_grammar.proofs.Common.{SpecItem, Name, Caret, Mode, Before, Part, Spec, Draft}
use Rattle.spec_grammar.proofs.StepLaws.{all_append, Took, steps_keep, TookOn}
use Rattle.spec_grammar.proofs.AskLaws.{IsBehind, may_behind}
use Rattle.spec_grammar.proofs.KeptLaws.{IsKept, IsMore, kept_empty, kept_name, kept_add}

-- a first part, and one behind `^`
abbrev pub IsTop : Mode → Part → Type 0
IsTop mode p = IsKept mode p × (needs_name mode ≡ true → IsSome p.name)

abbrev pub IsBelow : Mode → Part → Type 0
IsBelow mode p = IsKept mode p × IsSome p.name × (may_nest mode ≡ true)

abbrev pub IsWhole : Mode → Spec → Type 0
IsWhole mode s = IsTop mode s.top × AllByRecursion (IsBelow mode) s.below

-- a part of a spec whose first part is this
abbrev IsPart : Mode → Option Part → Part → Type 0
IsPart mode None p = IsTop mode p
IsPart mode (Some top) p = IsBelow mode p

record AreWhole (mode : Mode) (draft : Draft) : Type 0 where
  specs : AllByRecursion (IsWhole mode) draft.specs
  top : IfSome draft.top (λ p. IsTop mode p × (may_nest mode ≡ true))
  below : AllByRecursion (IsBelow mode) draft.below
  part : IfSome draft.part (IsPart mode draft.top)

whole_with : (mode : Mode) (top : Option Part) (below : List Part) (part : Part) → IfSome top (λ p. IsTop mode p × (may_nest mode ≡ true))
    → AllByRecursion (IsBelow mode) below → IsPart mode top part → IsWhole mode (spec_with top below part)
whole_with mode None below part t b p = (p, b)
whole_with mode (Some top) below part t b p = (t.0, all_append (IsBelow mode) below (part ∷ []) b (p, tt))

whole_finish : (mode : Mode) (draft : Draft) (part : Part) → AreWhole mode draft → IsPart mode draft.top part
    → AllByRecursion (IsWhole mode) (finished_specs draft part)
whole_finish mode draft part h p = all_append (IsWhole mode) draft.specs (spec_with draft.top draft.below part ∷ []) h.specs
    (whole_with mode draft.top draft.below part h.top h.below p, tt)

part_empty : (mode : Mode) (w : List ℕ) (top : Option Part) → IsName w → IfSome top (λ p. IsTop mode p × (may_nest mode ≡ true))
    → IsPart mode top (empty_part (Some w))
part_empty mode w None is h = (kept_empty mode (Some w) is, λ _. refl)
part_empty mode w (Some top) is h = (kept_empty mode (Some w) is, refl, h.1)

part_named : (mode : Mode) (w : List ℕ) (top : Option Part) (p : Part) → IsName w → IsPart mode top p
    → IsPart mode top (record p { name = Some w })
part_named mode w None p is h = (kept_name mode p w is h.0, λ _. refl)
part_named mode w (Some top) p is h = (kept_name mode p w is h.0, refl, h.2)

part_more : (mode : Mode) (top : Option Part) (p q : Part) → IsPart mode top p → (IsKept mode p → IsMore mode p q) → IsPart mode top q
part_more mode None p q h more = let m = more h.0 in (m.0, λ needs. ap is_some m.1 ∙ h.1 needs)
part_more mode (Some top) p q h more = let m = more h.0 in (m.0, ap is_some m.1 ∙ h.1, h.2)

whole_begin : (mode : Mode) (w : List ℕ) (draft : Draft) (part : Option Part) → IsName w → AreWhole mode draft
    → IfSome part (IsPart mode draft.top) → AreWhole mode (begin_part w draft part)
whole_begin mode w draft None is h p = record { specs = h.specs; top = h.top; below = h.below; part = part_empty mode w draft.top is h.top }
whole_begin mode w draft (Some part) is h p =
    elim (is_some part.name) as (λ b. AreWhole mode
    (if b then record { specs = finished_specs draft part; top = None; below = []; part = Some (empty_part (Some w)) } else record draft {
      part =
          Some (record part { name = Some w });
    })) [
      | true ↦ record { specs = whole_finish mode draft part h p; top = tt; below = tt; part = part_empty mode w None is tt }
      | false ↦ record { specs = h.specs; top = h.top; below = h.below; part = part_named mode w draft.top part is p }
    ]

whole_nested : (mode : Mode) (draft : Draft) (top : Option Part) (part : Part) → draft.top ≡ top → may_nest mode ≡ true
    → AreWhole mode draft → IsPart mode top part → AreWhole mode (nest_in draft top part)
whole_nested mode draft None part same may h p = record { specs = h.specs; top = (p, may); below = h.below; part = tt }
whole_nested mode draft (Some top) part same may h p =
    record { specs = h.specs; top = h.top; below = all_append (IsBelow mode) draft.below (part ∷ []) h.below (p, tt); part = tt }

whole_on : (mode : Mode) (place : Before) (gap : Bool) (item : SpecItem) (draft next : Draft) → IsSpecItem item
    → may_stand mode place gap (kind_of item) ≡ true → empty_place item ≡ None → AreWhole mode draft → TookOn item draft next
    → AreWhole mode next
whole_on mode place gap item draft next form may none h (p, q, part, added, e) =
    let is : IsPart mode draft.top p = rw part at h.part in
    let all : IsBehind item → may_have_all mode ≡ true = λ behind. may_behind mode place gap item behind may in
    subst (AreWhole mode) e (record {
      specs = h.specs;
      top = h.top;
      below = h.below;
      part =
          part_more mode draft.top p q is (λ kept. kept_add mode p q item kept all form none added);
    })

whole_item : (mode : Mode) (place : Before) (gap : Bool) (item : SpecItem) (draft next : Draft) → IsSpecItem item
    → may_stand mode place gap (kind_of item) ≡ true → empty_place item ≡ None → AreWhole mode draft → Took item draft next
    → AreWhole mode next
whole_item mode place gap (Name w) draft next form may none h took =
    subst (AreWhole mode) took (whole_begin mode w draft draft.part form.0 h h.part)
whole_item mode place gap Caret draft next form may none h (p, part, e) =
    subst (AreWhole mode) e (whole_nested mode draft draft.top p refl (and_parts (may_constrain mode place) (may_nest mode) may).1 h
    (rw part at h.part))
whole_item mode place gap item draft next form may none h t = whole_on mode place gap item draft next form may none h t

first_whole : (mode : Mode) → AreWhole mode (first_draft mode)
first_whole Condition = record { specs = tt; top = tt; below = tt; part = (kept_empty Condition None tt, λ needs. absurd cc) }
first_whole LocalCondition = record { specs = tt; top = tt; below = tt; part = (kept_empty LocalCondition None tt, λ needs. absurd cc) }
first_whole mode = record { specs = tt; top = tt; below = tt; part = tt }

-- each spec that a text spells
pub whole : (mode : Mode) (text : List ℕ) (specs : List Spec) (spec : Spec) → Spells mode text specs → Contains specs spec
    → IsWhole mode spec
whole mode text specs spec s has =
    let h = steps_keep mode (λ place. AreWhole mode)
    (λ last x a b right. whole_item mode (before_of last) (is_some_gap x.gap) x.item a b right.form right.stands) None s.read.steps
    (first_draft mode) s.read.draft s.is.cut.right s.is.ranges (first_whole mode) s.is.value in
    let part : IsPart mode s.read.draft.top s.part = rw s.last at h.part in
    let all = whole_finish mode s.read.draft s.part h part in
    All-contains (IsWhole mode) specs spec (All-from_recursion (IsWhole mode) specs (subst (AllByRecursion (IsWhole mode)) (sym s.are) all))
    has
