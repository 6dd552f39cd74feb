-- A text that has one spec, and a text without `^`.
use Rattle.std.proofs.Common.{◌≡◌, ℕ, Bool, true, false, List, [], ◌∷◌, ◌++◌, Option, Some, None, refl, ap, subst, ◌∙◌, arith}
use Rattle.spec_grammar.specs.declared.mode.Before.TheVariants as before
use Rattle.spec_grammar.proofs.Common.{AllByRecursion, and_parts, before_of, before_item, is_some_gap, may_repeat, may_nest, may_name, may_stand, needs_name, kind_of, spec_with, begin_part, Spells, first_draft, initial_part}
use Rattle.spec_grammar.proofs.Common.{SpecItem, Name, Caret, Mode, Before, Part, Spec, Draft}
use Rattle.spec_grammar.proofs.RunLaws.{true_false}
use Rattle.spec_grammar.proofs.StepLaws.{Took, steps_keep, nested_specs, nested_part}
use Rattle.spec_grammar.proofs.DraftLaws.{IsBelow, whole}

abbrev IsNameless : Option Part → Type 0
IsNameless None = Unit {0}
IsNameless (Some part) = part.name ≡ None

abbrev IsNamelessAt : Before → Option Part → Type 0
IsNamelessAt before.Start part = IsNameless part
IsNamelessAt before.Caret part = IsNameless part
IsNamelessAt before.Inside part = Unit {0}

-- no spec is over
abbrev IsAlone : Before → Draft → Type 0
IsAlone place draft = (draft.specs ≡ []) × IsNamelessAt place draft.part

named_specs : (w : List ℕ) (draft : Draft) (part : Option Part) → IsNameless part → (begin_part w draft part).specs ≡ draft.specs
named_specs w draft None h = refl
named_specs w draft (Some part) h = rw h refl

-- a NAME in such a text begins no other spec
nameless_at : (mode : Mode) (place : Before) (gap : Bool) (part : Option Part) → may_repeat mode ≡ false → may_name mode place gap ≡ true
    → IsNamelessAt place part → IsNameless part
nameless_at mode before.Start gap part one may h = h
nameless_at mode before.Caret gap part one may h = h
nameless_at mode before.Inside gap part one may h = true_false (may_repeat mode) (and_parts (may_repeat mode) gap may).0 one

alone_item : (mode : Mode) (place : Before) (gap : Bool) (item : SpecItem) (draft next : Draft) → may_repeat mode ≡ false
    → may_stand mode place gap (kind_of item) ≡ true → IsAlone place draft → Took item draft next → IsAlone (before_item item) next
alone_item mode place gap (Name w) draft next one may h took =
    subst (IsAlone before.Inside) took (named_specs w draft draft.part (nameless_at mode place gap draft.part one may h.1) ∙ h.0, tt)
alone_item mode place gap Caret draft next one may h took =
    subst (IsAlone before.Caret) took.2 (nested_specs draft draft.top took.0 ∙ h.0, rw (nested_part draft draft.top took.0) tt)
alone_item mode place gap item draft next one may h took = subst (IsAlone before.Inside) took.4 (h.0, tt)

first_nameless : (b : Bool) → IsNameless (initial_part b)
first_nameless true = tt
first_nameless false = refl

-- a text that has one spec spells one
pub single : (mode : Mode) (text : List ℕ) (specs : List Spec) → may_repeat mode ≡ false → Spells mode text specs → (spec : Spec)
    × (specs ≡ spec ∷ [])
single mode text specs one s =
    let h = steps_keep mode IsAlone (λ last x a b right none. alone_item mode (before_of last) (is_some_gap x.gap) x.item a b one
    right.stands) None s.read.steps (first_draft mode) s.read.draft s.is.cut.right s.is.ranges
    (refl, first_nameless (needs_name mode)) s.is.value in
    let spec : Spec = spec_with s.read.draft.top s.read.draft.below s.part in
    (spec, s.are ∙ ap (λ l. l ++ spec ∷ []) h.0)

no_below : (mode : Mode) (below : List Part) → may_nest mode ≡ false → AllByRecursion (IsBelow mode) below → below ≡ []
no_below mode [] none h = refl
no_below mode (p ∷ below) none h = true_false (may_nest mode) h.0.2 none

-- a text without `^` spells one part
pub single_part : (mode : Mode) (text : List ℕ) (spec : Spec) → may_nest mode ≡ false → Spells mode text (spec ∷ [])
    → spec ≡ record { top = spec.top; below = [] }
single_part mode text spec none s = ap (λ l. record { top = spec.top; below = l })
    (no_below mode spec.below none (whole mode text (spec ∷ []) spec s (0, omega arith, refl)).1)

-- the one spec, as a reader finds it
pub one_spec : (mode : Mode) (text : List ℕ) (specs : List Spec) (found : Option Spec) → may_repeat mode ≡ false → Spells mode text specs
    → ((spec : Spec) → specs ≡ spec ∷ [] → found ≡ Some spec) → (spec : Spec) × (found ≡ Some spec) × Spells mode text (spec ∷ [])
one_spec mode text specs found one s only = let a = single mode text specs one s in (a.0, only a.0 a.1, subst (Spells mode text) a.1 s)
