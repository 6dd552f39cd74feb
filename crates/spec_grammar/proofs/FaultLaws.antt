-- What is wrong at an item is the text's fault.
use Rattle.std.proofs.Common.{◌≡◌, ℕ, ◌<◌, ◌≤◌, ◌+◌, ◌^◌, Bool, List, ◌∷◌, ◌++◌, length, take, drop, Option, Some, None, refl, sym, ap, subst, ◌∙◌, arith, inl, inr, option_map, take_all, length-drop, length-append}
use Rattle.spec_grammar.specs.declared.fault.SpecFault.TheVariants as fault
use Rattle.spec_grammar.proofs.Common.{spelling, first_empty, AreListed, IsBadAt, may_name, HasForm, take_item, finished_specs, form_at, SpecReading, place_of_reading, has_gap, IsSpecReading, IsFirst, IsItemAt, Spells, empty_place, IsFault, IsAllowedItem, IsFaultHere, IsStuckHere, moved, Fits, none-some}
use Rattle.spec_grammar.proofs.Common.{VersionItem, SpecItem, Versions, Compiler, Mode, Before, Spec, Draft, Form, SpecFault}
use Rattle.spec_grammar.proofs.ListLaws.{empty_below, more_length}
use Rattle.spec_grammar.proofs.VaryLaws.{varied_own}
use Rattle.spec_grammar.proofs.BadLaws.{bad_at, bad_end}
use Rattle.spec_grammar.proofs.StandLaws.{Stands}
use Rattle.spec_grammar.proofs.StepLaws.{some_of}

item_at : (mode : Mode) (text : List ℕ) (at : ℕ) (draft : Draft) (before : Before) (gap : Bool) → (s : Stands mode text at draft before gap)
    → at < length text → IsItemAt mode text at s.read
item_at mode text at draft before gap s lt = record { before = s.is; dark = s.dark lt; over = s.over }

-- the form at the place, by what stands before it
form_here : (mode : Mode) (text : List ℕ) (at : ℕ) (draft : Draft) (before : Before) (gap : Bool) (form : Option Form)
    → (s : Stands mode text at draft before gap) → form_at mode (may_name mode before gap) (drop at text) ≡ form
    → form_at mode (may_name mode (place_of_reading s.read) (has_gap s.read)) (drop at text) ≡ form
form_here mode text at draft before gap form s e = rw (s.before_is, s.gap_is) e

pub twice : (mode : Mode) (text : List ℕ) (at n : ℕ) (draft : Draft) (before : Before) (gap : Bool) (item : SpecItem)
    → Stands mode text at draft before gap → at < length text
    → form_at mode (may_name mode before gap) (drop at text) ≡ None → IsAllowedItem mode before gap (drop at text) item n
    → take_item item draft ≡ None → IsFault mode text (fault.TwiceSet at)
twice mode text at n draft before gap item s lt form taken none = (
  at,
  s.read,
  item_at mode text at draft before gap s lt,
  (
    form_here mode text at draft before gap None s form,
    refl,
    (item, drop n (drop at text), taken.cut.first, rw (s.before_is, s.gap_is) taken.stands, taken.cut.ranges, rw s.draft_is none),
  ),
)

pub fault_here : (mode : Mode) (text : List ℕ) (at : ℕ) (draft : Draft) (before : Before) (gap : Bool) (e : SpecFault)
    → Stands mode text at draft before gap → at < length text
    → IsFaultHere mode before gap (drop at text) e → IsFault mode text (moved at e)
fault_here mode text at draft before gap (fault.Unsupported q form) s lt h =
    let at_place : at + q ≡ at = omega (arith, h.0) in
    rw at_place (at, s.read, item_at mode text at draft before gap s lt, (refl, form_here mode text at draft before gap (Some form) s h.1))
fault_here mode text at draft before gap (fault.Expected q) s lt h =
    let here : IsStuckHere mode (place_of_reading s.read) (has_gap s.read) (drop at text) q = rw (s.before_is, s.gap_is) h.1 in
    let own = varied_own (drop at text) q in (
      bad_at mode text at s.read q (item_at mode text at draft before gap s lt) s.within here,
      inl (
        at,
        s.read,
        item_at mode text at draft before gap s lt,
        (
          form_here mode text at draft before gap None s h.0,
          λ item rest first. here.none own.0 own.1 item rest
              (subst (λ (l : List ℕ). IsFirst l item rest) (sym own.2) first),
        ),
      ),
    )
fault_here mode text at draft before gap (fault.BadVersion q) s lt h = (
  at,
  s.read,
  item_at mode text at draft before gap s lt,
  (form_here mode text at draft before gap None s h.0, (h.1.0, h.1.1, q, h.1.2, rw (s.before_is, s.gap_is) h.1.3, h.1.4, refl)),
)
fault_here mode text at draft before gap (fault.TwiceSet q) s lt h = absurd h
fault_here mode text at draft before gap fault.OutOfMemory s lt h = tt

-- ---- places fit

-- the place of an empty range is within its LIST
place_of_list : (items : List VersionItem) (p q : ℕ) → AreListed items → first_empty p items ≡ Some q → q ≤ p + length (spelling items)
place_of_list items p q are e = omega (arith, empty_below items p q e, more_length (spelling items) items are)

place_within : (item : SpecItem) (rest text : List ℕ) (q : ℕ) → IsFirst text item rest → empty_place item ≡ Some q → q ≤ length text
place_within (Versions items) rest text q first e =
    omega (arith, place_of_list items 1 q first.form.0 e, ap length first.cut, length-append (spelling items) rest)
place_within (Compiler w (Some items)) rest text q first e =
    omega (
      arith,
      place_of_list items (length w + 2) q first.form.0.1 e,
      ap length first.cut,
      length-append (w ++ 64 ∷ spelling items) rest,
      length-append w (64 ∷ spelling items),
    )
place_within item rest text q first e = absurd (none-some q e)

pub fits : (mode : Mode) (text : List ℕ) (at : ℕ) (before : Before) (gap : Bool) (e : SpecFault) → at ≤ length text → length text < 2 ^ 64
    → IsFaultHere mode before gap (drop at text) e → Fits at e
fits mode text at before gap (fault.Unsupported q form) le small h = omega (arith, h.0)
fits mode text at before gap (fault.Expected q) le small h = omega (arith, h.1.within, length-drop at text)
fits mode text at before gap (fault.BadVersion q) le small h =
    omega (arith, place_within h.1.0 h.1.1 (drop at text) q h.1.2 h.1.4, length-drop at text)
fits mode text at before gap (fault.TwiceSet q) le small h = absurd h
fits mode text at before gap fault.OutOfMemory le small h = tt

-- ---- the end

whole : (mode : Mode) (text : List ℕ) (at : ℕ) (read : SpecReading) → length text ≤ at → IsSpecReading mode (take at text) read
    → IsSpecReading mode text read
whole mode text at read le is = subst (λ (l : List ℕ). IsSpecReading mode l read) (take_all at text le) is

none_of : {A B : Type 0} (f : A → B) (o : Option A) → option_map f o ≡ None → o ≡ None
none_of f None e = refl
none_of f (Some a) e = absurd cc

pub ends_early : (mode : Mode) (text : List ℕ) (at : ℕ) (draft : Draft) (before : Before) (gap : Bool)
    → Stands mode text at draft before gap → length text ≤ at → option_map (finished_specs draft) draft.part ≡ None
    → IsFault mode text (fault.Expected at)
ends_early mode text at draft before gap s le e =
    let read = whole mode text at s.read le s.is in
    let none = ap (λ (d : Draft). d.part) s.draft_is ∙ none_of (finished_specs draft) draft.part e in
    let end : length text ≡ at = omega (arith, s.within) in
    (subst (λ (k : ℕ). IsBadAt (HasForm mode) text k) end (bad_end mode text s.read read none), inr (s.read, read, none))

pub spells : (mode : Mode) (text : List ℕ) (at : ℕ) (draft : Draft) (before : Before) (gap : Bool) (specs : List Spec)
    → Stands mode text at draft before gap → length text ≤ at → option_map (finished_specs draft) draft.part ≡ Some specs
    → Spells mode text specs
spells mode text at draft before gap specs s le e =
    let f = some_of (finished_specs draft) draft.part specs e in
    record {
      read = s.read;
      is = whole mode text at s.read le s.is;
      part = f.0;
      last = ap (λ (d : Draft). d.part) s.draft_is ∙ f.1;
      are =
          sym f.2 ∙ ap (λ (d : Draft). finished_specs d f.0) (sym s.draft_is);
    }
