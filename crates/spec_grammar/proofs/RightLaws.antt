-- A text spells one list of specs at most, and what spells some has no fault.
use Rattle.std.proofs.Common.{◌≡◌, ◌≢◌, ℕ, ◌≤◌, ◌+◌, true, List, [], ◌∷◌, length, drop, Some, None, refl, sym, ap, subst, ◌∙◌, arith, inl, inr, option_and_then, length-drop}
use Rattle.version_order.proofs.VersionLaws.{one_place}
use Rattle.spec_grammar.specs.declared.fault.SpecFault.TheVariants as fault
use Rattle.spec_grammar.proofs.Common.{AllByRecursion, cases_lt, drop_all, HasForm, kind_of, ItemStep, is_some_gap, may_stand, take_item, finished_specs, SpecReading, place_of_reading, has_gap, IsSpecReading, Spells, IsDark, IsItemAt, HasNoEmpty, empty_place, take_steps, first_draft, IsWrong, IsAtItem, IsFault, same_Some, none-some}
use Rattle.spec_grammar.proofs.Common.{SpecItem, Mode, Spec, Part, Draft, SpecFault}
use Rattle.spec_grammar.proofs.OrderLaws.{all_at}
use Rattle.spec_grammar.proofs.UniqueLaws.{one_first}
use Rattle.spec_grammar.proofs.FormLaws.{form_none}
use Rattle.spec_grammar.proofs.SameLaws.{GoesOnWith, compare}
use Rattle.spec_grammar.proofs.BadLaws.{item_cuts, no_rest, rest_dark, form_cuts}
use Rattle.spec_grammar.proofs.StepLaws.{take_append}

finishes : (a b : Draft) (p q : Part) → a ≡ b → a.part ≡ Some p → b.part ≡ Some q → finished_specs a p ≡ finished_specs b q
finishes a b p q e f g =
    let same : p ≡ q = same_Some p q (sym f ∙ ap (λ (d : Draft). d.part) e ∙ g) in
    ap (λ (d : Draft). finished_specs d p) e ∙ ap (finished_specs b) same

reads_same : (mode : Mode) (a b : SpecReading) (steps : a.steps ≡ b.steps) → take_steps (first_draft mode) a.steps ≡ Some a.draft
    → take_steps (first_draft mode) b.steps ≡ Some b.draft → a.draft ≡ b.draft
reads_same mode a b e f g = same_Some a.draft b.draft (sym f ∙ ap (take_steps (first_draft mode)) e ∙ g)

one_draft : (mode : Mode) (text : List ℕ) (a b : SpecReading) → IsSpecReading mode text a → IsSpecReading mode text b → a.draft ≡ b.draft
one_draft mode text a b x y =
    elim (compare mode None text a.steps a.trail [] b.steps b.trail [] (form_cuts mode text a.steps a.trail x.cut)
    (form_cuts mode text b.steps b.trail y.cut)) [
      | inl same ↦ reads_same mode a b same.0 x.value y.value
      | inr (inl g) ↦ no_rest g
      | inr (inr g) ↦ no_rest g
    ]

pub one_reading : (mode : Mode) (text : List ℕ) (a b : List Spec) → Spells mode text a → Spells mode text b → a ≡ b
one_reading mode text a b x y = x.are ∙ finishes x.read.draft y.read.draft x.part y.part (one_draft mode text x.read y.read x.is y.is)
    x.last y.last ∙ sym y.are

-- ---- what is right has no fault

take_none : (draft : Draft) (s : ItemStep) (more : List ItemStep) → take_item s.item draft ≡ None → take_steps draft (s ∷ more) ≡ None
unfolding take_steps
take_none draft s more h = rw h refl

abbrev MayFollowBy : Mode → SpecReading → List ℕ → SpecItem → Type 0
MayFollowBy mode read gap item = may_stand mode (place_of_reading read) (is_some_gap gap) (kind_of item) ≡ true

-- an item that is wrong is none of the items of a reading
pub not_within : (mode : Mode) (text : List ℕ) (p : ℕ) (read : SpecReading) (e : SpecFault) (steps : List ItemStep) (draft : Draft)
    → IsItemAt mode text p read → IsWrong mode text p read e → AllByRecursion HasNoEmpty steps
    → take_steps (first_draft mode) steps ≡ Some draft
    → GoesOnWith mode None read.steps read.trail (drop p text) steps → ⊥
not_within mode text p read (fault.Unsupported q form) steps draft at wrong none value g =
    absurd (none-some form
    (sym (form_none mode (place_of_reading read) (has_gap read) (drop p text) g.step.item g.tail _ g.first
    (subst (λ (l : List ℕ). MayFollowBy mode read l g.step.item) g.gap g.right.stands)) ∙ wrong.1))
not_within mode text p read (fault.Expected q) steps draft at wrong none value g =
    wrong.1 g.step.item g.tail g.first (subst (λ (l : List ℕ). MayFollowBy mode read l g.step.item) g.gap g.right.stands)
not_within mode text p read (fault.BadVersion q) steps draft at wrong none value g =
    let same = one_first (drop p text) g.step.item wrong.1.0 g.tail wrong.1.1 g.first wrong.1.3 in
    let nowhere : empty_place g.step.item ≡ None =
    all_at HasNoEmpty read.steps g.step g.more (subst (AllByRecursion HasNoEmpty) g.joined none) in
    absurd (none-some wrong.1.2 (sym nowhere ∙ ap empty_place same.0 ∙ wrong.1.5))
not_within mode text p read (fault.TwiceSet q) steps draft at wrong none value g =
    let same = one_first (drop p text) g.step.item wrong.2.0 g.tail wrong.2.1 g.first wrong.2.2 in
    let refused : take_item g.step.item read.draft ≡ None = ap (λ (i : SpecItem). take_item i read.draft) same.0 ∙ wrong.2.5 in
    let stuck : take_steps (first_draft mode) steps ≡ None =
    ap (take_steps (first_draft mode)) g.joined ∙ take_append (first_draft mode) read.steps (g.step ∷ g.more)
    ∙ ap (option_and_then (λ next. take_steps next (g.step ∷ g.more))) at.before.value ∙ take_none read.draft g.step g.more refused in
    absurd (none-some draft (sym stuck ∙ value))
not_within mode text p read fault.OutOfMemory steps draft at wrong none value g = wrong

no_item : (mode : Mode) (text : List ℕ) (read : SpecReading) (e : SpecFault) → IsSpecReading mode text read → IsAtItem mode text e → ⊥
no_item mode text read e is (p, front, at, wrong) =
    elim (compare mode None text front.steps front.trail (drop p text) read.steps read.trail [] (item_cuts mode text p front at)
    (form_cuts mode text read.steps read.trail is.cut)) [
      | inl same ↦ rest_dark (drop p text) at.dark same.2
      | inr (inl g) ↦ not_within mode text p front e read.steps read.draft at wrong is.ranges is.value g
      | inr (inr g) ↦ no_rest g
    ]

pub only_memory : (mode : Mode) (text : List ℕ) (specs : List Spec) (e : SpecFault) → Spells mode text specs → IsFault mode text e
    → e ≡ fault.OutOfMemory
only_memory mode text specs (fault.Expected q) s (bad, inl f) = absurd (no_item mode text s.read (fault.Expected q) s.is f)
only_memory mode text specs (fault.Expected q) s (bad, inr f) =
    absurd (none-some s.part (sym f.2 ∙ ap (λ (d : Draft). d.part) (one_draft mode text f.0 s.read f.1 s.is) ∙ s.last))
only_memory mode text specs fault.OutOfMemory s f = refl
only_memory mode text specs e s f = absurd (no_item mode text s.read e s.is f)

-- ---- a text has one fault

drop_same : (text : List ℕ) (p q : ℕ) → p ≤ length text → q ≤ length text → drop p text ≡ drop q text → p ≡ q
drop_same text p q le less e = omega (arith, ap length e, length-drop p text, length-drop q text)

dark_within : (text : List ℕ) (p : ℕ) → IsDark (drop p text) → p ≤ length text
dark_within text p dark = elim (cases_lt p (length text)) [
  | inl lt ↦ omega arith
  | inr le ↦ rest_dark (drop p text) dark (drop_all p text le)
]

-- Expected has one place
abbrev IsBad : SpecFault → SpecFault → Mode → List ℕ → Type 0
IsBad (fault.Expected q) (fault.Expected r) mode text = q ≡ r
IsBad a b mode text = Unit {0}

-- two things that are wrong with one item are one
wrong_same : (mode : Mode) (text : List ℕ) (p : ℕ) (read : SpecReading) (a b : SpecFault) → IsBad a b mode text → IsWrong mode text p read a
    → IsWrong mode text p read b → a ≡ b
wrong_same mode text p read (fault.Unsupported q f) (fault.Unsupported r g) bad x y = let places : q ≡ r = x.0 ∙ sym y.0 in
    let forms : f ≡ g = same_Some f g (sym x.1 ∙ y.1) in cc
wrong_same mode text p read fault.OutOfMemory b bad x y = absurd x
wrong_same mode text p read a fault.OutOfMemory bad x y = absurd y
wrong_same mode text p read (fault.Unsupported q f) b bad x y = absurd (none-some f (sym y.0 ∙ x.1))
wrong_same mode text p read a (fault.Unsupported r g) bad x y = absurd (none-some g (sym x.0 ∙ y.1))
wrong_same mode text p read (fault.Expected q) (fault.Expected r) bad x y = ap (λ (k : ℕ). fault.Expected k) bad
wrong_same mode text p read (fault.Expected q) (fault.BadVersion r) bad x y = absurd (x.1 y.1.0 y.1.1 y.1.3 y.1.4)
wrong_same mode text p read (fault.Expected q) (fault.TwiceSet r) bad x y = absurd (x.1 y.2.0 y.2.1 y.2.2 y.2.3)
wrong_same mode text p read (fault.BadVersion q) (fault.Expected r) bad x y = absurd (y.1 x.1.0 x.1.1 x.1.3 x.1.4)
wrong_same mode text p read (fault.BadVersion q) (fault.BadVersion r) bad x y =
    let same = one_first (drop p text) x.1.0 y.1.0 x.1.1 y.1.1 x.1.3 y.1.3 in
    let places : x.1.2 ≡ y.1.2 = same_Some _ _ (sym x.1.5 ∙ ap empty_place same.0 ∙ y.1.5) in
    ap (λ (k : ℕ). fault.BadVersion k) (x.1.6 ∙ ap (λ (k : ℕ). p + k) places ∙ sym y.1.6)
wrong_same mode text p read (fault.BadVersion q) (fault.TwiceSet r) bad x y =
    let same = one_first (drop p text) x.1.0 y.2.0 x.1.1 y.2.1 x.1.3 y.2.2 in
    absurd (none-some x.1.2 (sym y.2.4 ∙ ap empty_place (sym same.0) ∙ x.1.5))
wrong_same mode text p read (fault.TwiceSet q) (fault.Expected r) bad x y = absurd (y.1 x.2.0 x.2.1 x.2.2 x.2.3)
wrong_same mode text p read (fault.TwiceSet q) (fault.BadVersion r) bad x y =
    let same = one_first (drop p text) x.2.0 y.1.0 x.2.1 y.1.1 x.2.2 y.1.3 in
    absurd (none-some y.1.2 (sym x.2.4 ∙ ap empty_place same.0 ∙ y.1.5))
wrong_same mode text p read (fault.TwiceSet q) (fault.TwiceSet r) bad x y = ap (λ (k : ℕ). fault.TwiceSet k) (x.1 ∙ sym y.1)

read_same : (a b : SpecReading) → a.steps ≡ b.steps → a.trail ≡ b.trail → a.draft ≡ b.draft → a ≡ b
read_same a b e f g =
    ap (λ (l : List ItemStep). record { steps = l; trail = a.trail; draft = a.draft }) e
    ∙ ap (λ (l : List ℕ). record { steps = b.steps; trail = l; draft = a.draft }) f
    ∙ ap (λ (d : Draft). record { steps = b.steps; trail = b.trail; draft = d }) g

items_same : (mode : Mode) (text : List ℕ) (a b : SpecFault) → IsBad a b mode text → IsAtItem mode text a → IsAtItem mode text b → a ≡ b
items_same mode text a b bad (p, r, at, x) (q, s, there, y) =
    elim (compare mode None text r.steps r.trail (drop p text) s.steps s.trail (drop q text) (item_cuts mode text p r at)
    (item_cuts mode text q s there)) [
      | inl same ↦
          let place : p ≡ q = drop_same text p q (dark_within text p at.dark) (dark_within text q there.dark) same.2 in
          let read : r ≡ s = read_same r s same.0 same.1 (reads_same mode r s same.0 at.before.value there.before.value) in
          wrong_same mode text q s a b bad (subst (λ (t : SpecReading). IsWrong mode text q t a) read
          (subst (λ (k : ℕ). IsWrong mode text k r a) place x)) y
      | inr (inl g) ↦ absurd (not_within mode text p r a s.steps s.draft at x there.before.ranges there.before.value g)
      | inr (inr g) ↦ absurd (not_within mode text q s b r.steps r.draft there y at.before.ranges at.before.value g)
    ]

pub one_fault : (mode : Mode) (text : List ℕ) (a b : SpecFault) → IsFault mode text a → IsFault mode text b → a ≢ fault.OutOfMemory
    → b ≢ fault.OutOfMemory → a ≡ b
one_fault mode text fault.OutOfMemory b x y m n = absurd (m refl)
one_fault mode text a fault.OutOfMemory x y m n = absurd (n refl)
one_fault mode text (fault.Expected q) (fault.Expected r) x y m n =
    ap (λ (k : ℕ). fault.Expected k) (one_place (HasForm mode) text q r x.0 y.0)
one_fault mode text (fault.Expected q) b (bad, inl x) y m n = items_same mode text _ b tt x y
one_fault mode text (fault.Expected q) b (bad, inr x) y m n = absurd (no_item mode text x.0 b x.1 y)
one_fault mode text a (fault.Expected r) x (bad, inl y) m n = items_same mode text a _ tt x y
one_fault mode text a (fault.Expected r) x (bad, inr y) m n = absurd (no_item mode text y.0 a y.1 x)
one_fault mode text a b x y m n = items_same mode text a b tt x y
