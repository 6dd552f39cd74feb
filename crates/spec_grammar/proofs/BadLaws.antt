-- How far a text goes that is not of the right form.
use Rattle.std.proofs.Common.{◌≡◌, ℕ, zero, suc, ◌<◌, ◌≤◌, ◌+◌, ◌-◌, true, false, List, [], ◌∷◌, ◌++◌, length, take, drop, Option, Some, None, refl, sym, ap, subst, ◌∙◌, arith, inl, inr, append_assoc, ◌⊎◌, ◌==◌, is_some, append-nil, take-append-drop, take_all, length-drop, take-add}
use Rattle.spec_grammar.specs.declared.mode.Mode.TheVariants as mode_is
use Rattle.spec_grammar.specs.declared.mode.Before.TheVariants as before
use Rattle.spec_grammar.proofs.Common.{list_all, cases_Bool, cases_lt, and_parts, nat_tests, Begins, IsBadAt, is_white, AreWhite, spell_item, IsOver, kind_of, ItemStep, spell_step, spell_steps, before_of, before_item, last_of, IsOverLast, is_some_gap, IsRightStep, AreRight, IsCut, HasForm, needs_name, may_stand, may_end, begin_part, SpecReading, last_item, place_of_reading, has_gap, IsSpecReading, IsFirst, IsDark, IsItemAt, first_draft, initial_part, IsStuckHere, IsViable, varied}
use Rattle.spec_grammar.proofs.Common.{SpecItem, Name, Caret, Mode, Part, Draft}
use Rattle.spec_grammar.proofs.RunLaws.{Stop, stop_cons, stop_none, cons_none, true_false, two_cons}
use Rattle.spec_grammar.proofs.WhiteLaws.{last_white}
use Rattle.spec_grammar.proofs.VaryLaws.{varied_own}
use Rattle.spec_grammar.proofs.SameLaws.{Cuts, GoesOnWith, compare, some_item}
use Rattle.spec_grammar.proofs.StepLaws.{right_append, last_append, spell_one, steps_keep, Took, nested_part}

dark_stop : (text : List ℕ) → IsDark text → Stop is_white text
dark_stop [] h = absurd h
dark_stop (b ∷ text) h = stop_cons is_white b text h

pub item_cuts : (mode : Mode) (text : List ℕ) (p : ℕ) (read : SpecReading) → IsItemAt mode text p read
    → Cuts mode None text read.steps read.trail (drop p text)
item_cuts mode text p read at = record {
  right = at.before.cut.right;
  white = at.before.cut.white;
  spelled = sym (take-append-drop p text) ∙ ap (λ (l : List ℕ). l ++ drop p text) at.before.cut.spelled
      ∙ append_assoc (spell_steps read.steps) read.trail (drop p text);
  over = at.over;
  dark = dark_stop (drop p text) at.dark;
}

pub no_rest : {A : Type 0} {mode : Mode} {steps : List ItemStep} {trail : List ℕ} {others : List ItemStep}
    → GoesOnWith mode None steps trail [] others → A
no_rest g = some_item g.step.item g.tail g.first.form.0 (sym g.first.cut)

pub rest_dark : {A : Type 0} (text : List ℕ) → IsDark text → text ≡ [] → A
rest_dark [] h e = absurd h
rest_dark (b ∷ text) h e = cons_none b text e

pub form_cuts : (mode : Mode) (text : List ℕ) (steps : List ItemStep) (trail : List ℕ) → IsCut mode text steps trail
    → Cuts mode None text steps trail []
form_cuts mode text steps trail cut = record {
  right = cut.right;
  white = cut.white;
  spelled = cut.spelled ∙ ap (λ (l : List ℕ). spell_steps steps ++ l) (sym (append-nil trail));
  over = subst (IsOverLast (last_of None steps)) (sym (append-nil trail)) (last_white (last_of None steps) trail cut.white);
  dark = stop_none is_white;
}

-- no right text has, behind what was read, a rest with no item at its front
no_form : (mode : Mode) (text : List ℕ) (read : SpecReading) (rest : List ℕ) → Cuts mode None text read.steps read.trail rest → IsDark rest
    → ((item : SpecItem) (behind : List ℕ) → IsFirst rest item behind
    → may_stand mode (place_of_reading read) (has_gap read) (kind_of item) ≡ true → ⊥)
    → HasForm mode text → ⊥
no_form mode text read rest cuts dark none (steps, trail, cut, end) =
    elim (compare mode None text read.steps read.trail rest steps trail [] cuts (form_cuts mode text steps trail cut)) [
      | inl same ↦ rest_dark rest dark same.2
      | inr (inl g) ↦ none g.step.item g.tail g.first
          (subst (λ (l : List ℕ). may_stand mode (place_of_reading read) (is_some_gap l) (kind_of g.step.item) ≡ true) g.gap g.right.stands)
      | inr (inr g) ↦ no_rest g
    ]

-- ---- what was read can be completed

white_bracket : (b : ℕ) → is_white b ≡ true → (b == 91) ≡ false
white_bracket b h = grind (arith, nat_tests)

caret_over : (trail : List ℕ) → AreWhite trail → IsOver Caret (trail ++ 97 ∷ [])
caret_over [] h = λ b more e on. true_false (97 == 91) (ap (λ (c : ℕ). c == 91) (two_cons _ _ _ _ e).0 ∙ on) refl
caret_over (c ∷ trail) h = λ b more e on. true_false (c == 91) (ap (λ (d : ℕ). d == 91) (two_cons _ _ _ _ e).0 ∙ on)
    (white_bracket c (and_parts (is_white c) (list_all is_white trail) h).0)

whole_form : (mode : Mode) (steps : List ItemStep) (trail : List ℕ) → AreRight mode None steps → AreWhite trail
    → may_end mode (before_of (last_of None steps)) ≡ true → Begins (HasForm mode) (spell_steps steps ++ trail)
whole_form mode steps trail are white end =
    ([], (steps, trail, record { right = are; white = white; spelled = append-nil (spell_steps steps ++ trail) }, end))

-- with one step more, the text may end
with_step : (mode : Mode) (steps : List ItemStep) (s : ItemStep) → AreRight mode None steps → IsRightStep mode (last_of None steps) s
    → may_end mode (before_item s.item) ≡ true → HasForm mode (spell_steps steps ++ spell_step s)
with_step mode steps s are is end = (
  steps ++ s ∷ [],
  [],
  record { right = right_append mode None steps (s ∷ []) are (is, tt); white = refl; spelled = sym (append-nil _ ∙ spell_one steps s) },
  ap (λ (l : Option SpecItem). may_end mode (before_of l)) (last_append None steps (s ∷ [])) ∙ end,
)

name_step : (mode : Mode) (steps : List ItemStep) (trail : List ℕ) (last : Option SpecItem) → last_of None steps ≡ last
    → AreRight mode None steps
    → AreWhite trail → IsOverLast last (trail ++ 97 ∷ [])
    → may_stand mode (before_of last) (is_some_gap trail) (kind_of (Name (97 ∷ []))) ≡ true
    → HasForm mode (spell_steps steps ++ (trail ++ 97 ∷ []))
name_step mode steps trail last e are white over may =
    with_step mode steps (record { gap = trail; item = Name (97 ∷ []) }) are
    (record { white = white; form = (refl, tt); stands = rw e may; over = rw e over }) refl

complete_by : (mode : Mode) (steps : List ItemStep) (trail : List ℕ) (last : Option SpecItem) → last_of None steps ≡ last
    → AreRight mode None steps
    → AreWhite trail → Begins (HasForm mode) (spell_steps steps ++ trail)
complete_by mode steps trail None e are white = elim (cases_Bool (needs_name mode)) [
  | inl needs ↦ (
    97 ∷ [],
    subst (HasForm mode) (sym (append_assoc (spell_steps steps) trail (97 ∷ [])))
        (name_step mode steps trail None e are white tt refl),
  )
  | inr not_needed ↦ whole_form mode steps trail are white (ap (λ (l : Option SpecItem). may_end mode (before_of l)) e ∙ rw not_needed refl)
]
complete_by mode steps trail (Some Caret) e are white = (
  97 ∷ [],
  subst (HasForm mode) (sym (append_assoc (spell_steps steps) trail (97 ∷ [])))
      (name_step mode steps trail (Some Caret) e are white (caret_over trail white) refl),
)
complete_by mode steps trail (Some item) e are white =
    whole_form mode steps trail are white (ap (λ (l : Option SpecItem). may_end mode (before_of l)) e)

complete : (mode : Mode) (text : List ℕ) (steps : List ItemStep) (trail : List ℕ) → IsCut mode text steps trail → Begins (HasForm mode) text
complete mode text steps trail cut = subst (Begins (HasForm mode)) (sym cut.spelled)
    (complete_by mode steps trail (last_of None steps) refl cut.right cut.white)

-- ---- the same byte

over_byte : (last : Option SpecItem) (trail : List ℕ) (b : ℕ) (r s : List ℕ) → IsOverLast last (trail ++ b ∷ r)
    → IsOverLast last (trail ++ b ∷ s)
over_byte None trail b r s over = tt
over_byte (Some item) [] b r s over = λ c more e. over c r (ap (λ (x : ℕ). x ∷ r) (two_cons _ _ _ _ e).0)
over_byte (Some item) (t ∷ trail) b r s over =
    λ c more e. over c (trail ++ b ∷ r) (ap (λ (x : ℕ). x ∷ (trail ++ b ∷ r)) (two_cons _ _ _ _ e).0)

over_last_byte : (last : Option SpecItem) (trail : List ℕ) (b : ℕ) (a c r s : List ℕ) → a ≡ b ∷ r → c ≡ b ∷ s → IsOverLast last (trail ++ a)
    → IsOverLast last (trail ++ c)
over_last_byte last trail b a c r s e f over = rw f (over_byte last trail b r s (rw e at over))

dark_byte : (b : ℕ) (a c r s : List ℕ) → a ≡ b ∷ r → c ≡ b ∷ s → IsDark a → IsDark c
dark_byte b a c r s e f dark = rw f (rw e at dark)

dark_cons : (rest : List ℕ) → IsDark rest → (b : ℕ) × (r : List ℕ) × (rest ≡ b ∷ r)
dark_cons [] h = absurd h
dark_cons (b ∷ r) h = (b, r, refl)

item_begins : (mode : Mode) (text : List ℕ) (p : ℕ) (read : SpecReading) (k : ℕ) → IsItemAt mode text p read → p ≤ length text
    → IsViable mode (place_of_reading read) (has_gap read) (drop p text) (suc k) → Begins (HasForm mode) (take (p + suc k) text)
item_begins mode text p read k at le v =
    let d = dark_cons (drop p text) at.dark in
    let spelled : spell_item v.item ≡ d.0 ∷ (take k d.1 ++ v.tail) = sym v.cut ∙ ap (λ (l : List ℕ). take (suc k) l ++ v.tail) d.2 in
    let step : ItemStep = record { gap = read.trail; item = v.item } in
    let right : IsRightStep mode (last_item read) step =
    record {
      white = at.before.cut.white;
      form = v.form;
      stands = v.stands;
      over =
          over_last_byte (last_item read) read.trail d.0 (drop p text) (spell_item v.item) d.1 (take k d.1 ++ v.tail) d.2 spelled at.over;
    } in
    let steps = read.steps ++ step ∷ [] in
    let cut : IsCut mode (spell_steps steps) steps [] =
    record {
      right = right_append mode None read.steps (step ∷ []) at.before.cut.right (right, tt);
      white = refl;
      spelled =
          sym (append-nil (spell_steps steps));
    } in
    let done = complete mode (spell_steps steps) steps [] cut in
    let text_is : take (p + suc k) text ++ v.tail ≡ spell_steps steps =
    ap (λ (l : List ℕ). l ++ v.tail) (take-add p (suc k) text) ∙ append_assoc (take p text) (take (suc k) (drop p text)) v.tail
    ∙ ap (λ (l : List ℕ). take p text ++ l) v.cut ∙ ap (λ (l : List ℕ). l ++ spell_item v.item) at.before.cut.spelled
    ∙ append_assoc (spell_steps read.steps) read.trail (spell_item v.item) ∙ sym (spell_one read.steps step) in (
      v.tail ++ done.0,
      subst (HasForm mode) (ap (λ (l : List ℕ). l ++ done.0) (sym text_is)
          ∙ append_assoc (take (p + suc k) text) v.tail done.0) done.1,
    )

front_begins : (mode : Mode) (text : List ℕ) (p : ℕ) (read : SpecReading) (q : ℕ) → IsItemAt mode text p read → p ≤ length text → (q ≡ 0)
    ⊎ IsViable mode (place_of_reading read) (has_gap read) (drop p text) q → Begins (HasForm mode) (take (p + q) text)
front_begins mode text p read zero at le v = let none : p + 0 ≡ p = omega arith in
    rw none (complete mode (take p text) read.steps read.trail at.before.cut)
front_begins mode text p read (suc k) at le (inl no_more) = absurd (omega (arith, no_more))
front_begins mode text p read (suc k) at le (inr v) = item_begins mode text p read k at le v

-- a longer front is none of a right text
not_further : (mode : Mode) (text : List ℕ) (p : ℕ) (read : SpecReading) (q k : ℕ) (more : List ℕ) → IsItemAt mode text p read
    → p ≤ length text
    → IsStuckHere mode (place_of_reading read) (has_gap read) (drop p text) q → p + q < k → k ≤ length text
    → HasForm mode (take k text ++ more) → ⊥
not_further mode text p read q k more at le stuck gt within right =
    let rest : List ℕ = drop p text in
    let d = dark_cons rest at.dark in
    let bytes : k ≡ p + (q + 1 + (k - (p + q + 1))) = omega arith in
    let j : ℕ = k - (p + q + 1) in
    let tail : List ℕ = take j (drop (q + 1) rest) ++ more in
    let here : List ℕ = varied rest q tail in
    let cut : take k text ++ more ≡ take p text ++ here =
    ap (λ (i : ℕ). take i text ++ more) bytes
    ∙ ap (λ (l : List ℕ). l ++ more) (take-add p (q + 1 + j) text ∙ ap (λ (l : List ℕ). take p text ++ l) (take-add (q + 1) j rest))
    ∙ append_assoc (take p text) (take (q + 1) rest ++ take j (drop (q + 1) rest)) more
    ∙ ap (λ (l : List ℕ). take p text ++ l) (append_assoc (take (q + 1) rest) (take j (drop (q + 1) rest)) more) in
    let one : q + 1 ≡ suc q = omega arith in
    let first : here ≡ d.0 ∷ (take q d.1 ++ tail) = ap (λ (i : ℕ). take i rest ++ tail) one
    ∙ ap (λ (l : List ℕ). take (suc q) l ++ tail) d.2 in
    let cuts : Cuts mode None (take k text ++ more) read.steps read.trail here = record {
      right = at.before.cut.right;
      white = at.before.cut.white;
      spelled = cut ∙ ap (λ (l : List ℕ). l ++ here) at.before.cut.spelled ∙ append_assoc (spell_steps read.steps) read.trail here;
      over = over_last_byte (last_item read) read.trail d.0 rest here d.1 (take q d.1 ++ tail) d.2 first at.over;
      dark = dark_stop here (dark_byte d.0 rest here d.1 (take q d.1 ++ tail) d.2 first at.dark);
    } in
    no_form mode (take k text ++ more) read here cuts (dark_byte d.0 rest here d.1 (take q d.1 ++ tail) d.2 first at.dark)
    (λ item behind. stuck.none tail (λ short. absurd (omega (arith, length-drop p text, short))) item behind) right

pub bad_at : (mode : Mode) (text : List ℕ) (p : ℕ) (read : SpecReading) (q : ℕ) → IsItemAt mode text p read → p ≤ length text
    → IsStuckHere mode (place_of_reading read) (has_gap read) (drop p text) q → IsBadAt (HasForm mode) text (p + q)
bad_at mode text p read q at le stuck =
    let own = varied_own (drop p text) q in
    record {
      wrong = no_form mode text read (drop p text) (item_cuts mode text p read at) at.dark
          (λ item behind first. stuck.none own.0 own.1 item behind (subst (λ (l : List ℕ). IsFirst l item behind) (sym own.2) first));
      front = record {
        within = omega (arith, stuck.within, length-drop p text);
        begins = front_begins mode text p read q at le stuck.viable;
        longest = λ k within b. elim (cases_lt (p + q) k) [
          | inl gt ↦ absurd (not_further mode text p read q k b.0 at le stuck gt within b.1)
          | inr less ↦ less
        ];
      };
    }

-- ---- a text that ends early

named_ends : (w : List ℕ) (draft : Draft) (part : Option Part) → is_some (begin_part w draft part).part ≡ true
named_ends w draft None = refl
named_ends w draft (Some part) = elim (cases_Bool (is_some part.name)) [ inl h ↦ rw h refl | inr h ↦ rw h refl ]

part_after : (mode : Mode) (item : SpecItem) (draft next : Draft) → Took item draft next
    → is_some next.part ≡ may_end mode (before_item item)
part_after mode (Name w) draft next took = ap (λ (d : Draft). is_some d.part) (sym took) ∙ named_ends w draft draft.part
part_after mode Caret draft next took = ap (λ (d : Draft). is_some d.part) (sym took.2) ∙ ap is_some (nested_part draft draft.top took.0)
part_after mode item draft next took = ap (λ (d : Draft). is_some d.part) (sym took.4)

first_ends : (mode : Mode) → is_some (initial_part (needs_name mode)) ≡ may_end mode before.Start
first_ends mode_is.Condition = refl
first_ends mode_is.LocalCondition = refl
first_ends mode = refl

pub bad_end : (mode : Mode) (text : List ℕ) (read : SpecReading) → IsSpecReading mode text read → read.draft.part ≡ None
    → IsBadAt (HasForm mode) text (length text)
bad_end mode text read is none =
    let ends = steps_keep mode (λ place draft. is_some draft.part ≡ may_end mode place)
    (λ last s a b right ranges h. part_after mode s.item a b) None read.steps (first_draft mode) read.draft is.cut.right is.ranges
    (first_ends mode) is.value in
    let open_ : may_end mode (before_of (last_of None read.steps)) ≡ false = sym ends ∙ ap is_some none in
    record {
      wrong = λ (steps, trail, cut, end). elim (compare mode None text read.steps read.trail [] steps trail []
          (form_cuts mode text read.steps read.trail is.cut) (form_cuts mode text steps trail cut)) [
            | inl same ↦ true_false (may_end mode (before_of (last_of None steps))) end (rw same.0 at open_)
            | inr (inl g) ↦ no_rest g
            | inr (inr g) ↦ no_rest g
          ];
      front = record {
        within = omega arith;
        begins = rw (take_all (length text) text (omega arith)) (complete mode text read.steps read.trail is.cut);
        longest = λ k within b. within;
      };
    }
