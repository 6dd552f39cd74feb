-- What was read before a place, one item more.
use Rattle.std.proofs.Common.{◌≡◌, ℕ, ◌<◌, ◌≤◌, ◌+◌, Bool, false, List, [], ◌∷◌, ◌++◌, length, take, drop, Option, Some, None, nat_lt, refl, sym, ap, subst, ◌∙◌, arith, append_assoc, option_and_then, take-append-drop, take_at, drop-drop, length-drop, length-append, length-take, take-add}
use Rattle.std.proofs.lemmas.List.Sums.{prefix_len-le-length}
use Rattle.spec_grammar.specs.declared.mode.Before.TheVariants.{Start}
use Rattle.spec_grammar.proofs.Common.{prefix_len, nat_tests, is_white, AreWhite, spell_item, IsOver, ItemStep, spell_step, spell_steps, before_item, before_of, is_some_gap, IsOverLast, take_item, SpecReading, last_item, place_of_reading, has_gap, IsSpecReading, IsDark, HasNoEmpty, take_steps, first_draft, IsAllowedItem}
use Rattle.spec_grammar.proofs.Common.{SpecItem, Mode, Before, Draft}
use Rattle.spec_grammar.proofs.RunLaws.{run_front, run_stop}
use Rattle.spec_grammar.proofs.StepLaws.{right_append, last_append, all_append, spell_one, take_append, take_one}

-- what is over before a text is over before its front
over_front : (item : SpecItem) (a rest : List ℕ) → IsOver item (a ++ rest) → IsOver item a
over_front item a rest over b more e = over b (more ++ rest) (ap (λ (l : List ℕ). l ++ rest) e)

over_last_front : (last : Option SpecItem) (a rest : List ℕ) → IsOverLast last (a ++ rest) → IsOverLast last a
over_last_front None a rest over = tt
over_last_front (Some item) a rest over = over_front item a rest over

-- ---- the place between items

-- before place `at` a draft was read, and what stood last is this, behind white space or not
pub record Stands (mode : Mode) (text : List ℕ) (at : ℕ) (draft : Draft) (before : Before) (gap : Bool) : Type 0 where
  pub read : SpecReading
  pub within : at ≤ length text
  pub is : IsSpecReading mode (take at text) read
  pub draft_is : read.draft ≡ draft
  pub before_is : place_of_reading read ≡ before
  pub gap_is : has_gap read ≡ gap
  pub over : IsOverLast (last_item read) (read.trail ++ drop at text)
  pub dark : at < length text → IsDark (drop at text)

dark_of : (l : List ℕ) → ((b : ℕ) (more : List ℕ) → l ≡ b ∷ more → is_white b ≡ false) → 0 < length l → IsDark l
dark_of [] stop lt = absurd (omega arith)
dark_of (b ∷ l) stop lt = stop b l refl

pub white_dark : (text : List ℕ) (n w : ℕ) → w ≡ prefix_len is_white (drop n text) → n + w < length text → IsDark (drop (n + w) text)
white_dark text n w e lt =
    let same : drop w (drop n text) ≡ drop (n + w) text = drop-drop w n text in
    rw (← same, e) (dark_of (drop (prefix_len is_white (drop n text)) (drop n text)) (run_stop is_white (drop n text))
    (omega (arith, length-drop n text, length-drop (prefix_len is_white (drop n text)) (drop n text))))

some_gap : (l : List ℕ) → is_some_gap l ≡ nat_lt 0 (length l)
some_gap [] = refl
some_gap (b ∷ l) = grind (arith, nat_tests)

take_gap : (text : List ℕ) (w : ℕ) → w ≤ length text → is_some_gap (take w text) ≡ nat_lt 0 w
take_gap text w le = some_gap (take w text) ∙ ap (λ (k : ℕ). nat_lt 0 k) (length-take w text ∙ omega arith)

white_take : (text : List ℕ) (w : ℕ) → w ≡ prefix_len is_white text → AreWhite (take w text)
white_take text w e = rw e (run_front is_white text)

pub stands_first : (mode : Mode) (text : List ℕ) (w : ℕ) (gap : Bool) → w ≡ prefix_len is_white text → gap ≡ nat_lt 0 w
    → Stands mode text w (first_draft mode) Start gap
unfolding take_steps
stands_first mode text w gap e g =
    let le : w ≤ length text = omega (arith, prefix_len-le-length is_white text) in
    record {
      read = record { steps = []; trail = take w text; draft = first_draft mode };
      within = le;
      is = record { cut = record { right = tt; white = white_take text w e; spelled = refl }; ranges = tt; value = refl };
      draft_is = refl;
      before_is = refl;
      gap_is = take_gap text w le ∙ sym g;
      over = tt;
      dark = λ lt. let zero_on : 0 + w ≡ w = omega arith in rw zero_on at (white_dark text 0 w e (omega arith));
    }

front_is : (l a : List ℕ) (n : ℕ) → n ≤ length l → l ≡ a ++ drop n l → take n l ≡ a
front_is l a n le e =
    let long : length a ≡ n = omega (arith, ap length e, length-append a (drop n l), length-drop n l) in
    ap (take n) e ∙ take_at a (drop n l) n long

pub stands_more : (mode : Mode) (text : List ℕ) (at n w : ℕ) (draft next : Draft) (before : Before) (gap more : Bool) (item : SpecItem)
    → Stands mode text at draft before gap → IsAllowedItem mode before gap (drop at text) item n → take_item item draft ≡ Some next
    → w ≡ prefix_len is_white (drop (at + n) text) → more ≡ nat_lt 0 w → Stands mode text (at + n + w) next (before_item item) more
stands_more mode text at n w draft next before gap more item s taken value e g =
    let read = s.read in
    let step : ItemStep = record { gap = read.trail; item = item } in
    let rest : List ℕ = drop n (drop at text) in
    let here : rest ≡ drop (at + n) text = drop-drop n at text in
    let cut : drop at text ≡ spell_item item ++ rest = taken.cut.first.cut in
    let within : at + n ≤ length text = omega (arith, taken.cut.within, length-drop at text, s.within) in
    let le : w ≤ length (drop (at + n) text) = omega (arith, prefix_len-le-length is_white (drop (at + n) text)) in
    let front : take n (drop at text) ≡ spell_item item = front_is (drop at text) (spell_item item) n taken.cut.within cut in
    let behind : take w (drop (at + n) text) ++ drop (at + n + w) text ≡ drop (at + n) text =
    ap (λ (l : List ℕ). take w (drop (at + n) text) ++ l) (sym (drop-drop w (at + n) text)) ∙ take-append-drop w (drop (at + n) text) in
    record {
      read = record { steps = read.steps ++ step ∷ []; trail = take w (drop (at + n) text); draft = next };
      within = omega (arith, within, le, length-drop (at + n) text);
      is = record {
        cut = record {
          right = right_append mode None read.steps (step ∷ []) s.is.cut.right (
            record {
              white = s.is.cut.white;
              form = taken.cut.first.form;
              stands = rw (s.before_is, s.gap_is) taken.stands;
              over = over_last_front (last_item read) (spell_step step) rest
                  (subst (IsOverLast (last_item read)) (ap (λ (l : List ℕ). read.trail ++ l) cut
                  ∙ sym (append_assoc read.trail (spell_item item) rest)) s.over);
            },
            tt,
          );
          white = white_take (drop (at + n) text) w e;
          spelled =
              rw (spell_one read.steps step)
              (take-add (at + n) w text
              ∙ ap (λ (l : List ℕ). l ++ take w (drop (at + n) text)) (take-add at n text ∙ ap (λ (l : List ℕ). take at text ++ l) front
              ∙ ap (λ (l : List ℕ). l ++ spell_item item) s.is.cut.spelled
              ∙ append_assoc (spell_steps read.steps) read.trail (spell_item item)));
        };
        ranges = all_append HasNoEmpty read.steps (step ∷ []) s.is.ranges (taken.cut.ranges, tt);
        value = take_append (first_draft mode) read.steps (step ∷ [])
            ∙ ap (option_and_then (λ d. take_steps d (step ∷ []))) (s.is.value ∙ ap (λ d. Some d) s.draft_is) ∙ take_one draft step ∙ value;
      };
      draft_is = refl;
      before_is = ap before_of (last_append None read.steps (step ∷ []));
      gap_is = take_gap (drop (at + n) text) w le ∙ sym g;
      over = rw (last_append None read.steps (step ∷ []), behind, ← here) taken.cut.first.over;
      dark = λ lt. white_dark text (at + n) w e lt;
    }
