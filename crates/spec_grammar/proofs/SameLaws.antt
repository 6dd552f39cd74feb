-- A text is cut into items in one way.
use Rattle.std.proofs.Common.{◌≡◌, ℕ, true, false, List, [], ◌∷◌, ◌++◌, Option, Some, refl, sym, ap, subst, ◌∙◌, arith, inl, inr, append_assoc, ◌⊎◌, append-nil}
use Rattle.spec_grammar.proofs.Common.{list_all, and_parts, nat_tests, is_start, is_white, AreWhite, is_name_byte, IsName, spell_item, spell_values, HasShape, IsOver, ItemStep, spell_step, spell_steps, last_of, IsOverLast, IsRightStep, AreRight, IsFirst}
use Rattle.spec_grammar.proofs.Common.{Plus, Tilde, Minus, SpecItem, Name, Variant, Key, Mode}
use Rattle.spec_grammar.proofs.RunLaws.{Stop, stop_cons, run_cut, two_cons, cons_none}
use Rattle.spec_grammar.proofs.UniqueLaws.{one_first}

-- items, white space behind them, and a rest that begins with none
pub record Cuts (mode : Mode) (last : Option SpecItem) (text : List ℕ) (steps : List ItemStep) (trail rest : List ℕ) : Type 0 where
  pub right : AreRight mode last steps
  pub white : AreWhite trail
  pub spelled : text ≡ spell_steps steps ++ (trail ++ rest)
  pub over : IsOverLast (last_of last steps) (trail ++ rest)
  pub dark : Stop is_white rest

start_dark : (b : ℕ) → is_start b ≡ true → is_white b ≡ false
start_dark b h = grind (arith, nat_tests)

-- the first byte of an item is no white space
abbrev IsDarkText : List ℕ → Type 0
IsDarkText text = (b : ℕ) × (more : List ℕ) × (text ≡ b ∷ more) × (is_white b ≡ false)

dark_name : (w rest : List ℕ) → IsName w → IsDarkText (w ++ rest)
dark_name [] rest h = absurd cc
dark_name (b ∷ w) rest h = (b, w ++ rest, refl, start_dark b (and_parts (is_start b) (list_all is_name_byte w) h).0)

dark_item : (item : SpecItem) (rest : List ℕ) → HasShape item → IsDarkText (spell_item item ++ rest)
dark_item (Name w) rest h = dark_name w rest h
dark_item (Key w values) rest h = rw (append_assoc w (61 ∷ spell_values values) rest) (dark_name w (61 ∷ (spell_values values ++ rest)) h.0)
dark_item (Variant Plus w) rest h = (43, w ++ rest, refl, refl)
dark_item (Variant Tilde w) rest h = (126, w ++ rest, refl, refl)
dark_item (Variant Minus w) rest h = (45, w ++ rest, refl, refl)
dark_item item rest h = (_, _, refl, refl)

item_dark : (item : SpecItem) (rest : List ℕ) → HasShape item → Stop is_white (spell_item item ++ rest)
item_dark item rest h = let d = dark_item item rest h in rw d.2 (stop_cons is_white d.0 d.1 d.3)

pub some_item : {A : Type 0} (item : SpecItem) (rest : List ℕ) → HasShape item → spell_item item ++ rest ≡ [] → A
some_item item rest h e = let d = dark_item item rest h in cons_none d.0 d.1 (sym d.2 ∙ e)

-- an item that is over before the front of a text is over before it
over_more : (item : SpecItem) (a rest : List ℕ) → IsOver item a → (a ≡ [] → ⊥) → IsOver item (a ++ rest)
over_more item [] rest over some = absurd (some refl)
over_more item (b ∷ a) rest over some = λ c more e. over c a (ap (λ (x : ℕ). x ∷ a) (two_cons _ _ _ _ e).0)

gap_some : (gap text : List ℕ) → (text ++ [] ≡ [] → ⊥) → gap ++ text ≡ [] → ⊥
gap_some [] text some e = some (append-nil text ∙ e)
gap_some (b ∷ gap) text some e = cons_none b (gap ++ text) e

step_some : (s : ItemStep) → HasShape s.item → spell_step s ≡ [] → ⊥
step_some s h e = gap_some s.gap (spell_item s.item) (some_item s.item [] h) e

-- the first item of these
first_over : (mode : Mode) (item : SpecItem) (more : List ItemStep) (trail rest : List ℕ) → AreRight mode (Some item) more
    → IsOverLast (last_of (Some item) more) (trail ++ rest) → IsOver item (spell_steps more ++ (trail ++ rest))
first_over mode item [] trail rest are over = over
first_over mode item (t ∷ more) trail rest are over =
    subst (IsOver item) (sym (append_assoc (spell_step t) (spell_steps more) (trail ++ rest)))
    (over_more item (spell_step t) (spell_steps more ++ (trail ++ rest)) are.0.over (step_some t are.0.form.0))

step_first : (mode : Mode) (last : Option SpecItem) (text : List ℕ) (s : ItemStep) (more : List ItemStep) (trail rest : List ℕ)
    → Cuts mode last text (s ∷ more) trail rest
    → (text ≡ s.gap ++ (spell_item s.item ++ (spell_steps more ++ (trail ++ rest))))
    × IsFirst (spell_item s.item ++ (spell_steps more ++ (trail ++ rest))) s.item (spell_steps more ++ (trail ++ rest))
step_first mode last text s more trail rest c = (
  c.spelled ∙ append_assoc (spell_step s) (spell_steps more) (trail ++ rest)
      ∙ append_assoc s.gap (spell_item s.item) (spell_steps more ++ (trail ++ rest)),
  record { cut = refl; form = c.right.0.form; over = first_over mode s.item more trail rest c.right.1 c.over },
)

-- the second goes on with this step behind the rest of the first
pub record GoesOnWith (mode : Mode) (last : Option SpecItem) (steps : List ItemStep) (trail rest : List ℕ)
    (others : List ItemStep) : Type 0 where
  pub step : ItemStep
  pub more : List ItemStep
  pub tail : List ℕ
  pub joined : others ≡ steps ++ step ∷ more
  pub gap : step.gap ≡ trail
  pub first : IsFirst rest step.item tail
  pub right : IsRightStep mode (last_of last steps) step

abbrev pub AreSame : List ItemStep → List ℕ → List ℕ → List ItemStep → List ℕ → List ℕ → Type 0
AreSame a ta ra b tb rb = (a ≡ b) × (ta ≡ tb) × (ra ≡ rb)

none_first : (mode : Mode) (last : Option SpecItem) (text : List ℕ) (ta ra : List ℕ) (s : ItemStep) (more : List ItemStep) (tb rb : List ℕ)
    → Cuts mode last text [] ta ra → Cuts mode last text (s ∷ more) tb rb → GoesOnWith mode last [] ta ra (s ∷ more)
none_first mode last text ta ra s more tb rb a b =
    let f = step_first mode last text s more tb rb b in
    let tail : List ℕ = spell_steps more ++ (tb ++ rb) in
    let cut = run_cut is_white ta s.gap ra (spell_item s.item ++ tail) a.white b.right.0.white a.dark
    (item_dark s.item tail b.right.0.form.0)
    (sym a.spelled ∙ f.0) in
    record {
      step = s;
      more = more;
      tail = tail;
      joined = refl;
      gap = sym cut.0;
      first =
          subst (λ (l : List ℕ). IsFirst l s.item tail) (sym cut.1) f.1;
      right = b.right.0;
    }

next_same : (s t : ItemStep) → s.gap ≡ t.gap → s.item ≡ t.item → s ≡ t
next_same s t g i = ap (λ (l : List ℕ). record { gap = l; item = s.item }) g ∙ ap (λ (x : SpecItem). record { gap = t.gap; item = x }) i

compare_more : (mode : Mode) (last : Option SpecItem) (s : ItemStep) (a : List ItemStep) (ta ra : List ℕ) (b : List ItemStep)
    (tb rb : List ℕ)
    → AreSame a ta ra b tb rb ⊎ (GoesOnWith mode (Some s.item) a ta ra b ⊎ GoesOnWith mode (Some s.item) b tb rb a)
    → AreSame (s ∷ a) ta ra (s ∷ b) tb rb ⊎ (GoesOnWith mode last (s ∷ a) ta ra (s ∷ b) ⊎ GoesOnWith mode last (s ∷ b) tb rb (s ∷ a))
compare_more mode last s a ta ra b tb rb (inl same) = inl (ap (λ (l : List ItemStep). s ∷ l) same.0, same.1, same.2)
compare_more mode last s a ta ra b tb rb (inr (inl g)) =
    inr (inl (record {
      step = g.step;
      more = g.more;
      tail = g.tail;
      joined = ap (λ (l : List ItemStep). s ∷ l) g.joined;
      gap = g.gap;
      first =
          g.first;
      right = g.right;
    }))
compare_more mode last s a ta ra b tb rb (inr (inr g)) =
    inr (inr (record {
      step = g.step;
      more = g.more;
      tail = g.tail;
      joined = ap (λ (l : List ItemStep). s ∷ l) g.joined;
      gap = g.gap;
      first =
          g.first;
      right = g.right;
    }))

tail_cuts : (mode : Mode) (last : Option SpecItem) (text : List ℕ) (s : ItemStep) (more : List ItemStep) (trail rest : List ℕ)
    → Cuts mode last text (s ∷ more) trail rest → Cuts mode (Some s.item) (spell_steps more ++ (trail ++ rest)) more trail rest
tail_cuts mode last text s more trail rest c = record { right = c.right.1; white = c.white; spelled = refl; over = c.over; dark = c.dark }

pub compare : (mode : Mode) (last : Option SpecItem) (text : List ℕ) (a : List ItemStep) (ta ra : List ℕ) (b : List ItemStep)
    (tb rb : List ℕ)
    → Cuts mode last text a ta ra → Cuts mode last text b tb rb
    → AreSame a ta ra b tb rb ⊎ (GoesOnWith mode last a ta ra b ⊎ GoesOnWith mode last b tb rb a)
compare mode last text [] ta ra [] tb rb x y =
    let cut = run_cut is_white ta tb ra rb x.white y.white x.dark y.dark (sym x.spelled ∙ y.spelled) in
    inl (refl, cut.0, cut.1)
compare mode last text [] ta ra (t ∷ b) tb rb x y = inr (inl (none_first mode last text ta ra t b tb rb x y))
compare mode last text (s ∷ a) ta ra [] tb rb x y = inr (inr (none_first mode last text tb rb s a ta ra y x))
compare mode last text (s ∷ a) ta ra (t ∷ b) tb rb x y =
    let f = step_first mode last text s a ta ra x in
    let g = step_first mode last text t b tb rb y in
    let taila : List ℕ = spell_steps a ++ (ta ++ ra) in
    let tailb : List ℕ = spell_steps b ++ (tb ++ rb) in
    let cut = run_cut is_white s.gap t.gap (spell_item s.item ++ taila) (spell_item t.item ++ tailb) x.right.0.white y.right.0.white
    (item_dark s.item taila x.right.0.form.0) (item_dark t.item tailb y.right.0.form.0) (sym f.0 ∙ g.0) in
    let one = one_first (spell_item s.item ++ taila) s.item t.item taila tailb f.1
    (subst (λ (l : List ℕ). IsFirst l t.item tailb) (sym cut.1) g.1) in
    let same : s ≡ t = next_same s t cut.0 one.0 in
    let moved = subst (λ (z : ItemStep). Cuts mode last text (z ∷ b) tb rb) (sym same) y in
    let tails = subst (λ (l : List ℕ). Cuts mode (Some s.item) l b tb rb) (sym one.1) (tail_cuts mode last text s b tb rb moved) in
    subst (λ (z : ItemStep). AreSame (s ∷ a) ta ra (z ∷ b) tb rb
    ⊎ (GoesOnWith mode last (s ∷ a) ta ra (z ∷ b) ⊎ GoesOnWith mode last (z ∷ b) tb rb (s ∷ a))) same
    (compare_more mode last s a ta ra b tb rb (compare mode (Some s.item) taila a ta ra b tb rb
    (tail_cuts mode last text s a ta ra x) tails))
