-- The canonical text of a spec that was read is read again as it.
use Rattle.std.proofs.Common.{◌≡◌, ℕ, true, false, List, [], ◌∷◌, ◌++◌, ◌<◌, length, All, Option, Some, None, refl, sym, ap, subst, ◌∙◌, arith, append_assoc, Contains, ◌==◌, IsSome, codes, append-nil}
use Rattle.spec_grammar.specs.declared.mode.Mode.TheVariants.{Condition, LocalCondition}
use Rattle.spec_grammar.proofs.Common.{AllByRecursion, list_all, and_parts, nat_tests, All-from_recursion, IsInByteOrder, is_name_byte, IsName, is_start, IsOver, before_of, last_of, may_constrain, needs_name, empty_part, begin_part, spec_with, nest_in, nest, Spells, first_draft, part_text, below_text, spec_text, AreNamed, AreInOrder, AreValued, variant_names}
use Rattle.spec_grammar.proofs.Common.{SpecItem, Caret, Mode, Part, Spec, Draft}
use Rattle.spec_grammar.proofs.RunLaws.{two_cons, true_false}
use Rattle.spec_grammar.proofs.DraftLaws.{IsTop, IsBelow, whole}
use Rattle.spec_grammar.proofs.KeptLaws.{IsKept}
use Rattle.spec_grammar.proofs.PieceLaws.{Leads, leads_then, leads_none, leads_cons, over_space, at, MayBegin, part_leads}
use Rattle.spec_grammar.proofs.StepLaws.{nested_part, nested_specs, recursion_weaker}

no_name : {A : Type 0} (o : Option (List ℕ)) → IsSome o → o ≡ None → A
no_name None some e = absurd cc
no_name (Some w) some e = absurd cc

-- ---- the first part

nameless : (mode : Mode) (p : Part) → IsTop mode p → p.name ≡ None → (first_draft mode ≡ at (first_draft mode) (empty_part None))
    × (needs_name mode ≡ false)
nameless Condition p h e = (refl, refl)
nameless LocalCondition p h e = (refl, refl)
nameless mode p h e = no_name p.name (h.1 refl) e

begins : (mode : Mode) (w : List ℕ) → begin_part w (first_draft mode) (first_draft mode).part ≡ at (first_draft mode) (empty_part (Some w))
begins Condition w = refl
begins LocalCondition w = refl
begins mode w = refl

top_leads : (mode : Mode) (p : Part) → IsTop mode p → Leads mode None (part_text p) (first_draft mode) (at (first_draft mode) p)
top_leads mode p h =
    part_leads mode None (first_draft mode) p (record {
      stands = refl;
      over = λ w is. tt;
      begins = begins mode;
      nameless = λ e. let n =
          nameless mode p h e in (n.0, refl, n.1);
    }) h.0

-- ---- the parts behind `^`

start_apart : (b : ℕ) → is_start b ≡ true → (b == 91) ≡ false
start_apart b h = grind (arith, nat_tests)

caret_over : (w : List ℕ) → IsName w → IsOver Caret w
caret_over [] is b more e on = absurd cc
caret_over (c ∷ w) is b more e on = true_false (b == 91) on
    (start_apart b (subst (λ k. is_start k ≡ true) (two_cons c b w more e).0 (and_parts (is_start c) (list_all is_name_byte w) is).0))

below_begins : (draft : Draft) (w : List ℕ) → draft.part ≡ None → begin_part w draft draft.part ≡ at draft (empty_part (Some w))
below_begins draft w e = rw e refl

-- the spec with further parts
abbrev grown : Spec → List Part → Spec
grown s parts = record s { below = s.below ++ parts }

nested_with : (draft : Draft) (top : Option Part) (q r : Part) → draft.top ≡ top
    → spec_with (nest_in draft top q).top (nest_in draft top q).below r ≡ grown (spec_with top draft.below q) (r ∷ [])
nested_with draft None q r e = refl
nested_with draft (Some top) q r e = rw e refl

-- steps of this text lead to this spec
record LeadsTo (mode : Mode) (last : Option SpecItem) (text : List ℕ) (from : Draft) (spec : Spec) : Type 0 where
  to : Draft
  part : Part
  leads : Leads mode last text from (at to part)
  specs : to.specs ≡ []
  is : spec_with to.top to.below part ≡ spec

caret_leads : (mode : Mode) (last : Option SpecItem) (draft : Draft) (q r : Part) → IsBelow mode r
    → may_constrain mode (before_of last) ≡ true
    → Leads mode last (codes " ^" ++ part_text r) (at draft q) (at (nest (at draft q) q) r)
caret_leads mode last draft q r h ready =
    let next : Draft = nest (at draft q) q in
    let may : MayBegin mode (Some Caret) next r.name = record {
      stands = refl;
      over = caret_over;
      begins = λ w. below_begins next w (nested_part (at draft q) draft.top q);
      nameless = λ e. no_name r.name h.1 e;
    } in
    leads_cons mode last (record { gap = 32 ∷ []; item = Caret }) (part_text r) (at draft q) next (at next r)
    (record { white = refl; form = (tt, tt); stands = rw (ready, h.2) refl; over = over_space last (94 ∷ []) }) refl refl
    (part_leads mode (Some Caret) next r may h.0)

below_lead : (mode : Mode) (below : List Part) (last : Option SpecItem) (draft : Draft) (q : Part) → AllByRecursion (IsBelow mode) below
    → draft.specs ≡ [] → may_constrain mode (before_of last) ≡ true
    → LeadsTo mode last (below_text below) (at draft q) (grown (spec_with draft.top draft.below q) below)
below_lead mode [] last draft q h none ready = record {
  to = draft;
  part = q;
  leads = leads_none mode last (at draft q) ready;
  specs = none;
  is = ap (λ l. record (spec_with draft.top draft.below q) { below = l }) (sym (append-nil (spec_with draft.top draft.below q).below));
}
below_lead mode (r ∷ below) last draft q h none ready =
    let next : Draft = nest (at draft q) q in
    let s : Spec = spec_with draft.top draft.below q in
    let first = caret_leads mode last draft q r h.0 ready in
    let others = below_lead mode below (last_of last first.steps) next r h.1 (nested_specs (at draft q) draft.top q ∙ none) first.ready in
    record {
      to = others.to;
      part = others.part;
      leads = leads_then mode last (codes " ^" ++ part_text r) (below_text below) (at draft q) (at next r) (at others.to others.part)
          first others.leads;
      specs = others.specs;
      is = others.is ∙ ap (λ t. grown t below) (nested_with (at draft q) draft.top q r refl)
          ∙ ap (λ l. record s { below = l }) (append_assoc s.below (r ∷ []) below);
    }

-- ---- specs

spec_leads : (mode : Mode) (spec : Spec) → IsTop mode spec.top → AllByRecursion (IsBelow mode) spec.below
    → LeadsTo mode None (spec_text spec) (first_draft mode) spec
unfolding spec_text
spec_leads mode spec top below =
    let first = top_leads mode spec.top top in
    let others = below_lead mode spec.below (last_of None first.steps) (first_draft mode) spec.top below refl first.ready in
    record {
      to = others.to;
      part = others.part;
      leads = leads_then mode None _ _ _ _ _ first others.leads;
      specs =
          others.specs;
      is = others.is;
    }

spells : (mode : Mode) (text : List ℕ) (spec : Spec) → LeadsTo mode None text (first_draft mode) spec → Spells mode text (spec ∷ [])
spells mode text spec l = record {
  read = record { steps = l.leads.steps; trail = []; draft = at l.to l.part };
  is = record {
    cut = record { right = l.leads.right; white = refl; spelled = sym l.leads.spelled ∙ sym (append-nil _) };
    ranges =
        l.leads.ranges;
    value = l.leads.value;
  };
  part = l.part;
  last = refl;
  are = rw (l.specs, l.is) refl;
}

pub read_again : (mode : Mode) (text : List ℕ) (specs : List Spec) (spec : Spec) → Spells mode text specs → Contains specs spec
    → Spells mode (spec_text spec) (spec ∷ [])
read_again mode text specs spec s has = let w = whole mode text specs spec s has in
    spells mode (spec_text spec) spec (spec_leads mode spec w.0 w.1)

pub named : (mode : Mode) (text : List ℕ) (specs : List Spec) (spec : Spec) → Spells mode text specs → Contains specs spec
    → AreNamed mode spec
named mode text specs spec s has =
    let w = whole mode text specs spec s has in
    (w.0.1, All-from_recursion _ spec.below (recursion_weaker (IsBelow mode) (λ p. IsSome p.name) (λ p h. h.1) spec.below w.1))

pub ordered : (mode : Mode) (text : List ℕ) (specs : List Spec) (spec : Spec) → Spells mode text specs → Contains specs spec
    → AreInOrder spec
ordered mode text specs spec s has =
    let w = whole mode text specs spec s has in
    All-from_recursion _ (spec.top ∷ spec.below)
    (w.0.0.ordered, recursion_weaker (IsBelow mode) (λ p. IsInByteOrder (variant_names p.variants)) (λ p h. h.0.ordered) spec.below w.1)

pub valued : (mode : Mode) (text : List ℕ) (specs : List Spec) (spec : Spec) → Spells mode text specs → Contains specs spec
    → AreValued spec
valued mode text specs spec s has =
    let w = whole mode text specs spec s has in
    let of_part : (p : Part) → IsKept mode p → All (λ v. 0 < length v.1) p.variants =
    λ p h. All-from_recursion (λ v. 0 < length v.1) p.variants h.valued in
    All-from_recursion _ (spec.top ∷ spec.below) (
      of_part spec.top w.0.0,
      recursion_weaker (IsBelow mode) (λ p. All (λ v. 0 < length v.1) p.variants) (λ p h. of_part p h.0)
          spec.below w.1,
    )
