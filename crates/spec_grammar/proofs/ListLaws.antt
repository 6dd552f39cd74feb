-- A LIST as an item, or as a compiler's versions.
use Rattle.std.proofs.Common.{◌≡◌, ℕ, ◌<◌, ◌≤◌, ◌+◌, ◌^◌, suc, List, [], ◌∷◌, ◌++◌, length, take, drop, Some, None, refl, sym, ap, subst, ◌∙◌, arith, inl, inr, append_assoc, append-nil, take-append-drop, take-take, take_at, length-append, length-take, length-drop, option_map, Option}
use Rattle.version_order.specs.Items.{spell_more, is_empty_range, spell as spell_range}
use Rattle.spec_grammar.specs.declared.fault.SpecFault.TheVariants as fault
use Rattle.spec_grammar.proofs.Common.{cases_Bool, cases_order, Begins, IsLongestFront, Reads, IsList, spelling, first_empty, AreListed, IsFirst, IsListAt, IsListFault, IsCutOff, IsItemFault, IsStuck, Varies, varied, moved, Fits, same_Some, none-some}
use Rattle.spec_grammar.proofs.Common.{VersionItem, SpecItem, Versions, SpecFault}
use Rattle.spec_grammar.proofs.RunLaws.{two_cons}
use Rattle.spec_grammar.proofs.KindLaws.{first_kind}
use Rattle.spec_grammar.proofs.VaryLaws.{varied_front, varied_cons, varies_cons, varied_longest}

-- no LIST goes on with what is behind these items
abbrev pub IsListOver : List VersionItem → List ℕ → Type 0
IsListOver items rest = (b : ℕ) (more : List ℕ) → rest ≡ b ∷ more → Begins IsList (spelling items ++ b ∷ []) → ⊥

begins_front : (a b : List ℕ) → Begins IsList (a ++ b) → Begins IsList a
begins_front a b (rest, is) = (b ++ rest, subst IsList (append_assoc a b rest) is)

listed : (items : List VersionItem) → AreListed items → Begins IsList (spelling items)
listed items are = ([], subst IsList (sym (append-nil (spelling items))) (items, are))

-- the longest front of a LIST's beginning does not go on
no_longer : (text : List ℕ) (n : ℕ) (items : List VersionItem) (rest : List ℕ) → IsLongestFront IsList text n
    → text ≡ spelling items ++ rest → IsListOver items rest → length (spelling items) < n → ⊥
no_longer text n items [] front e over lt = omega (arith, front.within, ap length e, length-append (spelling items) [])
no_longer text n items (b ∷ more) front e over lt =
    let l : List ℕ = spelling items in
    let k : ℕ = length l + 1 in
    let regroup : text ≡ (l ++ b ∷ []) ++ more = e ∙ sym (append_assoc l (b ∷ []) more) in
    let first : take k (take n text) ≡ l ++ b ∷ [] = take-take k n text (omega arith) ∙ ap (take k) regroup
    ∙ take_at (l ++ b ∷ []) more k (length-append l (b ∷ [])) in
    let cut : take n text ≡ (l ++ b ∷ []) ++ drop k (take n text) = sym (take-append-drop k (take n text))
    ∙ ap (λ (a : List ℕ). a ++ drop k (take n text)) first in
    over b more refl (begins_front (l ++ b ∷ []) (drop k (take n text)) (subst (Begins IsList) cut front.begins))

pub list_here : (text : List ℕ) (n : ℕ) (items : List VersionItem) (rest : List ℕ) → IsLongestFront IsList text n
    → text ≡ spelling items ++ rest → AreListed items → IsListOver items rest → take n text ≡ spelling items
list_here text n items rest front e are over =
    let l : List ℕ = spelling items in
    let own : take (length l) text ≡ l = ap (take (length l)) e ∙ take_at l rest (length l) refl in
    let le : length l ≤ n = front.longest (length l) (omega (arith, ap length e, length-append l rest))
    (subst (Begins IsList) (sym own) (listed items are)) in
    elim (cases_order (length l) n) [
      | inl same ↦ ap (λ (k : ℕ). take k text) (sym same) ∙ own
      | inr (inl lt) ↦ absurd (no_longer text n items rest front e over lt)
      | inr (inr gt) ↦ absurd (omega arith)
    ]

-- behind the longest front no LIST goes on
pub list_over : (text : List ℕ) (n : ℕ) (items : List VersionItem) → IsLongestFront IsList text n → take n text ≡ spelling items
    → IsListOver items (drop n text)
list_over text n items front e b more behind begins =
    let cut : text ≡ (spelling items ++ b ∷ []) ++ more = sym (take-append-drop n text) ∙ ap (λ (l : List ℕ). l ++ drop n text) e
    ∙ ap (λ (l : List ℕ). spelling items ++ l) behind ∙ sym (append_assoc (spelling items) (b ∷ []) more) in
    let long : length (spelling items) ≡ n = ap length (sym e) ∙ length-take n text ∙ omega (arith, front.within) in
    let first : take (n + 1) text ≡ spelling items ++ b ∷ [] = ap (take (n + 1)) cut
    ∙ take_at (spelling items ++ b ∷ []) more (n + 1) (length-append (spelling items) (b ∷ []) ∙ omega arith) in
    let within : n + 1 ≤ length text = omega (arith, ap length behind, length-drop n text) in
    omega (arith, front.longest (n + 1) within (subst (Begins IsList) (sym first) begins))

-- ---- empty ranges

-- places count from where the first range stands
pub empty_past : (items : List VersionItem) (p by : ℕ) (o : Option ℕ) → first_empty p items ≡ o
    → first_empty (by + p) items ≡ option_map (λ q. by + q) o
unfolding first_empty
empty_past [] p by o e = ap (option_map (λ q. by + q)) e
empty_past (x ∷ items) p by o e = elim (cases_Bool (is_empty_range x)) [
  | inl is ↦ rw is (ap (option_map (λ q. by + q)) (rw is at e))
  | inr other ↦ rw other (ap (λ (k : ℕ). first_empty k items) (omega arith)
      ∙ empty_past items (p + length (spell_range x) + 1) by o (rw other at e))
]

pub empty_below : (items : List VersionItem) (p q : ℕ) → first_empty p items ≡ Some q → q < p + length (spell_more items)
unfolding first_empty
empty_below [] p q e = absurd (none-some q e)
empty_below (x ∷ items) p q e = elim (cases_Bool (is_empty_range x)) [
  | inl is ↦ let same = same_Some p q (rw is at e) in omega arith
  | inr other ↦
      let more = empty_below items (p + length (spell_range x) + 1) q (rw other at e) in
      omega (arith, length-append (spell_range x) (spell_more items))
]

pub more_length : (text : List ℕ) (items : List VersionItem) → Reads text items → length (spell_more items) ≡ length text + 1
more_length text [] r = absurd (omega (arith, r.some))
more_length text (x ∷ items) r = omega (arith, ap length r.spelled)

pub empty_within : (text : List ℕ) (items : List VersionItem) (q : ℕ) → Reads text items → first_empty 0 items ≡ Some q → q ≤ length text
empty_within text items q r e = omega (arith, empty_below items 0 q e, more_length text items r)

pub list_fits : (text : List ℕ) (by : ℕ) (e : SpecFault) → by + length text < 2 ^ 64 → IsListFault text e → Fits by e
list_fits text by (fault.Expected q) lt h = omega (arith, h.0.within)
list_fits text by (fault.BadVersion q) lt h = omega (arith, empty_within (take h.1 text) h.0 q h.2.reads h.3, length-take h.1 text)
list_fits text by fault.OutOfMemory lt h = tt
list_fits text by e lt h = absurd h

-- ---- `@LIST`

pub reads_own : (text : List ℕ) (items : List VersionItem) → Reads text items → AreListed items
reads_own text items r = record { some = r.some; each = r.each; spelled = refl }

versions_first : (text : List ℕ) (items : List VersionItem) (n : ℕ) → IsListAt text items n
    → IsFirst (64 ∷ text) (Versions items) (drop n text)
versions_first text items n at = record {
  cut = ap (λ (l : List ℕ). 64 ∷ l) (sym (take-append-drop n text) ∙ ap (λ (l : List ℕ). l ++ drop n text) at.reads.spelled);
  form = (reads_own (take n text) items at.reads, tt);
  over = list_over text n items at.longest at.reads.spelled;
}

pub take_one : (b n : ℕ) (text tail : List ℕ) → take (1 + n) (b ∷ text) ++ tail ≡ b ∷ (take n text ++ tail)
take_one b n text tail = let one : 1 + n ≡ suc n = omega arith in rw one refl

pub drop_one : (b n : ℕ) (text : List ℕ) → drop (1 + n) (b ∷ text) ≡ drop n text
drop_one b n text = let one : 1 + n ≡ suc n = omega arith in rw one refl

pub versions_read : (text : List ℕ) (items : List VersionItem) (n : ℕ) → IsListAt text items n → first_empty 0 items ≡ None
    → IsCutOff (64 ∷ text) (Versions items) (1 + n)
versions_read text items n at none = record {
  within = omega (arith, at.longest.within);
  first = rw (drop_one 64 n text) (versions_first text items n at);
  ranges = empty_past items 0 1 None none;
}

-- `@` begins this item
pub record AtVersions (text : List ℕ) (item : SpecItem) (rest : List ℕ) : Type 0 where
  pub items : List VersionItem
  pub same : item ≡ Versions items
  pub are : AreListed items
  pub cut : text ≡ spelling items ++ rest
  pub over : IsListOver items rest

pub at_versions : (text : List ℕ) (item : SpecItem) (rest : List ℕ) → IsFirst (64 ∷ text) item rest → AtVersions text item rest
at_versions text (Versions items) rest first =
    record { items = items; same = refl; are = first.form.0; cut = (two_cons _ _ _ _ first.cut).1; over = first.over }
at_versions text item rest first = absurd (let e = first_kind (64 ∷ text) item rest first in cc)

pub no_list : (text : List ℕ) (q : ℕ) → IsLongestFront IsList text q → (IsList (take q text) → ⊥)
    → (items : List VersionItem) (rest : List ℕ) → text ≡ spelling items ++ rest → AreListed items → IsListOver items rest → ⊥
no_list text q front not_list items rest e are over =
    not_list (subst IsList (sym (list_here text q items rest front e are over)) (items, are))

-- no LIST varies from one that is stuck
pub no_varied_list : (text : List ℕ) (q : ℕ) (more : List ℕ) → IsLongestFront IsList text q → (IsList (take q text) → ⊥)
    → Varies text q more → (items : List VersionItem) (rest : List ℕ) → varied text q more ≡ spelling items ++ rest → AreListed items
    → IsListOver items rest → ⊥
no_varied_list text q more front not_list varies =
    no_list (varied text q more) q (varied_longest IsList text q more front varies)
    (λ is. not_list (subst IsList (varied_front text q more front.within) is))

versions_stuck : (text : List ℕ) (q : ℕ) → IsLongestFront IsList text q → (IsList (take q text) → ⊥) → IsStuck (64 ∷ text) (1 + q)
versions_stuck text q front not_list =
    let more = front.begins in
    record {
      within = omega (arith, front.within);
      none = λ tail varies item rest first.
          let a = at_versions (varied text q tail) item rest
          (subst (λ (l : List ℕ). IsFirst l item rest) (varied_cons 64 text q tail) first) in
          no_varied_list text q tail front not_list (varies_cons 64 text q tail varies) a.items rest a.cut a.are a.over;
      tail = more.0;
      item = Versions more.1.0;
      form = (reads_own (take q text ++ more.0) more.1.0 more.1.1, tt);
      kind = refl;
      cut = take_one 64 q text more.0 ∙ ap (λ (l : List ℕ). 64 ∷ l) more.1.1.spelled;
    }

pub versions_moved : (text : List ℕ) (e : SpecFault) → IsListFault text e → IsItemFault (64 ∷ text) (moved 1 e)
versions_moved text (fault.Expected q) h = versions_stuck text q h.0 h.1
versions_moved text (fault.BadVersion q) h = (Versions h.0, drop h.1 text, versions_first text h.0 h.1 h.2, empty_past h.0 0 1 (Some q) h.3)
versions_moved text fault.OutOfMemory h = tt
versions_moved text e h = absurd h
