-- Items that are a NAME, or have one behind a mark.
use Rattle.std.proofs.Common.{◌≡◌, ℕ, ◌<◌, ◌≤◌, ◌+◌, suc, true, false, List, [], ◌∷◌, ◌++◌, length, take, drop, Some, refl, sym, ap, subst, ◌∙◌, arith, inl, inr, ◌==◌, ◌||◌, eqb-true, append-nil, take-append-drop, take_at, drop_at, length-take}
use Rattle.spec_grammar.specs.declared.item.Kind.TheVariants as kind
use Rattle.spec_grammar.proofs.Common.{prefix_len, cases_Bool, or_from, nat_tests, is_start, is_name_byte, IsName, name_length, IsOver, kind_of, kind_at, starts_with_byte, mark_byte, is_name_end, IsFirst, IsCutOff, IsStuck, Varies, varied, same_Some}
use Rattle.spec_grammar.proofs.Common.{Mark, Plus, Tilde, Minus, SpecItem, Name, Variant}
use Rattle.spec_grammar.proofs.RunLaws.{Stop, stop_cons, name_front, name_stop, name_length_is, name_length-le, true_false, two_cons}
use Rattle.spec_grammar.proofs.KindLaws.{named, name_some, over_name, over_variant, first_kind, or_right}
use Rattle.spec_grammar.proofs.ListLaws.{drop_one}
use Rattle.spec_grammar.proofs.VaryLaws.{take_behind}

-- the NAME that a text begins with, and what is behind it
pub name_cut : (text w rest : List ℕ) → text ≡ w ++ rest → IsName w → Stop is_name_byte rest → (take (name_length text) text ≡ w)
    × (drop (name_length text) text ≡ rest) × (name_length text ≡ length w)
name_cut text w rest e h stop =
    let n : name_length text ≡ length w = ap name_length e ∙ name_length_is w rest h stop in (
      ap (take (name_length text)) e ∙ take_at w rest (name_length text) (sym n),
      ap (drop (name_length text)) e
          ∙ drop_at w rest (name_length text) (sym n),
      n,
    )

pub some_text : (w : List ℕ) → IsName w → 0 < length w
some_text [] h = absurd cc
some_text (b ∷ w) h = omega arith

-- ---- a mark and a NAME

pub variant_is : (mark : Mark) (text : List ℕ) → kind_at (mark_byte mark ∷ text) ≡ Some (kind.Variant mark)
variant_is Plus text = refl
variant_is Tilde text = refl
variant_is Minus text = refl

-- a mark begins this item
pub record AtVariant (mark : Mark) (text : List ℕ) (item : SpecItem) (rest : List ℕ) : Type 0 where
  pub w : List ℕ
  pub same : item ≡ Variant mark w
  pub is : IsName w
  pub cut : text ≡ w ++ rest
  pub stop : Stop is_name_byte rest

pub at_variant : (mark : Mark) (text : List ℕ) (item : SpecItem) (rest : List ℕ) → kind.Variant mark ≡ kind_of item
    → IsFirst (mark_byte mark ∷ text) item rest → AtVariant mark text item rest
at_variant mark text (Variant other w) rest k first =
    record {
      w = w;
      same = ap (λ (m : Mark). Variant m w) (let same : other ≡ mark = cc in same);
      is = first.form.0;
      cut =
          (two_cons _ _ _ _ first.cut).1;
      stop = over_variant other w rest first.over;
    }
at_variant mark text item rest k first = absurd cc

pub variant_none : (mark : Mark) (text : List ℕ) → name_length text ≡ 0 → (item : SpecItem) (rest : List ℕ)
    → IsFirst (mark_byte mark ∷ text) item rest → ⊥
variant_none mark text none item rest first =
    let a = at_variant mark text item rest (same_Some _ _ (sym (variant_is mark text) ∙ first_kind _ item rest first)) first in
    omega (arith, some_text a.w a.is, (name_cut text a.w rest a.cut a.is a.stop).2)

pub no_name_more : (text : List ℕ) (more : List ℕ) → name_length text ≡ 0 → Varies text 0 more → name_length (varied text 0 more) ≡ 0
no_name_more [] more e v = rw (v (omega arith)) refl
no_name_more (b ∷ text) more e v = elim (cases_Bool (is_start b)) [
  | inl is ↦ let some : suc (prefix_len is_name_byte text) ≡ 0 = rw is at e in absurd (omega arith)
  | inr other ↦ rw other refl
]

one_more : (b : ℕ) (text more : List ℕ) → varied (b ∷ text) 1 more ≡ b ∷ varied text 0 more
one_more b text more = refl

pub one_varies : (b : ℕ) (text more : List ℕ) → Varies (b ∷ text) 1 more → Varies text 0 more
one_varies b text more v le = v (omega arith)

pub variant_stuck : (mark : Mark) (text : List ℕ) → name_length text ≡ 0 → IsStuck (mark_byte mark ∷ text) 1
variant_stuck mark text e = record {
  within = omega arith;
  none = λ more varies. variant_none mark (varied text 0 more) (no_name_more text more e (one_varies (mark_byte mark) text more varies));
  tail = 97 ∷ [];
  item = Variant mark (97 ∷ []);
  form = (refl, tt);
  kind = variant_is mark text;
  cut = refl;
}

pub variant_read : (mark : Mark) (text : List ℕ) (n : ℕ) → n ≡ name_length text → 0 < n
    → IsCutOff (mark_byte mark ∷ text) (Variant mark (take n text)) (1 + n)
variant_read mark text n e lt = record {
  within = omega (arith, name_length-le text);
  first = rw (drop_one (mark_byte mark) n text) (record {
    cut = ap (λ (l : List ℕ). mark_byte mark ∷ l) (sym (take-append-drop n text));
    form = (name_front text n e lt, tt);
    over = λ b more behind on. true_false (is_name_byte b) on (name_stop text n e lt b more behind);
  });
  ranges = refl;
}

-- ---- a NAME

pub starts_not : (k : ℕ) (text : List ℕ) → starts_with_byte k text ≡ false → (b : ℕ) (more : List ℕ) → text ≡ b ∷ more → (b == k) ≡ false
starts_not k text h b more e = rw e at h

pub starts_is : (k : ℕ) (text : List ℕ) → starts_with_byte k text ≡ true → text ≡ k ∷ drop 1 text
starts_is k [] h = absurd cc
starts_is k (b ∷ text) h = ap (λ (c : ℕ). c ∷ text) (eqb-true b k h)

not_end : (text : List ℕ) → starts_with_byte 61 text ≡ false → starts_with_byte 58 text ≡ false → starts_with_byte 46 text ≡ false
    → (b : ℕ) (more : List ℕ) → text ≡ b ∷ more → is_name_end b ≡ false
not_end text h j k b more e = rw (starts_not 61 text h b more e, starts_not 58 text j b more e, starts_not 46 text k b more e) refl

pub name_read : (text : List ℕ) (n : ℕ) → n ≡ name_length text → kind_at text ≡ Some kind.Name → starts_with_byte 58 (drop n text) ≡ false
    → starts_with_byte 46 (drop n text) ≡ false → IsCutOff text (Name (take n text)) n
name_read text n e k colon point =
    let some = name_some text k in
    let behind : starts_with_byte 61 (drop n text) ≡ false = rw e some.1 in
    let lt : 0 < n = omega (arith, some.0) in
    record {
      within = omega (arith, name_length-le text);
      first = record {
        cut = sym (take-append-drop n text);
        form = (name_front text n e lt, tt);
        over = λ b more here on. true_false (is_name_byte b || is_name_end b) on
            (or_from (is_name_byte b) (is_name_end b) (name_stop text n e lt b more here)
            (not_end (drop n text) behind colon point b more here));
      };
      ranges = refl;
    }

-- a NAME begins this item
pub record AtName (text : List ℕ) (item : SpecItem) (rest : List ℕ) : Type 0 where
  pub w : List ℕ
  pub same : item ≡ Name w
  pub is : IsName w
  pub cut : text ≡ w ++ rest
  pub over : IsOver (Name w) rest

pub at_name : (text : List ℕ) (item : SpecItem) (rest : List ℕ) → kind.Name ≡ kind_of item → IsFirst text item rest → AtName text item rest
at_name text (Name w) rest k first = record { w = w; same = refl; is = first.form.0; cut = first.cut; over = first.over }
at_name text item rest k first = absurd cc

end_of_name : (b : ℕ) → is_name_end b ≡ true → (rest : List ℕ) → starts_with_byte b rest ≡ true → (w : List ℕ) → IsOver (Name w) rest → ⊥
end_of_name b is [] h w over = absurd cc
end_of_name b is (c ∷ rest) h w over = let same : c ≡ b = eqb-true c b h in
    over c rest refl (or_right (is_name_byte c) (is_name_end c) (rw same is))

-- no NAME that begins a part stands before this byte
pub name_not : (text : List ℕ) (n b : ℕ) → n ≡ name_length text → kind_at text ≡ Some kind.Name → is_name_end b ≡ true
    → starts_with_byte b (drop n text) ≡ true → (item : SpecItem) (rest : List ℕ) → IsFirst text item rest → ⊥
name_not text n b e k is h item rest first =
    let a = at_name text item rest (same_Some _ _ (sym k ∙ first_kind text item rest first)) first in
    let c = name_cut text a.w rest a.cut a.is (over_name a.w rest a.over) in
    end_of_name b is rest (rw (e, c.1) at h) a.w a.over

same_start : (b : ℕ) (list : List ℕ) → starts_with_byte b (b ∷ list) ≡ true
same_start b list = grind (arith, nat_tests)

-- what varies behind the byte behind a NAME
pub name_varied : (text : List ℕ) (n b : ℕ) (list more : List ℕ) → n ≤ length text → drop n text ≡ b ∷ list → (l : List ℕ)
    × (varied text n more ≡ take n text ++ b ∷ l)
name_varied text n b list more le e =
    let place : n + 1 ≡ n + 1 + 0 = omega arith in
    (more, ap (λ (k : ℕ). take k text ++ more) place ∙ take_behind text n b list 0 more le e)

-- the kind of a NAME by the byte behind it
pub named_kind : (text : List ℕ) (n b : ℕ) (list : List ℕ) → n ≡ name_length text → 0 < n → is_name_byte b ≡ false → (b == 61) ≡ false
    → kind_at (take n text ++ b ∷ list) ≡ Some kind.Name
named_kind text n b list e lt other equals = named (take n text) (b ∷ list) (name_front text n e lt) (stop_cons is_name_byte b list other)
    ∙ rw equals refl

pub key_kind : (text : List ℕ) (n : ℕ) (list : List ℕ) → n ≡ name_length text → 0 < n → kind_at (take n text ++ 61 ∷ list) ≡ Some kind.Key
key_kind text n list e lt = named (take n text) (61 ∷ list) (name_front text n e lt) (stop_cons is_name_byte 61 list refl)

-- a NAME, and another byte behind it
pub record IsNamed (text : List ℕ) (n : ℕ) (w : List ℕ) (list : List ℕ) : Type 0 where
  pub len : n ≡ name_length text
  pub front : take n text ≡ w
  pub behind : drop n text ≡ list

pub named_again : (text : List ℕ) (n b : ℕ) (list : List ℕ) → n ≡ name_length text → 0 < n → is_name_byte b ≡ false
    → IsNamed (take n text ++ b ∷ list) n (take n text) (b ∷ list)
named_again text n b list e lt other =
    let c = name_cut (take n text ++ b ∷ list) (take n text) (b ∷ list) refl (name_front text n e lt)
    (stop_cons is_name_byte b list other) in
    let long : length (take n text) ≡ n = length-take n text ∙ omega (arith, name_length-le text) in
    let len : name_length (take n text ++ b ∷ list) ≡ n = c.2 ∙ long in
    record { len = sym len; front = rw len at c.0; behind = rw len at c.1 }

-- a NAME that begins no part
pub name_stuck : (text : List ℕ) (n b : ℕ) → n ≡ name_length text → kind_at text ≡ Some kind.Name → is_name_end b ≡ true
    → is_name_byte b ≡ false → (b == 61) ≡ false → starts_with_byte b (drop n text) ≡ true → IsStuck text n
name_stuck text n b e k is other equals h =
    let some = name_some text k in
    let lt : 0 < n = omega (arith, some.0) in
    let behind = starts_is b (drop n text) h in
    record {
      within = omega (arith, name_length-le text);
      none = λ more varies item rest first.
          let t = name_varied text n b (drop 1 (drop n text)) more (omega (arith, name_length-le text)) behind in
          let named = named_again text n b (t.0) e lt other in
          name_not (take n text ++ b ∷ t.0) n b named.len (named_kind text n b t.0 e lt other equals) is
          (rw named.behind (same_start b t.0)) item rest (subst (λ (l : List ℕ). IsFirst l item rest) t.1 first);
      tail = [];
      item = Name (take n text);
      form = (name_front text n e lt, tt);
      kind = k;
      cut = append-nil (take n text);
    }
