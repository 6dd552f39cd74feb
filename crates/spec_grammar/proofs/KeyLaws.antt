-- `NAME=` with its values as an item.
use Rattle.std.proofs.Common.{◌≡◌, ℕ, ◌<◌, ◌≤◌, ◌+◌, ◌^◌, suc, false, List, [], ◌∷◌, ◌++◌, length, take, drop, Some, None, refl, sym, ap, subst, ◌∙◌, arith, append_assoc, codes, bytes_eq, take-append-drop, drop-drop, length-drop, ◌==◌}
use Rattle.spec_grammar.specs.declared.key.KeyKind.TheVariants as key
use Rattle.spec_grammar.specs.declared.item.Kind.TheVariants as kind
use Rattle.spec_grammar.specs.declared.fault.SpecFault.TheVariants as fault
use Rattle.std.proofs.lemmas.List.Folds.{list_any-append, list_all-append}
use Rattle.std.proofs.Math.Bool.{or-true}
use Rattle.spec_grammar.proofs.Common.{list_all, list_any, and_parts, false_from_ne_true, bytes_eq-Decides, is_start, is_name_byte, IsName, name_length, key_of, Takes, spell_item, spell_values, AreValues, is_run_byte, IsSpecItem, IsOver, kind_of, kind_at, IsFirst, start_run, IsCutOff, IsItemFault, IsStuck, AreStuck, varied, AreValuesAt, IsValuesFault, goes_on, moved, Fits, same_Some, none-some}
use Rattle.spec_grammar.proofs.Common.{KeyKind, SpecItem, Key, Kind, SpecFault}
use Rattle.spec_grammar.proofs.RunLaws.{stop_cons, name_front, name_length-le, true_false, two_cons}
use Rattle.spec_grammar.proofs.KindLaws.{first_kind, key_some}
use Rattle.spec_grammar.proofs.NameLaws.{name_cut, starts_is, named_again, name_varied, key_kind}
use Rattle.spec_grammar.proofs.VaryLaws.{varied_behind, varies_behind, take_behind}
use Rattle.spec_grammar.proofs.ValueLaws.{accepts}

-- a key begins this item
pub record AtKey (text list : List ℕ) (item : SpecItem) (rest : List ℕ) : Type 0 where
  pub w : List ℕ
  pub values : List (List ℕ)
  pub same : item ≡ Key w values
  pub name : take (name_length text) text ≡ w
  pub behind : list ≡ spell_values values ++ rest
  pub are : AreValues values
  pub takes : Takes (key_of w) values
  pub over : IsOver (Key w values) rest

pub at_key : (text list : List ℕ) (item : SpecItem) (rest : List ℕ) → kind.Key ≡ kind_of item → drop (name_length text) text ≡ 61 ∷ list
    → IsFirst text item rest → AtKey text list item rest
at_key text list (Key w values) rest k behind first =
    let c = name_cut text w (61 ∷ (spell_values values ++ rest)) (first.cut ∙ append_assoc w (61 ∷ spell_values values) rest) first.form.0.0
    (stop_cons is_name_byte 61 (spell_values values ++ rest) refl) in
    record {
      w = w;
      values = values;
      same = refl;
      name = c.0;
      behind = (two_cons _ _ _ _ (sym behind ∙ c.1)).1;
      are =
          first.form.0.1;
      takes = first.form.1;
      over = first.over;
    }
at_key text list item rest k behind first = absurd cc

pub over_run : (w : List ℕ) (values : List (List ℕ)) (rest : List ℕ) → IsOver (Key w values) rest → goes_on rest ≡ false
over_run w values [] over = refl
over_run w values (b ∷ rest) over = false_from_ne_true (is_run_byte b) (λ on. over b rest refl on)

not_over : (w : List ℕ) (values : List (List ℕ)) (rest : List ℕ) → goes_on rest ≡ false → IsOver (Key w values) rest
not_over w values rest h b more e on = true_false (is_run_byte b) on (rw e at h)

pub key_none : (text : List ℕ) (n : ℕ) → n ≡ name_length text → kind_at text ≡ Some kind.Key → start_run (key_of (take n text)) ≡ None
    → (item : SpecItem) (rest : List ℕ) → IsFirst text item rest → ⊥
key_none text n e k none item rest first =
    let some = key_some text k in
    let a = at_key text (drop 1 (drop (name_length text) text)) item rest (same_Some _ _ (sym k ∙ first_kind text item rest first))
    (starts_is 61 _ some.1) first in
    let b = accepts (key_of a.w) a.values a.are a.takes in
    let no : start_run (key_of a.w) ≡ None = ap (λ (w : List ℕ). start_run (key_of w)) (sym a.name ∙ ap (λ (m : ℕ). take m text) (sym e))
    ∙ none in
    none-some b.0 (sym no ∙ b.1)

pub key_behind : (text : List ℕ) (n : ℕ) → n ≡ name_length text → kind_at text ≡ Some kind.Key → (0 < n)
    × (drop n text ≡ 61 ∷ drop 1 (drop n text))
key_behind text n e k =
    let some = key_some text k in
    (omega (arith, some.0), rw e (starts_is 61 _ some.1))

not_text : (w text : List ℕ) → list_any (λ b. b == 95) text ≡ false → bytes_eq (w ++ 95 ∷ []) text ≡ false
not_text w text none = false_from_ne_true (bytes_eq (w ++ 95 ∷ []) text) (λ is.
    true_false (list_any (λ b. b == 95) text) (ap (list_any (λ b. b == 95)) (sym ((bytes_eq-Decides (w ++ 95 ∷ []) text).0 is))
    ∙ list_any-append (λ b. b == 95) w (95 ∷ []) ∙ or-true (list_any (λ b. b == 95) w)) none)

-- no key with a meaning of its own ends in `_`
own_key : (w : List ℕ) → key_of (w ++ 95 ∷ []) ≡ key.Variant
unfolding key_of
own_key w =
    let n : (text : List ℕ) → list_any (λ b. b == 95) text ≡ false → bytes_eq (w ++ 95 ∷ []) text ≡ false = not_text w in
    rw (
      n (codes "platform") refl,
      n (codes "os") refl,
      n (codes "arch") refl,
      n (codes "target") refl,
      n (codes "cflags") refl,
      n
          (codes "cxxflags") refl,
      n (codes "fflags") refl,
    )
    (rw (n (codes "cppflags") refl, n (codes "ldflags") refl, n (codes "ldlibs") refl) refl)

name_under : (w : List ℕ) → IsName w → IsName (w ++ 95 ∷ [])
name_under [] h = absurd cc
name_under (b ∷ w) h =
    let p = and_parts (is_start b) (list_all is_name_byte w) h in
    rw (p.0, list_all-append is_name_byte w (95 ∷ []), p.1) refl

-- a NAME can go on as a key
pub key_viable : (w : List ℕ) → IsName w → (tail : List ℕ) × (item : SpecItem) × IsSpecItem item × (kind.Key ≡ kind_of item)
    × (w ++ tail ≡ spell_item item)
key_viable w h = (
  95 ∷ 61 ∷ 97 ∷ [],
  Key (w ++ 95 ∷ []) ((97 ∷ []) ∷ []),
  ((name_under w h, (refl, tt)), subst (λ (k : KeyKind). Takes k ((97 ∷ []) ∷ [])) (sym (own_key w)) tt),
  refl,
  sym
      (append_assoc w (95 ∷ []) (61 ∷ 97 ∷ [])),
)

pub flags_stuck : (text : List ℕ) (n : ℕ) → n ≡ name_length text → kind_at text ≡ Some kind.Key → start_run (key_of (take n text)) ≡ None
    → IsStuck text n
flags_stuck text n e k none =
    let behind = key_behind text n e k in
    let le : n ≤ length text = omega (arith, name_length-le text) in
    let viable = key_viable (take n text) (name_front text n e behind.0) in
    record {
      within = le;
      none = λ more varies item rest first.
          let t = name_varied text n 61 (drop 1 (drop n text)) more le behind.1 in
          let named = named_again text n 61 t.0 e behind.0 refl in
          key_none (take n text ++ 61 ∷ t.0) n named.len (key_kind text n t.0 e behind.0) (rw named.front none) item rest
          (subst (λ (l : List ℕ). IsFirst l item rest) t.1 first);
      tail = viable.0;
      item = viable.1;
      form = viable.2;
      kind = k ∙ ap (λ (j : Kind). Some j) viable.3;
      cut = viable.4;
    }

drop_key : (n m : ℕ) (text list : List ℕ) → drop n text ≡ 61 ∷ list → drop (n + 1 + m) text ≡ drop m list
drop_key n m text list e =
    let one : n + 1 + m ≡ n + suc m = omega arith in
    rw one (sym (drop-drop (suc m) n text) ∙ ap (drop (suc m)) e)

length_key : (n : ℕ) (text list : List ℕ) → drop n text ≡ 61 ∷ list → n + 1 + length list ≡ length text
length_key n text list e = omega (arith, ap length e, length-drop n text)

pub key_read : (text : List ℕ) (n m : ℕ) (list : List ℕ) (values : List (List ℕ)) → n ≡ name_length text → 0 < n → drop n text ≡ 61 ∷ list
    → AreValuesAt (key_of (take n text)) list values m
    → IsCutOff text (Key (take n text) values) (n + 1 + m)
key_read text n m list values e lt behind at = record {
  within = omega (arith, at.within, length_key n text list behind);
  first = rw (drop_key n m text list behind) (record {
    cut = sym (take-append-drop n text) ∙ ap (λ (l : List ℕ). take n text ++ l) (behind ∙ ap (λ (l : List ℕ). 61 ∷ l) at.first.cut)
        ∙ sym (append_assoc (take n text) (61 ∷ spell_values values) (drop m list));
    form = ((name_front text n e lt, at.first.are), at.first.takes);
    over = not_over (take n text) values (drop m list) at.first.over;
  });
  ranges = refl;
}

key_stuck : (text : List ℕ) (n : ℕ) (list : List ℕ) (q : ℕ) → n ≡ name_length text → kind_at text ≡ Some kind.Key → drop n text ≡ 61 ∷ list
    → AreStuck (key_of (take n text)) list q → IsStuck text (n + 1 + q)
key_stuck text n list q e k behind h =
    let lt = (key_behind text n e k).0 in
    let le : n ≤ length text = omega (arith, name_length-le text) in
    record {
      within = omega (arith, h.within, length_key n text list behind);
      none = λ more varies item rest first.
          let l : List ℕ = varied list q more in
          let t : List ℕ = take n text ++ 61 ∷ l in
          let there = subst (λ (x : List ℕ). IsFirst x item rest) (varied_behind text n 61 list q more le behind) first in
          let named = named_again text n 61 l e lt refl in
          let a = at_key t l item rest (same_Some _ _ (sym (key_kind text n l e lt) ∙ first_kind t item rest there))
          (ap (λ (m : ℕ). drop m t) (sym named.len) ∙ named.behind) there in
          let same : a.w ≡ take n text = sym a.name ∙ ap (λ (m : ℕ). take m t) (sym named.len) ∙ named.front in
          h.none more (varies_behind text n 61 list q more behind varies) a.values rest
          (record {
            cut = a.behind;
            are = a.are;
            takes = subst (λ (w : List ℕ). Takes (key_of w) a.values) same a.takes;
            over =
                over_run a.w a.values rest a.over;
          });
      tail = h.tail;
      item = Key (take n text) h.values;
      form = ((name_front text n e lt, h.are), h.takes);
      kind = k;
      cut = take_behind text n 61 list q h.tail le behind ∙ ap (λ (l : List ℕ). take n text ++ 61 ∷ l) h.cut;
    }

pub key_moved : (text : List ℕ) (n : ℕ) (list : List ℕ) (e : SpecFault) → n ≡ name_length text → kind_at text ≡ Some kind.Key
    → drop n text ≡ 61 ∷ list → IsValuesFault (key_of (take n text)) list e → IsItemFault text (moved (n + 1) e)
key_moved text n list (fault.Expected q) e k behind h = key_stuck text n list q e k behind h
key_moved text n list fault.OutOfMemory e k behind h = tt
key_moved text n list other e k behind h = absurd h

pub key_fits : (text : List ℕ) (k : KeyKind) (by : ℕ) (e : SpecFault) → by + length text < 2 ^ 64 → IsValuesFault k text e → Fits by e
key_fits text k by (fault.Expected q) lt h = omega (arith, h.within)
key_fits text k by fault.OutOfMemory lt h = tt
key_fits text k by e lt h = absurd h
