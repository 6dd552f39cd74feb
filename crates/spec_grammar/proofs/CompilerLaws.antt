-- `^`, and a compiler with its LIST.
use Rattle.std.proofs.Common.{◌≡◌, ℕ, ◌<◌, ◌≤◌, ◌+◌, suc, true, false, List, [], ◌∷◌, ◌++◌, length, take, drop, Option, Some, None, refl, sym, ap, subst, ◌∙◌, arith, append_assoc, ◌==◌, ◌||◌, append-nil, take-append-drop, drop-drop, length-take, length-drop}
use Rattle.spec_grammar.specs.declared.fault.SpecFault.TheVariants as fault
use Rattle.spec_grammar.proofs.Common.{or_from, false_from_ne_true, IsLongestFront, IsList, spelling, first_empty, is_name_byte, IsName, name_length, spell_list, IsOver, starts_with_byte, IsFirst, IsListAt, IsListFault, IsCutOff, IsItemFault, IsStuck, Varies, varied, moved}
use Rattle.spec_grammar.proofs.Common.{VersionItem, SpecItem, Compiler, Caret, SpecFault}
use Rattle.spec_grammar.proofs.RunLaws.{Stop, stop_cons, name_front, name_stop, name_length-le, true_false, two_cons}
use Rattle.spec_grammar.proofs.KindLaws.{first_kind}
use Rattle.spec_grammar.proofs.VaryLaws.{varied_cons, varies_cons, varied_behind, varies_behind, take_behind}
use Rattle.spec_grammar.proofs.ListLaws.{list_over, no_varied_list, take_one, reads_own, empty_past, drop_one}
use Rattle.spec_grammar.proofs.NameLaws.{name_cut, some_text, no_name_more, one_varies, named_again, starts_not}

-- ---- `^`

pub caret_read : (text : List ℕ) → starts_with_byte 91 text ≡ false → IsCutOff (94 ∷ text) Caret 1
caret_read text h = record {
  within = omega arith;
  first = record { cut = refl; form = (tt, tt); over = λ b more e on. true_false (b == 91) on (starts_not 91 text h b more e) };
  ranges = refl;
}

pub record AtCaret (text : List ℕ) (item : SpecItem) (rest : List ℕ) : Type 0 where
  pub same : item ≡ Caret
  pub cut : text ≡ rest
  pub over : IsOver Caret rest

pub at_caret : (text : List ℕ) (item : SpecItem) (rest : List ℕ) → IsFirst (94 ∷ text) item rest → AtCaret text item rest
at_caret text Caret rest first = record { same = refl; cut = (two_cons _ _ _ _ first.cut).1; over = first.over }
at_caret text item rest first = absurd (let e = first_kind (94 ∷ text) item rest first in cc)

bracket : (rest : List ℕ) → starts_with_byte 91 rest ≡ true → IsOver Caret rest → ⊥
bracket [] h over = absurd cc
bracket (b ∷ rest) h over = over b rest refl h

pub caret_none : (text : List ℕ) → starts_with_byte 91 text ≡ true → (item : SpecItem) (rest : List ℕ) → IsFirst (94 ∷ text) item rest → ⊥
caret_none text h item rest first = let a = at_caret text item rest first in bracket rest (rw a.cut at h) a.over

bracket_more : (text more : List ℕ) → starts_with_byte 91 text ≡ true → starts_with_byte 91 (varied text 0 more) ≡ true
bracket_more [] more h = absurd cc
bracket_more (b ∷ text) more h = h

pub caret_stuck : (text : List ℕ) → starts_with_byte 91 text ≡ true → IsStuck (94 ∷ text) 1
caret_stuck text h = record {
  within = omega arith;
  none = λ more varies. caret_none (varied text 0 more) (bracket_more text more h);
  tail = [];
  item = Caret;
  form = (tt, tt);
  kind = refl;
  cut = refl;
}

-- ---- a compiler

-- `%` begins this item
pub record AtCompiler (text : List ℕ) (item : SpecItem) (rest : List ℕ) : Type 0 where
  pub w : List ℕ
  pub items : Option (List VersionItem)
  pub same : item ≡ Compiler w items
  pub is : IsName w
  pub cut : text ≡ w ++ (spell_list items ++ rest)
  pub stop : Stop is_name_byte (spell_list items ++ rest)

pub over_compiler : (w rest : List ℕ) → IsOver (Compiler w None) rest → Stop is_name_byte rest
over_compiler w rest over b more e = false_from_ne_true (is_name_byte b) (λ is. over b more e (rw is refl))

pub at_compiler : (text : List ℕ) (item : SpecItem) (rest : List ℕ) → IsFirst (37 ∷ text) item rest → AtCompiler text item rest
at_compiler text (Compiler w None) rest first = record {
  w = w;
  items = None;
  same = refl;
  is = first.form.0.0;
  cut = (two_cons _ _ _ _ first.cut).1 ∙ append_assoc w [] rest;
  stop = over_compiler w rest first.over;
}
at_compiler text (Compiler w (Some items)) rest first = record {
  w = w;
  items = Some items;
  same = refl;
  is = first.form.0.0;
  cut = (two_cons _ _ _ _ first.cut).1 ∙ append_assoc w (64 ∷ spelling items) rest;
  stop = stop_cons is_name_byte 64 (spelling items ++ rest) refl;
}
at_compiler text item rest first = absurd (let e = first_kind (37 ∷ text) item rest first in cc)

pub compiler_none : (text : List ℕ) → name_length text ≡ 0 → (item : SpecItem) (rest : List ℕ) → IsFirst (37 ∷ text) item rest → ⊥
compiler_none text none item rest first =
    let a = at_compiler text item rest first in
    omega (arith, some_text a.w a.is, (name_cut text a.w _ a.cut a.is a.stop).2)

pub compiler_stuck : (text : List ℕ) → name_length text ≡ 0 → IsStuck (37 ∷ text) 1
compiler_stuck text e = record {
  within = omega arith;
  none = λ more varies. compiler_none (varied text 0 more) (no_name_more text more e (one_varies 37 text more varies));
  tail = 97 ∷ [];
  item = Compiler (97 ∷ []) None;
  form = ((refl, tt), tt);
  kind = refl;
  cut = refl;
}

pub compiler_alone : (text : List ℕ) (n : ℕ) → n ≡ name_length text → 0 < n → starts_with_byte 64 (drop n text) ≡ false
    → IsCutOff (37 ∷ text) (Compiler (take n text) None) (1 + n)
compiler_alone text n e lt behind = record {
  within = omega (arith, name_length-le text);
  first = rw (drop_one 37 n text) (record {
    cut = ap (λ (l : List ℕ). 37 ∷ l) (sym (take-append-drop n text)
        ∙ ap (λ (l : List ℕ). l ++ drop n text) (sym (append-nil (take n text))));
    form = ((name_front text n e lt, tt), tt);
    over = λ b more here on. true_false (is_name_byte b || b == 64) on
        (or_from (is_name_byte b) (b == 64) (name_stop text n e lt b more here) (starts_not 64 (drop n text) behind b more here));
  });
  ranges = refl;
}

compiler_first : (text : List ℕ) (n m : ℕ) (items : List VersionItem) (list : List ℕ) → n ≡ name_length text → 0 < n
    → drop n text ≡ 64 ∷ list → IsListAt list items m → IsFirst (37 ∷ text) (Compiler (take n text) (Some items)) (drop m list)
compiler_first text n m items list e lt behind at = record {
  cut = ap (λ (l : List ℕ). 37 ∷ l) (
      sym (take-append-drop n text)
      ∙ ap (λ (l : List ℕ). take n text ++ l) (behind
      ∙ ap (λ (l : List ℕ). 64 ∷ l) (sym (take-append-drop m list) ∙ ap (λ (l : List ℕ). l ++ drop m list) at.reads.spelled))
      ∙ sym (append_assoc (take n text) (64 ∷ spelling items) (drop m list)));
  form = ((name_front text n e lt, reads_own (take m list) items at.reads), tt);
  over = list_over list m items at.longest at.reads.spelled;
}

drop_two : (b n m : ℕ) (text list : List ℕ) → drop n text ≡ b ∷ list → drop (2 + n + m) (37 ∷ text) ≡ drop m list
drop_two b n m text list e =
    let one : 2 + n + m ≡ suc (n + suc m) = omega arith in
    rw one (sym (drop-drop (suc m) n text) ∙ ap (drop (suc m)) e)

length_two : (b n : ℕ) (text list : List ℕ) → drop n text ≡ b ∷ list → n + 1 + length list ≡ length text
length_two b n text list e = omega (arith, ap length e, length-drop n text)

pub compiler_read : (text : List ℕ) (n m : ℕ) (items : List VersionItem) (list : List ℕ) → n ≡ name_length text → 0 < n
    → drop n text ≡ 64 ∷ list → IsListAt list items m → first_empty 0 items ≡ None
    → IsCutOff (37 ∷ text) (Compiler (take n text) (Some items)) (2 + n + m)
compiler_read text n m items list e lt behind at none = record {
  within = omega (arith, at.longest.within, length_two 64 n text list behind);
  first = rw (drop_two 64 n m text list behind) (compiler_first text n m items list e lt behind at);
  ranges = ap (λ (k : ℕ). first_empty k items) (omega (arith, length-take n text, name_length-le text))
      ∙ empty_past items 0 (2 + n) None none;
}

-- the LIST behind `%NAME@` is none
no_varied_compiler : (list : List ℕ) (q : ℕ) (more : List ℕ) → IsLongestFront IsList list q → (IsList (take q list) → ⊥)
    → Varies list q more → (w : List ℕ) (items : Option (List VersionItem)) (item : SpecItem) (rest : List ℕ) → item ≡ Compiler w items
    → 64 ∷ varied list q more ≡ spell_list items ++ rest → (text : List ℕ) → IsFirst text item rest → ⊥
no_varied_compiler list q more front not_list varies w None item rest same there text first =
    let f = subst (λ (i : SpecItem). IsFirst text i rest) same first in
    f.over 64 (varied list q more) (sym there) refl
no_varied_compiler list q more front not_list varies w (Some items) item rest same there text first =
    let f = subst (λ (i : SpecItem). IsFirst text i rest) same first in
    no_varied_list list q more front not_list varies items rest (two_cons _ _ _ _ there).1 f.form.0.1 f.over

compiler_list_stuck : (text : List ℕ) (n : ℕ) (list : List ℕ) (q : ℕ) → n ≡ name_length text → 0 < n → drop n text ≡ 64 ∷ list
    → IsLongestFront IsList list q → (IsList (take q list) → ⊥) → IsStuck (37 ∷ text) (2 + n + q)
compiler_list_stuck text n list q e lt behind front not_list =
    let le : n ≤ length text = omega (arith, name_length-le text) in
    let done = front.begins in
    let place : 2 + n + q ≡ 1 + (n + 1 + q) = omega arith in
    subst (λ (k : ℕ). IsStuck (37 ∷ text) k) (sym place) (record {
      within = omega (arith, front.within, length_two 64 n text list behind);
      none = λ more varies item rest first.
          let inner = varies_cons 37 text (n + 1 + q) more varies in
          let t : List ℕ = take n text ++ 64 ∷ varied list q more in
          let there = subst (λ (l : List ℕ). IsFirst l item rest) (varied_cons 37 text (n + 1 + q) more
          ∙ ap (λ (l : List ℕ). 37 ∷ l) (varied_behind text n 64 list q more le behind)) first in
          let named = named_again text n 64 (varied list q more) e lt refl in
          let a = at_compiler t item rest there in
          let c = name_cut t a.w _ a.cut a.is a.stop in
          let same : 64 ∷ varied list q more ≡ spell_list a.items ++ rest = sym named.behind ∙ ap (λ (k : ℕ). drop k t) named.len ∙ c.1 in
          no_varied_compiler list q more front not_list (varies_behind text n 64 list q more behind inner) a.w a.items item rest a.same same
          (37 ∷ t) there;
      tail = done.0;
      item = Compiler (take n text) (Some done.1.0);
      form = ((name_front text n e lt, reads_own (take q list ++ done.0) done.1.0 done.1.1), tt);
      kind = refl;
      cut = take_one 37 (n + 1 + q) text done.0 ∙ ap (λ (l : List ℕ). 37 ∷ l) (take_behind text n 64 list q done.0 le behind
          ∙ ap (λ (l : List ℕ). take n text ++ 64 ∷ l) done.1.1.spelled);
    })

pub compiler_moved : (text : List ℕ) (n : ℕ) (list : List ℕ) (e : SpecFault) → n ≡ name_length text → 0 < n → drop n text ≡ 64 ∷ list
    → IsListFault list e → IsItemFault (37 ∷ text) (moved (2 + n) e)
compiler_moved text n list (fault.Expected q) e lt behind h = compiler_list_stuck text n list q e lt behind h.0 h.1
compiler_moved text n list (fault.BadVersion q) e lt behind h = (
  Compiler (take n text) (Some h.0),
  drop h.1 list,
  compiler_first text n h.1 h.0 list e lt behind h.2,
  ap (λ (k : ℕ). first_empty k h.0) (omega (arith, length-take n text, name_length-le text)) ∙ empty_past h.0 0 (2 + n) (Some q) h.3,
)
compiler_moved text n list fault.OutOfMemory e lt behind h = tt
compiler_moved text n list other e lt behind h = absurd h
