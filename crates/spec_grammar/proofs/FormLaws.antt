-- An item that is right begins no form that is not read.
use Rattle.std.proofs.Common.{◌≡◌, ℕ, ◌<◌, Bool, true, false, List, [], ◌∷◌, ◌++◌, None, nat_eq, refl, ap, ◌∙◌, arith, append_assoc, ◌==◌}
use Rattle.spec_grammar.specs.declared.key.KeyKind.TheVariants as key
use Rattle.spec_grammar.proofs.Common.{list_all, and_parts, false_from_ne_true, nat_tests, is_start, is_name_byte, IsName, name_length, is_value_byte, key_of, Takes, spell_values, spell_more_values, AreValues, IsOver, is_name_end, kind_of, mark_byte, may_constrain, may_have_all, may_nest, may_stand, is_flags, form_at, form_behind, form_of_sign, IsFirst}
use Rattle.spec_grammar.proofs.Common.{KeyKind, Mark, Plus, Tilde, Minus, SpecItem, Name, Versions, Variant, Compiler, Key, Caret, Mode, Before}
use Rattle.spec_grammar.proofs.RunLaws.{Stop, stop_cons}
use Rattle.spec_grammar.proofs.KindLaws.{over_name, or_right}
use Rattle.spec_grammar.proofs.NameLaws.{name_cut, some_text}
use Rattle.spec_grammar.proofs.AskLaws.{may_behind}

start_signs : (b : ℕ) → is_start b ≡ true → (nat_eq 43 b ≡ false) × (nat_eq 126 b ≡ false) × (nat_eq 45 b ≡ false)
start_signs b h = (grind (arith, nat_tests), grind (arith, nat_tests), grind (arith, nat_tests))

variant_none : (mode : Mode) (named : Bool) (mark : Mark) (b : ℕ) (w : List ℕ) → is_start b ≡ true → may_have_all mode ≡ true
    → form_at mode named (mark_byte mark ∷ b ∷ w) ≡ None
unfolding form_at form_of_sign
variant_none mode named Plus b w h all = let s = start_signs b h in rw (s.0, all) refl
variant_none mode named Tilde b w h all = let s = start_signs b h in rw (s.1, all) refl
variant_none mode named Minus b w h all = let s = start_signs b h in rw (s.2, all) refl

versions_none : (mode : Mode) (named : Bool) (text : List ℕ) → form_at mode named (64 ∷ text) ≡ None
unfolding form_at form_of_sign
versions_none mode named text = refl

compiler_none : (mode : Mode) (named : Bool) (text : List ℕ) → may_have_all mode ≡ true → form_at mode named (37 ∷ text) ≡ None
unfolding form_at form_of_sign
compiler_none mode named text all = rw all refl

turned : (k b : ℕ) → (b == k) ≡ false → nat_eq k b ≡ false
turned k b h = grind (arith, nat_tests)

caret_none : (mode : Mode) (named : Bool) (rest : List ℕ) → IsOver Caret rest → may_nest mode ≡ true → form_at mode named (94 ∷ rest) ≡ None
unfolding form_at form_of_sign
caret_none mode named [] over may = rw may refl
caret_none mode named (b ∷ rest) over may =
    let other : nat_eq 91 b ≡ false = turned 91 b (false_from_ne_true (b == 91) (over b rest refl)) in
    rw (other, may) refl

ends_apart : (b : ℕ) → is_name_end b ≡ false → (nat_eq 61 b ≡ false) × (nat_eq 58 b ≡ false) × (nat_eq 46 b ≡ false)
ends_apart b h = (grind (arith, nat_tests), grind (arith, nat_tests), grind (arith, nat_tests))

behind_none : (mode : Mode) (named : Bool) (w rest : List ℕ) → IsOver (Name w) rest → form_behind mode named w rest ≡ None
unfolding form_behind
behind_none mode named w [] over = refl
behind_none mode named w (b ∷ rest) over =
    let other : is_name_end b ≡ false = false_from_ne_true (is_name_end b)
    (λ is. over b rest refl (or_right (is_name_byte b) (is_name_end b) is)) in
    let e = ends_apart b other in
    rw (e.0, e.1, e.2) refl

value_apart : (b : ℕ) → is_value_byte b ≡ true → (nat_eq 61 b ≡ false) × (nat_eq 42 b ≡ false) × (nat_eq 34 b ≡ false)
    × (nat_eq 39 b ≡ false)
value_apart b h = (grind (arith, nat_tests), grind (arith, nat_tests), grind (arith, nat_tests), grind (arith, nat_tests))

no_flags : (k : KeyKind) (values : List (List ℕ)) → Takes k values → is_flags k ≡ false
no_flags key.Flags values h = absurd h
no_flags k values h = refl

value_behind : (mode : Mode) (named : Bool) (w : List ℕ) (b : ℕ) (more : List ℕ) → is_value_byte b ≡ true → is_flags (key_of w) ≡ false
    → may_have_all mode ≡ true → form_behind mode named w (61 ∷ b ∷ more) ≡ None
unfolding form_behind
value_behind mode named w b more h flags all =
    let e = value_apart b h in
    rw (e.0, e.1, e.2, e.3, flags, all) refl

key_behind : (mode : Mode) (named : Bool) (w : List ℕ) (values : List (List ℕ)) (rest : List ℕ) → AreValues values → Takes (key_of w) values
    → may_have_all mode ≡ true → form_behind mode named w (61 ∷ (spell_values values ++ rest)) ≡ None
key_behind mode named w [] rest are takes all = absurd are
key_behind mode named w ([] ∷ values) rest are takes all = absurd (let h = are.0 in cc)
key_behind mode named w ((b ∷ v) ∷ values) rest are takes all =
    value_behind mode named w b ((v ++ spell_more_values values) ++ rest) (and_parts (is_value_byte b) (list_all is_value_byte v) are.0).0
    (no_flags (key_of w) _ takes) all

zero_not : (n : ℕ) → 0 < n → nat_eq n 0 ≡ false
zero_not n lt = grind (arith, nat_tests)

with_name : (mode : Mode) (named : Bool) (w rest : List ℕ) → IsName w → Stop is_name_byte rest → form_behind mode named w rest ≡ None
    → form_at mode named (w ++ rest) ≡ None
unfolding form_at
with_name mode named w rest h stop none =
    let c = name_cut (w ++ rest) w rest refl h stop in
    let other : nat_eq (name_length (w ++ rest)) 0 ≡ false = zero_not (name_length (w ++ rest)) (omega (arith, c.2, some_text w h)) in
    rw (other, c.0, c.1) none

-- the start of a NAME behind a mark
name_start : (mode : Mode) (named : Bool) (mark : Mark) (w rest : List ℕ) → IsName w → may_have_all mode ≡ true
    → form_at mode named (mark_byte mark ∷ (w ++ rest)) ≡ None
name_start mode named mark [] rest h all = absurd cc
name_start mode named mark (b ∷ w) rest h all =
    variant_none mode named mark b (w ++ rest) (and_parts (is_start b) (list_all is_name_byte w) h).0 all

pub form_none : (mode : Mode) (place : Before) (gap : Bool) (text : List ℕ) (item : SpecItem) (rest : List ℕ) (named : Bool)
    → IsFirst text item rest → may_stand mode place gap (kind_of item) ≡ true → form_at mode named text ≡ None
form_none mode place gap text (Name w) rest named first may = ap (form_at mode named) first.cut
    ∙ with_name mode named w rest first.form.0 (over_name w rest first.over) (behind_none mode named w rest first.over)
form_none mode place gap text (Versions items) rest named first may = ap (form_at mode named) first.cut ∙ versions_none mode named _
form_none mode place gap text (Variant mark w) rest named first may = ap (form_at mode named) first.cut
    ∙ name_start mode named mark w rest first.form.0 (may_behind mode place gap (Variant mark w) tt may)
form_none mode place gap text (Compiler w items) rest named first may = ap (form_at mode named) first.cut
    ∙ compiler_none mode named _ (may_behind mode place gap (Compiler w items) tt may)
form_none mode place gap text (Key w values) rest named first may =
    ap (form_at mode named) (first.cut ∙ append_assoc w (61 ∷ spell_values values) rest)
    ∙ with_name mode named w (61 ∷ (spell_values values ++ rest)) first.form.0.0
    (stop_cons is_name_byte 61 (spell_values values ++ rest) refl)
    (key_behind mode named w values rest first.form.0.1 first.form.1 (may_behind mode place gap (Key w values) tt may))
form_none mode place gap text Caret rest named first may = ap (form_at mode named) first.cut
    ∙ caret_none mode named rest first.over (and_parts (may_constrain mode place) (may_nest mode) may).1
