-- The kind of the item that a text begins with.
use Rattle.std.proofs.Common.{◌≡◌, ℕ, ◌<◌, Bool, true, false, List, [], ◌∷◌, ◌++◌, drop, Option, Some, None, refl, sym, ap, ◌∙◌, arith, append_assoc, ◌==◌, ◌||◌, if◌then◌else◌, eqb-true, drop_at}
use Rattle.spec_grammar.specs.declared.item.Kind.TheVariants as kind
use Rattle.spec_grammar.proofs.Common.{and_parts, false_from_ne_true, nat_tests, list_all, is_start, is_name_byte, IsName, name_length, spell_item, spell_values, HasShape, IsOver, kind_of, kind_by, kind_at, starts_with_byte, mark_byte, is_name_end, IsFirst}
use Rattle.spec_grammar.proofs.Common.{Mark, Plus, Tilde, Minus, SpecItem, Name, Versions, Variant, Compiler, Key, Caret, Kind}
use Rattle.spec_grammar.proofs.RunLaws.{Stop, stop_cons, name_length_is}

-- what a kind says of the byte and of what is behind the NAME
abbrev pub Says : ℕ → List ℕ → Option Kind → Type 0
Says b rest None = is_start b ≡ false
Says b rest (Some kind.Name) = (is_start b ≡ true) × (starts_with_byte 61 rest ≡ false)
Says b rest (Some kind.Versions) = b ≡ 64
Says b rest (Some (kind.Variant mark)) = b ≡ mark_byte mark
Says b rest (Some kind.Compiler) = b ≡ 37
Says b rest (Some kind.Key) = (is_start b ≡ true) × (starts_with_byte 61 rest ≡ true)
Says b rest (Some kind.Caret) = b ≡ 94

start_signs : (b : ℕ) → is_start b ≡ true → ((b == 64) ≡ false) × ((b == 43) ≡ false) × ((b == 126) ≡ false) × ((b == 45) ≡ false)
    × ((b == 37) ≡ false) × ((b == 94) ≡ false)
start_signs b h = (
  grind (arith, nat_tests),
  grind (arith, nat_tests),
  grind (arith, nat_tests),
  grind (arith, nat_tests),
  grind (arith, nat_tests),
  grind
      (arith, nat_tests),
)

says_if : (b : ℕ) (rest : List ℕ) (c : Bool) (k : Kind) (other : Option Kind) → (c ≡ true → Says b rest (Some k)) → Says b rest other
    → Says b rest (if c then Some k else other)
says_if b rest true k other f h = f refl
says_if b rest false k other f h = h

says_start : (b : ℕ) (rest : List ℕ) (start equals : Bool) → is_start b ≡ start → starts_with_byte 61 rest ≡ equals
    → Says b rest (if start then Some (if equals then kind.Key else kind.Name) else None)
says_start b rest true true h k = (h, k)
says_start b rest true false h k = (h, k)
says_start b rest false equals h k = h

pub says : (b : ℕ) (rest : List ℕ) → Says b rest (kind_by b rest)
says b rest =
    says_if b rest (b == 64) kind.Versions _ (eqb-true b 64)
    (says_if b rest (b == 43) (kind.Variant Plus) _ (eqb-true b 43)
    (says_if b rest (b == 126) (kind.Variant Tilde) _ (eqb-true b 126)
    (says_if b rest (b == 45) (kind.Variant Minus) _ (eqb-true b 45)
    (says_if b rest (b == 37) kind.Compiler _ (eqb-true b 37)
    (says_if b rest (b == 94) kind.Caret _ (eqb-true b 94) (says_start b rest (is_start b) (starts_with_byte 61 rest) refl refl))))))

-- a text whose item is of this kind
pub record Begins (text : List ℕ) (k : Kind) : Type 0 where
  pub first : ℕ
  pub rest : List ℕ
  pub cut : text ≡ first ∷ rest
  pub says : Says first (drop (name_length text) text) (Some k)

pub begins : (text : List ℕ) (k : Kind) → kind_at text ≡ Some k → Begins text k
begins [] k e = absurd cc
begins (b ∷ rest) k e =
    let behind : List ℕ = drop (name_length (b ∷ rest)) (b ∷ rest) in
    record { first = b; rest = rest; cut = refl; says = rw e at (says b behind) }

some_name : (b : ℕ) (rest : List ℕ) → is_start b ≡ true → 0 < name_length (b ∷ rest)
some_name b rest h = rw h (omega arith)

pub name_some : (text : List ℕ) → kind_at text ≡ Some kind.Name → (0 < name_length text)
    × (starts_with_byte 61 (drop (name_length text) text) ≡ false)
name_some text e =
    let a = begins text kind.Name e in
    (rw a.cut (some_name a.first a.rest a.says.0), a.says.1)

pub key_some : (text : List ℕ) → kind_at text ≡ Some kind.Key → (0 < name_length text)
    × (starts_with_byte 61 (drop (name_length text) text) ≡ true)
key_some text e =
    let a = begins text kind.Key e in
    (rw a.cut (some_name a.first a.rest a.says.0), a.says.1)

-- ---- the kind of an item

pub over_name : (w rest : List ℕ) → IsOver (Name w) rest → Stop is_name_byte rest
over_name w rest over b more e = false_from_ne_true (is_name_byte b) (λ is. over b more e (rw is refl))

pub over_variant : (mark : Mark) (w rest : List ℕ) → IsOver (Variant mark w) rest → Stop is_name_byte rest
over_variant mark w rest over b more e = false_from_ne_true (is_name_byte b) (over b more e)

pub or_right : (a b : Bool) → b ≡ true → (a || b) ≡ true
or_right true b h = refl
or_right false b h = h

pub over_key : (w rest : List ℕ) → IsOver (Name w) rest → starts_with_byte 61 rest ≡ false
over_key w [] over = refl
over_key w (b ∷ rest) over = false_from_ne_true (b == 61) (λ is. over b rest refl (or_right (is_name_byte b) (is_name_end b) (rw is refl)))

pub named_by : (b : ℕ) (rest : List ℕ) → is_start b ≡ true
    → kind_by b rest ≡ Some (if starts_with_byte 61 rest then kind.Key else kind.Name)
named_by b rest h = let n = start_signs b h in rw (h, n.0, n.1, n.2, n.3, n.4, n.5) refl

pub named : (w rest : List ℕ) → IsName w → Stop is_name_byte rest
    → kind_at (w ++ rest) ≡ Some (if starts_with_byte 61 rest then kind.Key else kind.Name)
named [] rest h stop = absurd cc
named (b ∷ w) rest h stop =
    let p = and_parts (is_start b) (list_all is_name_byte w) h in
    let behind : drop (name_length ((b ∷ w) ++ rest)) ((b ∷ w) ++ rest) ≡ rest =
    drop_at (b ∷ w) rest _ (sym (name_length_is (b ∷ w) rest h stop)) in
    ap (kind_by b) behind ∙ named_by b rest p.0

pub kind_is : (item : SpecItem) (rest : List ℕ) → HasShape item → IsOver item rest → kind_at (spell_item item ++ rest) ≡ Some (kind_of item)
kind_is (Name w) rest shape over = named w rest shape (over_name w rest over)
    ∙ ap (λ v. Some (if v then kind.Key else kind.Name)) (over_key w rest over)
kind_is (Versions items) rest shape over = refl
kind_is (Variant Plus w) rest shape over = refl
kind_is (Variant Tilde w) rest shape over = refl
kind_is (Variant Minus w) rest shape over = refl
kind_is (Compiler w items) rest shape over = refl
kind_is (Key w values) rest shape over =
    ap kind_at (append_assoc w (61 ∷ spell_values values) rest)
    ∙ named w (61 ∷ (spell_values values ++ rest)) shape.0 (stop_cons is_name_byte 61 (spell_values values ++ rest) refl)
kind_is Caret rest shape over = refl

pub first_kind : (text : List ℕ) (item : SpecItem) (rest : List ℕ) → IsFirst text item rest → kind_at text ≡ Some (kind_of item)
first_kind text item rest first = ap kind_at first.cut ∙ kind_is item rest first.form.0 first.over
