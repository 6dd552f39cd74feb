-- The item of a kind, and where it may stand.
use Rattle.std.proofs.Common.{◌≡◌, ℕ, ◌≤◌, ◌+◌, Bool, true, false, List, [], ◌∷◌, length, take, drop, get_or, cond, Some, None, refl, sym, ap, subst, ◌∙◌, arith, inl, inr, ◌⊎◌, append-nil}
use Rattle.spec_grammar.specs.declared.item.SpecItem.TheVariants as item
use Rattle.spec_grammar.specs.declared.item.Kind.TheVariants as kind
use Rattle.spec_grammar.specs.declared.fault.SpecFault.TheVariants as fault
use Rattle.spec_grammar.proofs.Common.{cases_Bool, cases_lt, drop_more, is_start, name_length, kind_of, kind_at, kind_by, starts_with_byte, may_stand, IsFirst, IsCutOff, IsItemFault, IsAllowedItem, IsItemFaultHere, IsStuckHere, refused_place, Varies, varied, same_Some, none-some}
use Rattle.spec_grammar.proofs.Common.{Plus, Tilde, Minus, SpecItem, Kind, Mode, Before, SpecFault}
use Rattle.spec_grammar.proofs.RunLaws.{true_false, name_front, name_stop, name_length-le}
use Rattle.spec_grammar.proofs.KindLaws.{begins, first_kind, name_some, key_some, named_by, Says}
use Rattle.spec_grammar.proofs.NameLaws.{name_varied, named_kind, key_kind, starts_is}
use Rattle.spec_grammar.proofs.VaryLaws.{varied_end}
use Rattle.spec_grammar.proofs.KeyLaws.{key_viable}

-- a text whose item has a mark of one byte
mark_cut : (text : List ℕ) (b first : ℕ) (rest : List ℕ) → text ≡ first ∷ rest → first ≡ b → text ≡ b ∷ drop 1 text
mark_cut text b first rest e h = e ∙ ap (λ (c : ℕ). c ∷ rest) h ∙ ap (λ (l : List ℕ). b ∷ l) (sym (ap (drop 1) e))

pub sign_cut : (text : List ℕ) (k : Kind) (b : ℕ) → ((first : ℕ) (rest : List ℕ) → Says first rest (Some k) → first ≡ b)
    → kind_at text ≡ Some k → text ≡ b ∷ drop 1 text
sign_cut text k b says here = let a = begins text k here in
    mark_cut text b a.first a.rest a.cut (says a.first (drop (name_length text) text) a.says)

-- ---- where it may stand

pub none_there : (text : List ℕ) → kind_at text ≡ None → (it : SpecItem) (rest : List ℕ) → IsFirst text it rest → ⊥
none_there text none it rest first = none-some (kind_of it) (sym none ∙ first_kind text it rest first)

pub may_not : (mode : Mode) (place : Before) (gap : Bool) (k : Kind) (text : List ℕ) → kind_at text ≡ Some k
    → may_stand mode place gap k ≡ false → (it : SpecItem) (rest : List ℕ) → IsFirst text it rest
    → may_stand mode place gap (kind_of it) ≡ true → ⊥
may_not mode place gap k text here not_there it rest first may =
    let same = same_Some k (kind_of it) (sym here ∙ first_kind text it rest first) in
    true_false (may_stand mode place gap k) (rw same may) not_there

-- ---- how far

abbrev IsSign : Kind → Type 0
IsSign kind.Name = ⊥
IsSign kind.Key = ⊥
IsSign k = Unit {0}

sign_at : (b : ℕ) (k : Kind) (rest more : List ℕ) → IsSign k → Says b rest (Some k) → kind_at (b ∷ more) ≡ Some k
sign_at b kind.Versions rest more sign h = rw h refl
sign_at b (kind.Variant Plus) rest more sign h = rw h refl
sign_at b (kind.Variant Tilde) rest more sign h = rw h refl
sign_at b (kind.Variant Minus) rest more sign h = rw h refl
sign_at b kind.Compiler rest more sign h = rw h refl
sign_at b kind.Caret rest more sign h = rw h refl
sign_at b k rest more sign h = absurd sign

start_kind : (b : ℕ) (rest : List ℕ) → is_start b ≡ true → (kind_by b rest ≡ Some kind.Name) ⊎ (kind_by b rest ≡ Some kind.Key)
start_kind b rest h = elim (cases_Bool (starts_with_byte 61 rest)) [
  | inl is ↦ inr (named_by b rest h ∙ rw is refl)
  | inr other ↦ inl (named_by b rest h ∙ rw other refl)
]

no_start : {A : Type 0} (b : ℕ) (r : List ℕ) → is_start b ≡ true → kind_by b r ≡ None → A
no_start b r h e = absurd (none-some _ (sym e ∙ named_by b r h))

none_by : (b : ℕ) (r s : List ℕ) → kind_by b r ≡ None → kind_by b s ≡ None
none_by b r s e = elim (cases_Bool (is_start b)) [
  | inl h ↦ no_start b r h e
  | inr h ↦ rw h (rw h at e)
]

none_varied : (text more : List ℕ) → kind_at text ≡ None → Varies text 0 more → kind_at (varied text 0 more) ≡ None
none_varied [] more e v = rw (v (omega arith)) refl
none_varied (b ∷ text) more e v = none_by b (drop (name_length (b ∷ text)) (b ∷ text)) (drop (name_length (b ∷ more)) (b ∷ more)) e

at_once : (mode : Mode) (place : Before) (gap : Bool) (text : List ℕ)
    → ((more : List ℕ) → Varies text 0 more → (it : SpecItem) (rest : List ℕ) → IsFirst (varied text 0 more) it rest
    → may_stand mode place gap (kind_of it) ≡ true → ⊥) → IsStuckHere mode place gap text 0
at_once mode place gap text none = record { within = omega arith; none = none; viable = inl refl }

pub none_stuck : (mode : Mode) (place : Before) (gap : Bool) (text : List ℕ) → kind_at text ≡ None → IsStuckHere mode place gap text 0
none_stuck mode place gap text none = at_once mode place gap text
    (λ more varies it rest first may. none_there (varied text 0 more) (none_varied text more none varies) it rest first)

sign_varied : (text : List ℕ) (k : Kind) (more : List ℕ) → kind_at text ≡ Some k → IsSign k → kind_at (varied text 0 more) ≡ Some k
sign_varied text k more here sign =
    let a = begins text k here in
    ap (λ (l : List ℕ). kind_at (varied l 0 more)) a.cut ∙ sign_at a.first k (drop (name_length text) text) more sign a.says

sign_stuck : (mode : Mode) (place : Before) (gap : Bool) (k : Kind) (text : List ℕ) → kind_at text ≡ Some k
    → may_stand mode place gap k ≡ false → IsSign k → IsStuckHere mode place gap text 0
sign_stuck mode place gap k text here not_there sign =
    at_once mode place gap text (λ more varies. may_not mode place gap k (varied text 0 more) (sign_varied text k more here sign) not_there)

-- neither a NAME nor a key may stand here
both_stuck : (mode : Mode) (place : Before) (gap : Bool) (text : List ℕ) (b : ℕ) (rest : List ℕ) → text ≡ b ∷ rest → is_start b ≡ true
    → may_stand mode place gap kind.Name ≡ false → may_stand mode place gap kind.Key ≡ false → IsStuckHere mode place gap text 0
both_stuck mode place gap text b rest cut start no_name no_key = at_once mode place gap text (λ more varies it behind first may.
    let t : List ℕ = varied text 0 more in
    let same : t ≡ b ∷ more = ap (λ (l : List ℕ). varied l 0 more) cut in
    elim (start_kind b (drop (name_length (b ∷ more)) (b ∷ more)) start) [
      | inl name ↦ may_not mode place gap kind.Name t (ap kind_at same ∙ name) no_name it behind first may
      | inr key ↦ may_not mode place gap kind.Key t (ap kind_at same ∙ key) no_key it behind first may
    ])

-- a text that is a NAME up to its end, or has another byte behind it
end_or_byte : (text : List ℕ) (n : ℕ) → n ≤ length text → (length text ≤ n) ⊎ ((b : ℕ) × (list : List ℕ) × (drop n text ≡ b ∷ list))
end_or_byte text n le = elim (cases_lt n (length text)) [
  | inl lt ↦ inr (get_or text n 0, drop (n + 1) text, drop_more text n 0 lt)
  | inr ge ↦ inl ge
]

name_varies : (text : List ℕ) (more : List ℕ) → kind_at text ≡ Some kind.Name → Varies text (name_length text) more
    → kind_at (varied text (name_length text) more) ≡ Some kind.Name
name_varies text more here varies =
    let n : ℕ = name_length text in
    let some = name_some text here in
    elim (end_or_byte text n (name_length-le text)) [
      | inl ge ↦ ap kind_at (varied_end text n more varies ge) ∙ here
      | inr (b, list, e) ↦
          let t = name_varied text n b list more (name_length-le text) e in
          ap kind_at t.1 ∙ named_kind text n b t.0 refl some.0 (name_stop text n refl some.0 b list e) (rw e at some.1)
    ]

key_varies : (text : List ℕ) (more : List ℕ) → kind_at text ≡ Some kind.Key → kind_at (varied text (name_length text) more) ≡ Some kind.Key
key_varies text more here =
    let n : ℕ = name_length text in
    let some = key_some text here in
    let t = name_varied text n 61 (drop 1 (drop n text)) more (name_length-le text) (starts_is 61 (drop n text) some.1) in
    ap kind_at t.1 ∙ key_kind text n t.0 refl some.0

name_refused : (mode : Mode) (place : Before) (gap other : Bool) (text : List ℕ) → kind_at text ≡ Some kind.Name
    → may_stand mode place gap kind.Name ≡ false → may_stand mode place gap kind.Key ≡ other
    → IsStuckHere mode place gap text (cond other (name_length text) 0)
name_refused mode place gap true text here not_there key =
    let w : List ℕ = take (name_length text) text in
    let viable = key_viable w (name_front text (name_length text) refl (name_some text here).0) in
    record {
      within = name_length-le text;
      none = λ more varies. may_not mode place gap kind.Name (varied text (name_length text) more)
          (name_varies text more here varies) not_there;
      viable = inr (record {
        tail = viable.0;
        item = viable.1;
        form = viable.2;
        stands =
            subst (λ (k : Kind). may_stand mode place gap k ≡ true) viable.3 key;
        cut = viable.4;
      });
    }
name_refused mode place gap false text here not_there key =
    let a = begins text kind.Name here in
    both_stuck mode place gap text a.first a.rest a.cut a.says.0 not_there key

key_refused : (mode : Mode) (place : Before) (gap other : Bool) (text : List ℕ) → kind_at text ≡ Some kind.Key
    → may_stand mode place gap kind.Key ≡ false → may_stand mode place gap kind.Name ≡ other
    → IsStuckHere mode place gap text (cond other (name_length text) 0)
key_refused mode place gap true text here not_there name =
    let w : List ℕ = take (name_length text) text in
    record {
      within = name_length-le text;
      none = λ more varies. may_not mode place gap kind.Key (varied text (name_length text) more) (key_varies text more here) not_there;
      viable = inr (record {
        tail = [];
        item = item.Name w;
        form = (name_front text (name_length text) refl (key_some text here).0, tt);
        stands = name;
        cut = append-nil w;
      });
    }
key_refused mode place gap false text here not_there name =
    let a = begins text kind.Key here in
    both_stuck mode place gap text a.first a.rest a.cut a.says.0 name not_there

pub refused_stuck : (mode : Mode) (place : Before) (gap : Bool) (k : Kind) (text : List ℕ) → kind_at text ≡ Some k
    → may_stand mode place gap k ≡ false → IsStuckHere mode place gap text (refused_place mode place gap k (name_length text))
refused_stuck mode place gap kind.Name text here not_there =
    name_refused mode place gap (may_stand mode place gap kind.Key) text here not_there refl
refused_stuck mode place gap kind.Key text here not_there =
    key_refused mode place gap (may_stand mode place gap kind.Name) text here not_there refl
refused_stuck mode place gap k text here not_there = sign_stuck mode place gap k text here not_there tt

pub taken : (mode : Mode) (place : Before) (gap : Bool) (k : Kind) (text : List ℕ) (it : SpecItem) (n : ℕ) → kind_at text ≡ Some k
    → may_stand mode place gap k ≡ true → IsCutOff text it n → IsAllowedItem mode place gap text it n
taken mode place gap k text it n here may cut =
    let same = same_Some k (kind_of it) (sym here ∙ first_kind text it (drop n text) cut.first) in
    record { cut = cut; stands = rw (← same) may }

pub refused : (mode : Mode) (place : Before) (gap : Bool) (k : Kind) (text : List ℕ) (e : SpecFault) → kind_at text ≡ Some k
    → may_stand mode place gap k ≡ true → IsItemFault text e → IsItemFaultHere mode place gap text e
refused mode place gap k text (fault.Expected q) here may h =
    let same = same_Some k (kind_of h.item) (sym here ∙ h.kind) in
    record {
      within = h.within;
      none = λ more varies it rest first stands. h.none more varies it rest first;
      viable = inr (record { tail = h.tail; item = h.item; form = h.form; stands = rw (← same) may; cut = h.cut });
    }
refused mode place gap k text (fault.BadVersion q) here may h =
    let same = same_Some k (kind_of h.0) (sym here ∙ first_kind text h.0 h.1 h.2) in
    (h.0, h.1, h.2, rw (← same) may, h.3)
refused mode place gap k text fault.OutOfMemory here may h = tt
refused mode place gap k text e here may h = absurd h
