-- Values, cut at their commas.
use Rattle.std.proofs.Common.{◌≡◌, ℕ, List, [], ◌∷◌, ◌++◌, length, take, drop, refl, sym, ap, ◌∙◌, append_assoc, take_at, drop_at}
use Rattle.spec_grammar.proofs.Common.{AllByRecursion, prefix_len, is_value_byte, IsValue, spell_more_values, spell_values}
use Rattle.spec_grammar.proofs.RunLaws.{Stop, stop_cons, stop_none, run_is, value_run, two_cons, cons_none}

abbrev pub AreValues : List (List ℕ) → Type 0
AreValues values = AllByRecursion IsValue values

pub more_stop : (values : List (List ℕ)) → Stop is_value_byte (spell_more_values values)
more_stop [] = stop_none is_value_byte
more_stop (v ∷ values) = stop_cons is_value_byte 44 (v ++ spell_more_values values) refl

-- what is left to read, of all the values
pub record Left (words : List (List ℕ)) (rest : List ℕ) (all : List (List ℕ)) : Type 0 where
  pub first : List ℕ
  pub others : List (List ℕ)
  pub joined : words ++ first ∷ others ≡ all
  pub are : AreValues (first ∷ others)
  pub spelled : rest ≡ spell_values (first ∷ others)

abbrev pub IsSoFar : List ℕ → List (List ℕ) → List ℕ → Type 0
IsSoFar text words rest = (first : List ℕ) (others : List (List ℕ)) → AreValues (first ∷ others) → text ≡ spell_values (first ∷ others)
    → Left words rest (first ∷ others)

-- these are all
abbrev pub IsSoFarAll : List ℕ → List (List ℕ) → Type 0
IsSoFarAll text words = (first : List ℕ) (others : List (List ℕ)) → AreValues (first ∷ others) → text ≡ spell_values (first ∷ others)
    → words ≡ first ∷ others

front_is : (rest g : List ℕ) (left : List (List ℕ)) (n : ℕ) → IsValue g → rest ≡ g ++ spell_more_values left
    → n ≡ prefix_len is_value_byte rest
    → (take n rest ≡ g) × (drop n rest ≡ spell_more_values left)
front_is rest g left n h e k =
    let len : n ≡ length g = k ∙ ap (prefix_len is_value_byte) e
    ∙ run_is is_value_byte g (spell_more_values left) (value_run g h) (more_stop left) in
    (ap (take n) e ∙ take_at g (spell_more_values left) n (sym len), ap (drop n) e ∙ drop_at g (spell_more_values left) n (sym len))

all_case : (words : List (List ℕ)) (rest : List ℕ) (n : ℕ) (all : List (List ℕ)) (g : List ℕ) (left : List (List ℕ))
    → words ++ g ∷ left ≡ all → AreValues (g ∷ left) → rest ≡ spell_values (g ∷ left)
    → n ≡ prefix_len is_value_byte rest → drop n rest ≡ [] → words ++ take n rest ∷ [] ≡ all
all_case words rest n all g [] j are e k none =
    let f = front_is rest g [] n are.0 e k in
    ap (λ (v : List ℕ). words ++ v ∷ []) f.0 ∙ j
all_case words rest n all g (h ∷ left) j are e k none =
    let f = front_is rest g (h ∷ left) n are.0 e k in
    cons_none 44 (h ++ spell_more_values left) (sym f.1 ∙ none)

-- the last value
pub so_far_all : (text : List ℕ) (words : List (List ℕ)) (rest : List ℕ) (n : ℕ) → IsSoFar text words rest
    → n ≡ prefix_len is_value_byte rest → drop n rest ≡ []
    → IsSoFarAll text (words ++ take n rest ∷ [])
so_far_all text words rest n so_far k none first others are e =
    let l = so_far first others are e in
    all_case words rest n (first ∷ others) l.first l.others l.joined l.are l.spelled k none

more_case : (words : List (List ℕ)) (rest : List ℕ) (n b : ℕ) (next : List ℕ) (all : List (List ℕ)) (g : List ℕ) (left : List (List ℕ))
    → words ++ g ∷ left ≡ all → AreValues (g ∷ left) → rest ≡ spell_values (g ∷ left)
    → n ≡ prefix_len is_value_byte rest → drop n rest ≡ b ∷ next → Left (words ++ take n rest ∷ []) next all
more_case words rest n b next all g [] j are e k some =
    let f = front_is rest g [] n are.0 e k in
    cons_none b next (sym some ∙ f.1)
more_case words rest n b next all g (h ∷ left) j are e k some =
    let f = front_is rest g (h ∷ left) n are.0 e k in
    record {
      first = h;
      others = left;
      joined = ap (λ (v : List ℕ). (words ++ v ∷ []) ++ h ∷ left) f.0 ∙ append_assoc words (g ∷ []) (h ∷ left) ∙ j;
      are = are.1;
      spelled = (two_cons _ _ _ _ (sym some ∙ f.1)).1;
    }

-- one value more
pub so_far_more : (text : List ℕ) (words : List (List ℕ)) (rest : List ℕ) (n b : ℕ) (next : List ℕ) → IsSoFar text words rest
    → n ≡ prefix_len is_value_byte rest → drop n rest ≡ b ∷ next
    → IsSoFar text (words ++ take n rest ∷ []) next
so_far_more text words rest n b next so_far k some first others are e =
    let l = so_far first others are e in
    more_case words rest n b next (first ∷ others) l.first l.others l.joined l.are l.spelled k some

pub so_far_none : (text : List ℕ) → IsSoFar text [] text
so_far_none text first others are e = record { first = first; others = others; joined = refl; are = are; spelled = e }
