-- Values, as they are kept and written again.
use Rattle.std.proofs.Common.{◌≡◌, ℕ, ◌<◌, ◌+◌, Bool, true, false, List, [], ◌∷◌, ◌++◌, length, take, drop, map, Some, None, lit≤, refl, sym, ap, subst, ◌∙◌, arith, inl, inr, not, if◌then◌else◌, codes, bytes_eq, eqb-true, take_at, drop_at, drop-drop}
use Rattle.std.specs.List.Sorted.{IsStrictlySortedBy}
use Rattle.spec_grammar.proofs.Common.{AllByRecursion, list_all, list_any, before_first, after_first, position_or_len, cases_Bool, and_parts, IsInByteOrder, with_text, is_value_byte, IsValue, is_other, is_colon, is_piece, IsTarget, IsArch, AreValues, truth, put_all, end_of, target_of, is_dash, word_text, target_text}
use Rattle.spec_grammar.proofs.Common.{TargetItem}
use Rattle.spec_grammar.proofs.OrderLaws.{put_same, put_some, put_in_order, all_with}
use Rattle.spec_grammar.proofs.ValueLaws.{piece_bytes, value_byte}
use Rattle.spec_grammar.proofs.StepLaws.{recursion_weaker}

-- ---- words

truth_keeps : (P : List ℕ → Type 0) (w : List ℕ) → P (codes "true") → P (codes "false") → P w → P (truth w)
truth_keeps P w t f h = elim (bytes_eq w (codes "True")) as
    (λ a. P (if a then codes "true" else if bytes_eq w (codes "False") then codes "false" else w)) [
      | true ↦ t
      | false ↦ elim (bytes_eq w (codes "False")) as (λ b. P (if b then codes "false" else w)) [ true ↦ f | false ↦ h ]
    ]

truth_again : (w : List ℕ) → truth (truth w) ≡ truth w
truth_again w = elim (cases_Bool (bytes_eq w (codes "True"))) [
  | inl t ↦ rw t refl
  | inr other ↦ elim (cases_Bool (bytes_eq w (codes "False"))) [
    | inl f ↦ rw (other, f) refl
    | inr neither ↦ let same : truth w ≡ w = rw (other, neither) refl in ap truth same
  ]
]

-- a value that is kept as it stands
abbrev pub IsWord : List ℕ → Type 0
IsWord w = IsValue w × (truth w ≡ w)

pub word_of : (w : List ℕ) → IsValue w → IsWord (truth w)
word_of w h = (truth_keeps IsValue w refl refl h, truth_again w)

-- ---- sets of values

-- the values of a variant
pub record AreKept (values : List (List ℕ)) : Type 0 where
  pub some : 0 < length values
  pub words : AllByRecursion IsWord values
  pub ordered : IsInByteOrder values

put_words : (texts values : List (List ℕ)) → AllByRecursion IsWord texts → AllByRecursion IsValue values
    → AllByRecursion IsWord (put_all texts values)
unfolding put_all
put_words texts [] h k = h
put_words texts (w ∷ values) h k = put_words (with_text texts (truth w)) values (all_with IsWord texts (truth w) h (word_of w k.0)) k.1

pub values_kept : (values : List (List ℕ)) → AreValues values → AreKept (put_all [] values)
unfolding put_all IsStrictlySortedBy
values_kept [] h = absurd h
values_kept (w ∷ values) h = record {
  some = put_some (truth w ∷ []) values (omega arith);
  words = put_words (truth w ∷ []) values (word_of w h.0, tt) h.1;
  ordered = put_in_order (truth w ∷ []) values (tt, tt);
}

pub kept_values : (values : List (List ℕ)) → AreKept values → AreValues values
kept_values [] h = absurd (omega (arith, h.some))
kept_values (w ∷ values) h = recursion_weaker IsWord IsValue (λ v is. is.0) (w ∷ values) h.words

pub kept_same : (values : List (List ℕ)) → AreKept values → put_all [] values ≡ values
kept_same values h = put_same [] values h.ordered (recursion_weaker IsWord (λ v. truth v ≡ v) (λ v is. is.1) values h.words)

-- ---- cuts at a byte

first_place : (p : ℕ → Bool) (a : List ℕ) (b : ℕ) (r : List ℕ) → list_all (λ c. not (p c)) a ≡ true → p b ≡ true
    → position_or_len p (a ++ b ∷ r) ≡ length a
first_place p [] b r h is = rw is refl
first_place p (c ∷ a) b r h is =
    let q = and_parts (not (p c)) (list_all (λ d. not (p d)) a) h in
    rw (q.0, first_place p a b r q.1 is) (omega arith)

-- what is before the first such byte, and what behind it
pub cut_first : (p : ℕ → Bool) (w a : List ℕ) (b : ℕ) (r : List ℕ) → w ≡ a ++ b ∷ r → list_all (λ c. not (p c)) a ≡ true → p b ≡ true
    → (before_first p w ≡ a) × (after_first p w ≡ r)
cut_first p w a b r e h is =
    let place : position_or_len p w ≡ length a = ap (position_or_len p) e ∙ first_place p a b r h is in (
      ap (λ n. take n w) place ∙ ap (take (length a)) e ∙ take_at a (b ∷ r) (length a) refl,
      ap (λ n. drop (n + 1) w) place ∙ sym (drop-drop 1 (length a) w)
          ∙ ap (drop 1) (ap (drop (length a)) e ∙ drop_at a (b ∷ r) (length a) refl),
    )

-- a text in which such a byte stands
record HasByte (p : ℕ → Bool) (w : List ℕ) : Type 0 where
  front : List ℕ
  byte : ℕ
  rest : List ℕ
  cut : w ≡ front ++ byte ∷ rest
  none : list_all (λ c. not (p c)) front ≡ true
  is : p byte ≡ true

has_byte : (p : ℕ → Bool) (w : List ℕ) → list_any p w ≡ true → HasByte p w
has_byte p [] h = absurd cc
has_byte p (b ∷ w) h = elim (cases_Bool (p b)) [
  | inl is ↦ record { front = []; byte = b; rest = w; cut = refl; none = refl; is = is }
  | inr other ↦
      let more = has_byte p w (rw other at h) in
      record {
        front = b ∷ more.front;
        byte = more.byte;
        rest = more.rest;
        cut = ap (λ l. b ∷ l) more.cut;
        none =
            rw (other, more.none) refl;
        is = more.is;
      }
]

-- ---- targets

end_text : (w : List ℕ) → word_text (end_of w) ≡ w
end_text [] = refl
end_text (b ∷ w) = refl

-- an item of `target=` that is kept as it stands
pub record IsTargetKept (t : TargetItem) : Type 0 where
  pub value : IsValue (target_text t)
  pub target : IsTarget (target_text t)
  pub same : target_of (target_text t) ≡ t

range_text : (w : List ℕ) → list_any is_colon w ≡ true → target_text (target_of w) ≡ w
unfolding target_of
range_text w h =
    let c = has_byte is_colon w h in
    let cut = cut_first is_colon w c.front c.byte c.rest c.cut c.none c.is in
    let colon : 58 ≡ c.byte = sym (eqb-true c.byte 58 c.is) in
    rw (h, end_text (before_first is_colon w), end_text (after_first is_colon w), cut.0, cut.1, colon) (sym c.cut)

alone : (w : List ℕ) → list_any is_colon w ≡ false → target_of w ≡ record { low = Some (truth w); high = None; range = false }
unfolding target_of
alone w h = rw h refl

pub target_kept : (w : List ℕ) → IsValue w → IsTarget w → IsTargetKept (target_of w)
target_kept w value target = elim (cases_Bool (list_any is_colon w)) [
  | inl range ↦
      let text = range_text w range in
      record { value = subst IsValue (sym text) value; target = subst IsTarget (sym text) target; same = ap target_of text }
  | inr none ↦
      let word = word_of w value in
      let again : target_of (truth w) ≡ record { low = Some (truth w); high = None; range = false } =
      alone (truth w) (truth_keeps (λ v. list_any is_colon v ≡ false) w refl refl none)
      ∙ ap (λ v. record { low = Some v; high = None; range = false }) word.1 in
      subst IsTargetKept (sym (alone w none)) (record {
        value = word.0;
        target = truth_keeps IsTarget w (lit≤ tt) (lit≤ tt) target;
        same = again;
      })
]

pub targets_kept : (values : List (List ℕ)) → AllByRecursion IsValue values → AllByRecursion IsTarget values
    → AllByRecursion IsTargetKept (map target_of values)
targets_kept [] h k = tt
targets_kept (w ∷ values) h k = (target_kept w h.0 k.0, targets_kept values h.1 k.1)

-- ---- P-O-T

pub piece_value : (w : List ℕ) → is_piece w ≡ true → IsValue w × (list_all (λ c. not (is_dash c)) w ≡ true)
piece_value [] h = absurd cc
piece_value (b ∷ w) h = (
  piece_bytes is_value_byte (b ∷ w) value_byte h,
  piece_bytes (λ c. not (is_dash c)) (b ∷ w)
      (λ c k. (and_parts (is_value_byte c) (is_other c) k).1) h,
)

-- the three parts of P-O-T
pub record AreParts (value : List ℕ) : Type 0 where
  pub platform : IsValue (before_first is_dash value)
  pub os : IsValue (before_first is_dash (after_first is_dash value))
  pub target : IsValue (after_first is_dash (after_first is_dash value))
  pub one : IsTarget (after_first is_dash (after_first is_dash value))

pub arch_parts : (value : List ℕ) → IsArch value → AreParts value
arch_parts value (p, o, t, isp, iso, ist, target, e) =
    let first = cut_first is_dash value p 45 (o ++ 45 ∷ t) e (piece_value p isp).1 refl in
    let second = cut_first is_dash (after_first is_dash value) o 45 t first.1 (piece_value o iso).1 refl in
    record {
      platform = subst IsValue (sym first.0) (piece_value p isp).0;
      os = subst IsValue (sym second.0) (piece_value o iso).0;
      target =
          subst IsValue (sym second.1) (piece_value t ist).0;
      one = subst IsTarget (sym second.1) target;
    }
