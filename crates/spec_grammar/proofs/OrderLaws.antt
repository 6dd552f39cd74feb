-- Texts and variants in byte order.
use Rattle.std.proofs.Common.{◌≡◌, ℕ, ◌<◌, true, false, List, [], ◌∷◌, ◌++◌, length, refl, sym, ap, subst, ◌∙◌, arith, append_assoc, bytes_eq, append-nil}
use Rattle.std.specs.List.Sorted.{IsStrictlySortedBy}
use Rattle.std.specs.Ordering.{ordering_reverse, match_ordering}
use Rattle.std.specs.declared.cmp.Ordering.TheVariants.{Less, Equal, Greater}
use Rattle.std.specs.Cmp.{tied_itself}
use Rattle.std.specs.Cmp.Lexicographic.{nat_list_cmp_total}
use Rattle.std.proofs.lemmas.Map.Views.{All-insert_key}
use Rattle.variant_values.proofs.Texts.{ties_are_equal, with_text_in_order}
use Rattle.spec_grammar.proofs.Common.{AllByRecursion, or_parts, false_from_ne_true, All-from_recursion, recursion_from_All, bytes_eq-Decides, byte_cmp, IsInByteOrder, with_text, truth, put_all, PartVariants, with_variant, set_at, has_variant, variant_names}
use Rattle.spec_grammar.proofs.RunLaws.{true_false}

pub all_at : {X : Type 0} (P : X → Type 0) (xs : List X) (x : X) (more : List X) → AllByRecursion P (xs ++ x ∷ more) → P x
all_at P [] x more h = h.0
all_at P (y ∷ xs) x more h = all_at P xs x more h.1

-- each of the texts is below this one
abbrev pub AreBelow : List ℕ → List (List ℕ) → Type 0
AreBelow w texts = AllByRecursion (λ u. byte_cmp w u ≡ Greater) texts

pub before_above : (front : List (List ℕ)) (w : List ℕ) (rest : List (List ℕ)) → IsInByteOrder (front ++ w ∷ rest) → AreBelow w front
unfolding IsStrictlySortedBy
before_above [] w rest s = tt
before_above (u ∷ front) w rest s = (
  nat_list_cmp_total.antisymm w u
      ∙ ap ordering_reverse (all_at (λ v. byte_cmp u v ≡ Less) front w rest s.0),
  before_above front w rest s.1,
)

-- ---- texts

with_last : (texts : List (List ℕ)) (w : List ℕ) → AreBelow w texts → with_text texts w ≡ texts ++ w ∷ []
with_last [] w h = refl
with_last (u ∷ texts) w h = rw h.0 (ap (λ l. u ∷ l) (with_last texts w h.1))

-- texts that stand in byte order are put as they stand
pub put_same : (front values : List (List ℕ)) → IsInByteOrder (front ++ values) → AllByRecursion (λ w. truth w ≡ w) values
    → put_all front values ≡ front ++ values
unfolding put_all
put_same front [] s h = sym (append-nil front)
put_same front (w ∷ values) s h =
    let one : with_text front (truth w) ≡ front ++ w ∷ [] = ap (with_text front) h.0 ∙ with_last front w (before_above front w values s) in
    ap (λ texts. put_all texts values) one ∙ put_same (front ++ w ∷ []) values
    (subst IsInByteOrder (sym (append_assoc front (w ∷ []) values)) s) h.1 ∙ append_assoc front (w ∷ []) values

pub all_with : (P : List ℕ → Type 0) (texts : List (List ℕ)) (w : List ℕ) → AllByRecursion P texts → P w
    → AllByRecursion P (with_text texts w)
all_with P texts w h p = recursion_from_All P _ (All-insert_key byte_cmp w P texts (All-from_recursion P texts h) p)

with_some : (texts : List (List ℕ)) (w : List ℕ) → 0 < length (with_text texts w)
with_some [] w = omega arith
with_some (u ∷ texts) w = elim (byte_cmp w u) as (λ r. 0 < length (match_ordering r (w ∷ u ∷ texts) (u ∷ texts) (u ∷ with_text texts w)))
    [ Less ↦ omega arith | Equal ↦ omega arith | Greater ↦ omega arith ]

pub put_some : (texts values : List (List ℕ)) → 0 < length texts → 0 < length (put_all texts values)
unfolding put_all
put_some texts [] h = h
put_some texts (w ∷ values) h = put_some (with_text texts (truth w)) values (with_some texts (truth w))

pub put_in_order : (texts values : List (List ℕ)) → IsInByteOrder texts → IsInByteOrder (put_all texts values)
unfolding put_all
put_in_order texts [] h = h
put_in_order texts (w ∷ values) h = put_in_order (with_text texts (truth w)) values (with_text_in_order texts (truth w) h)

-- ---- variants

same_name : (w : List ℕ) → bytes_eq w w ≡ true
same_name w = (bytes_eq-Decides w w).1 refl

other_name : (w u : List ℕ) → byte_cmp w u ≡ Greater → bytes_eq u w ≡ false
other_name w u e = false_from_ne_true (bytes_eq u w) (λ is.
    let both : Greater ≡ Equal = sym e ∙ ap (byte_cmp w) ((bytes_eq-Decides u w).0 is) ∙ tied_itself nat_list_cmp_total w in
    absurd (cc))

pub not_there : (w : List ℕ) (front : PartVariants) → AreBelow w (variant_names front) → has_variant w front ≡ false
not_there w [] h = refl
not_there w (v ∷ front) h = rw (other_name w v.0 h.0, not_there w front h.1) refl

-- a variant with a name above all others stands last
pub set_last : (new : List ℕ × List (List ℕ)) (front : PartVariants) → AreBelow new.0 (variant_names front)
    → with_variant new front ≡ front ++ new ∷ []
unfolding with_variant
set_last new [] h = refl
set_last new (v ∷ front) h = rw h.0 (ap (λ l. v ∷ l) (set_last new front h.1))

pub all_set : (P : (List ℕ × List (List ℕ)) → Type 0) (new : List ℕ × List (List ℕ)) (variants : PartVariants) → AllByRecursion P variants
    → P new → AllByRecursion P (with_variant new variants)
unfolding with_variant
all_set P new [] h p = (p, tt)
all_set P new (v ∷ variants) h p = elim (byte_cmp new.0 v.0) as
    (λ r. AllByRecursion P (set_at r new v variants (with_variant new variants))) [
      | Less ↦ (p, h)
      | Equal ↦ (p, h)
      | Greater ↦ (h.0, all_set P new variants h.1 p)
    ]

pub names_set : (new : List ℕ × List (List ℕ)) (variants : PartVariants) → has_variant new.0 variants ≡ false
    → variant_names (with_variant new variants) ≡ with_text (variant_names variants) new.0
unfolding with_variant
names_set new [] h = refl
names_set new (v ∷ variants) h =
    let apart = or_parts (bytes_eq v.0 new.0) (has_variant new.0 variants) h in
    elim (byte_cmp new.0 v.0) as (λ r. byte_cmp new.0 v.0 ≡ r
    → variant_names (set_at r new v variants (with_variant new variants)) ≡ match_ordering r (new.0 ∷ v.0 ∷ variant_names variants)
    (v.0 ∷ variant_names variants) (v.0 ∷ with_text (variant_names variants) new.0)) [
      | Less ↦ λ e. refl
      | Equal ↦ λ e. true_false (bytes_eq v.0 new.0) (ap (λ w. bytes_eq w new.0) (sym (ties_are_equal new.0 v.0 e))
          ∙ same_name new.0) apart.0
      | Greater ↦ λ e. ap (λ l. v.0 ∷ l) (names_set new variants apart.1)
    ] refl
