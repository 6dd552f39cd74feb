-- Texts and their places, as a map has them: one text more.
use Rattle.std.proofs.Common.{◌≡◌, refl, sym, ap, subst, ◌∙◌, ℕ, ◌+◌, ◌-◌, ◌<◌, true, false, Some, None, String, List, [], ◌∷◌, ◌++◌, length, get_or, Contains, ◌⊎◌, inl, inr, ⊎_elim, arith}
use Rattle.std.specs.BTreeMap.{BTreeMap, get_by_text}
use Rattle.std.specs.Map.{update}
use Rattle.std.specs.Str.{bytes_eq}
use Rattle.std.specs.Cmp.Lexicographic.{bytes_decides}
use Rattle.std.specs.declared.alloc.Global.{Global}
use Rattle.std.proofs.lemmas.Bool.{cases_lt, cases_Bool, cond-true, cond-false, false_from_ne_true}
use Rattle.std.proofs.lemmas.Option.{none-some}
use Rattle.std.proofs.lemmas.List.{get_or_append_left, get_or-append_right, length_push}
use Rattle.reachability.specs.Places.{IsAt}
use Rattle.reachability.specs.TextPlaces.{ArePlaces}

-- ---- keys at places

module _ {K : Type 0} where
  -- a key stays at its place where one more comes behind
  at_more : (keys : List K) (k q : K) (i : ℕ) → IsAt keys q i → IsAt (keys ++ k ∷ []) q i
  at_more keys k q i at = (omega (arith, at.0, length_push keys k), get_or_append_left keys (k ∷ []) q i at.0 ∙ at.1)

  -- the one that comes is at the end
  at_end : (keys : List K) (k : K) → IsAt (keys ++ k ∷ []) k (length keys)
  at_end keys k = (
    omega (arith, length_push keys k),
    get_or-append_right keys (k ∷ []) (length keys) (length keys) k refl (omega arith)
        ∙ ap (λ n. get_or (k ∷ []) n k) (sub_self (length keys)),
  )
    where
      sub_self : (n : ℕ) → n - n ≡ 0
      sub_self n = omega arith

  -- a key is at its old place, or is the one that came
  at_cases : (keys : List K) (k q : K) (i : ℕ) → IsAt (keys ++ k ∷ []) q i → IsAt keys q i ⊎ ((k ≡ q) × (i ≡ length keys))
  at_cases keys k q i at = ⊎_elim
      (λ lt. inl (lt, sym (get_or_append_left keys (k ∷ []) q i lt) ∙ at.1))
      (λ le.
      let last : i ≡ length keys = omega (arith, le, at.0, length_push keys k) in
      inr (
        ap (λ n. get_or (k ∷ []) n q) (sub_same i (length keys) last) ∙ sym (get_or-append_right keys (k ∷ []) (length keys) i q refl le)
            ∙ at.1,
        last,
      ))
      (cases_lt i (length keys))
    where
      sub_same : (i n : ℕ) → i ≡ n → 0 ≡ i - n
      sub_same i n e = omega arith

-- ---- a map of places

module _ (texts : List (List ℕ)) (m : BTreeMap (String Global) ℕ) (are : ArePlaces texts m) where
  -- a text without a place is none of them
  pub lacks_text : (text : List ℕ) → get_by_text m text ≡ None → Contains texts text → ⊥
  lacks_text text none there = none-some _ (sym none ∙ (are text there.0).1 (there.1, there.2))

  -- a text with a place is one of them
  pub has_text : (text : List ℕ) (i : ℕ) → get_by_text m text ≡ Some i → Contains texts text
  has_text text i some = let at = (are text i).0 some in (i, at.0, at.1)

  -- the places with one text more
  pub places_more : (n : BTreeMap (String Global) ℕ) (text : List ℕ) (i : ℕ) → i ≡ length texts → get_by_text m text ≡ None
      → ((q : List ℕ) → get_by_text n q ≡ update bytes_eq (get_by_text m) text (Some i) q) → ArePlaces (texts ++ text ∷ []) n
  places_more n text i last none updates q k = (
    λ some. ⊎_elim
        (λ (same : bytes_eq text q ≡ true).
        let is : Some i ≡ Some k = sym (cond-true (bytes_eq text q) (Some i) (get_by_text m q) same) ∙ sym (updates q) ∙ some in
        let e : i ≡ k = cc in
        subst (λ x. IsAt (texts ++ text ∷ []) x k) ((bytes_decides text q).0 same)
        (subst (IsAt (texts ++ text ∷ []) text) (sym last ∙ e) (at_end texts text)))
        (λ (other : bytes_eq text q ≡ false). at_more texts text q k
        ((are q k).0 (sym (cond-false (bytes_eq text q) (Some i) (get_by_text m q) other) ∙ sym (updates q) ∙ some)))
        (cases_Bool (bytes_eq text q)),
    λ at. updates q ∙ ⊎_elim
        (λ old.
        let other : bytes_eq text q ≡ false = false_from_ne_true _
        (λ same. none-some k (sym none ∙ ap (get_by_text m) ((bytes_decides text q).0 same) ∙ (are q k).1 old)) in
        cond-false (bytes_eq text q) (Some i) (get_by_text m q) other ∙ (are q k).1 old)
        (λ new. cond-true (bytes_eq text q) (Some i) (get_by_text m q) ((bytes_decides text q).1 new.0)
        ∙ ap (λ x. Some x) (last ∙ sym new.1))
        (at_cases texts text q k at),
  )

-- what no place below i has, nor i, no place below i + 1 has
pub none_more : (P : ℕ → Type 0) (i : ℕ) → ((k : ℕ) → k < i → P k → ⊥) → (P i → ⊥) → (k : ℕ) → k < i + 1 → P k → ⊥
none_more P i below here k lt p = ⊎_elim (λ less. below k less p) (λ le. let e : k ≡ i = omega (arith, lt, le) in
    here (subst P e p)) (cases_lt k i)
