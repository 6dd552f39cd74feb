-- Signs as marks in a row, and in a map above it.
use Rattle.std.proofs.Common.{◌≡◌, ℕ, ◌+◌, ◌<◌, ◌≤◌, Bool, true, false, ◌||◌, cond, List, [], ◌∷◌, ◌++◌, drop, length, Option, Some, None, refl, sym, ap, ◌∙◌, subst, arith, slice_set, slice_get, eqb, ltb, inl, inr, Less, Equal, Greater}
use Rattle.std.specs.Prelude.{if◌then◌else◌, slice_index_or}
use Rattle.std.specs.Ordering.{nat_cmp, is_eq}
use Rattle.std.specs.Map.{lookup}
use Rattle.std.specs.BTreeMap.{BTreeMap, Updates, is_at}
use Rattle.std.proofs.lemmas.Bool.{false≢true, le-ltb, and_parts, and_from, or_cases, or_left, or_right}
use Rattle.std.proofs.lemmas.Bool.Decides.{eqb_tells}
use Rattle.std.proofs.lemmas.Option.{none-some, same_Some, slice_get_past, slice_get_cases}
use Rattle.std.proofs.lemmas.List.{drop_more, length-set}
use Rattle.log_checker.specs.Signs.{marked, sign_above, sign_of, SignMap, with_sign, with_touched, is_clear, are_clear, stands, AreTouched, IsAbove}
use Rattle.log_checker.proofs.Places.{get-set-same, get-set-other}

pub is_eq-nat_cmp : (a b : ℕ) → is_eq (nat_cmp a b) ≡ eqb a b
is_eq-nat_cmp a b = elim (eqb_tells a b) [
  | inl h ↦ ap (λ t. is_eq (cond t Less (cond (eqb a b) Equal Greater))) (le-ltb a b (omega (arith, h.1)))
      ∙ ap (λ t. is_eq (cond t Equal Greater)) h.0 ∙ sym h.0
  | inr h ↦ ap (λ t. is_eq (cond (ltb a b) Less (cond t Equal Greater))) h.0 ∙ apart (ltb a b) ∙ sym h.0
]
  where
    apart : (t : Bool) → is_eq (cond t Less Greater) ≡ false
    apart true = refl
    apart false = refl

pub cond-if : {T : Type 0} (b : Bool) (x y : T) → cond b x y ≡ if b then x else y
cond-if true x y = refl
cond-if false x y = refl

abbrev pub signs : List (Option Bool) → List (ℕ × Bool) → SignMap
signs marks above = record { marks = marks; above = above }

-- one variable has another sign
pub mark-put : (marks : List (Option Bool)) (es : List (ℕ × Bool)) (k : ℕ) (w : Option Bool) → k < length marks → (x : ℕ)
    → sign_of (signs (slice_set marks k w) es) x ≡ with_sign (sign_of (signs marks es)) k w x
mark-put marks es k w h x = elim (eqb_tells k x) [
  | inl q ↦ ap (λ o. marked o (sign_above es x)) (subst (λ z. slice_get (slice_set marks k w) z ≡ Some w) q.1 (get-set-same marks k w h))
      ∙ sym (ap (λ b. if b then w else sign_of (signs marks es) x) q.0)
  | inr q ↦ ap (λ o. marked o (sign_above es x)) (get-set-other marks k x w q.1)
      ∙ sym (ap (λ b. if b then w else sign_of (signs marks es) x) q.0)
]

pub above-put : (marks : List (Option Bool)) (m n : BTreeMap ℕ Bool) (k : ℕ) (w : Option Bool) → length marks ≤ k → Updates nat_cmp m n k w
    → (x : ℕ) → sign_of (signs marks n.entries) x ≡ with_sign (sign_of (signs marks m.entries)) k w x
above-put marks m n k w h u x = ap (marked (slice_get marks x))
    (u.0 x ∙ ap (λ b. cond b w (sign_above m.entries x)) (is_eq-nat_cmp k x) ∙ cond-if (eqb k x) w (sign_above m.entries x))
    ∙ elim (eqb_tells k x) [
      | inl q ↦ ap (λ b. marked (slice_get marks x) (if b then w else sign_above m.entries x)) q.0
          ∙ ap (λ o. marked o w) (slice_get_past marks x (omega (arith, h, q.1)))
          ∙ sym (ap (λ b. if b then w else sign_of (signs marks m.entries) x) q.0)
      | inr q ↦ ap (λ b. marked (slice_get marks x) (if b then w else sign_above m.entries x)) q.0
          ∙ sym (ap (λ b. if b then w else sign_of (signs marks m.entries) x) q.0)
    ]

-- which variables were touched
pub listed-push : (xs : List ℕ) (k x : ℕ) → stands xs x ≡ true → stands (xs ++ k ∷ []) x ≡ true
listed-push [] k x h = absurd (false≢true h)
listed-push (y ∷ ys) k x h = elim (or_cases (eqb y x) (stands ys x) h) [
  | inl p ↦ or_left (eqb y x) (stands (ys ++ k ∷ []) x) p
  | inr p ↦ or_right (eqb y x) (stands (ys ++ k ∷ []) x) (listed-push ys k x p)
]

pub listed-last : (xs : List ℕ) (k x : ℕ) → eqb k x ≡ true → stands (xs ++ k ∷ []) x ≡ true
listed-last [] k x h = or_left (eqb k x) false h
listed-last (y ∷ ys) k x h = or_right (eqb y x) (stands (ys ++ k ∷ []) x) (listed-last ys k x h)

pub touched-put : (marks : List (Option Bool)) (xs : List ℕ) (k : ℕ) (m w : Option Bool) → slice_get marks k ≡ Some m
    → AreTouched marks xs → AreTouched (slice_set marks k w) (with_touched m xs k)
touched-put marks xs k None w g a x v e = elim (eqb_tells k x) [
  | inl q ↦ listed-last xs k x q.0
  | inr q ↦ listed-push xs k x (a x v (sym (get-set-other marks k x w q.1) ∙ e))
]
touched-put marks xs k (Some u) w g a x v e = elim (eqb_tells k x) [
  | inl q ↦ subst (λ z. stands xs z ≡ true) q.1 (a k u g)
  | inr q ↦ a x v (sym (get-set-other marks k x w q.1) ∙ e)
]

cut-apart : (marks : List (Option Bool)) (k x : ℕ) (v : Bool) → k < length marks → slice_get (slice_set marks k None) x ≡ Some (Some v)
    → (eqb k x ≡ false) × (slice_get marks x ≡ Some (Some v))
cut-apart marks k x v h e = elim (eqb_tells k x) [
  | inl q ↦ absurd (none-some v (same_Some None (Some v)
      (sym (subst (λ z. slice_get (slice_set marks k None) z ≡ Some None) q.1 (get-set-same marks k None h)) ∙ e)))
  | inr q ↦ (q.0, sym (get-set-other marks k x None q.1) ∙ e)
]

listed-step : (xs : List ℕ) (i d x : ℕ) → i < length xs
    → stands (drop i xs) x ≡ (eqb (slice_index_or xs i d) x || stands (drop (i + 1) xs) x)
listed-step xs i d x h = ap (λ ys. stands ys x) (drop_more xs i d h)

pub cleared-step : (marks : List (Option Bool)) (xs : List ℕ) (i d : ℕ) → i < length xs → slice_index_or xs i d < length marks
    → AreTouched marks (drop i xs) → AreTouched (slice_set marks (slice_index_or xs i d) None) (drop (i + 1) xs)
cleared-step marks xs i d h k a x v e =
    let p = cut-apart marks (slice_index_or xs i d) x v k e in
    sym (ap (λ b. b || stands (drop (i + 1) xs) x) p.0) ∙ sym (listed-step xs i d x h) ∙ a x v p.1

pub passed-step : (marks : List (Option Bool)) (xs : List ℕ) (i d : ℕ) → i < length xs → length marks ≤ slice_index_or xs i d
    → AreTouched marks (drop i xs) → AreTouched marks (drop (i + 1) xs)
passed-step marks xs i d h k a x v e = elim (eqb_tells (slice_index_or xs i d) x) [
  | inl q ↦ absurd (none-some (Some v) (sym (slice_get_past marks x (omega (arith, k, q.1))) ∙ e))
  | inr q ↦ sym (ap (λ b. b || stands (drop (i + 1) xs) x) q.0) ∙ sym (listed-step xs i d x h) ∙ a x v e
]

-- no sign at all
clear-listed : (marks : List (Option Bool)) (xs : List ℕ) (x : ℕ) → are_clear marks xs ≡ true → stands xs x ≡ true
    → is_clear (slice_get marks x) ≡ true
clear-listed marks [] x a h = absurd (false≢true h)
clear-listed marks (y ∷ ys) x a h =
    let p = and_parts (is_clear (slice_get marks y)) (are_clear marks ys) a in
    elim (eqb_tells y x) [
      | inl q ↦ subst (λ z. is_clear (slice_get marks z) ≡ true) q.1 p.0
      | inr q ↦ clear-listed marks ys x p.1 (sym (ap (λ b. b || stands ys x) q.0) ∙ h)
    ]

clear-marked : (o : Option (Option Bool)) → ((v : Bool) → o ≡ Some (Some v) → ⊥) → marked o None ≡ None
clear-marked None h = refl
clear-marked (Some None) h = refl
clear-marked (Some (Some v)) h = absurd (h v refl)

pub none-signs : (marks : List (Option Bool)) (es : List (ℕ × Bool)) → ((x : ℕ) (v : Bool) → slice_get marks x ≡ Some (Some v) → ⊥)
    → es ≡ [] → (x : ℕ) → sign_of (signs marks es) x ≡ None
none-signs marks es h e x = ap (λ fs. marked (slice_get marks x) (sign_above fs x)) e ∙ clear-marked (slice_get marks x) (h x)

pub empty-signs : (marks : List (Option Bool)) (es : List (ℕ × Bool)) (xs : List ℕ) → AreTouched marks xs → length es ≡ 0
    → are_clear marks xs ≡ true → (x : ℕ) → sign_of (signs marks es) x ≡ None
empty-signs marks es xs a e c = none-signs marks es (λ x v g. not-clear (slice_get marks x) v g (clear-listed marks xs x c (a x v g)))
    (nothing es e)
  where
    not-clear : (o : Option (Option Bool)) (v : Bool) → o ≡ Some (Some v) → is_clear o ≡ true → ⊥
    not-clear o v g k = false≢true (sym (ap is_clear g) ∙ k)

    nothing : (es : List (ℕ × Bool)) → length es ≡ 0 → es ≡ []
    nothing [] e = refl
    nothing (p ∷ es) e = absurd (omega (arith, e))

-- and the other way round, where all touched variables are those of the row
pub clear-signs : (marks : List (Option Bool)) (es : List (ℕ × Bool)) (xs : List ℕ) → ((x : ℕ) → sign_of (signs marks es) x ≡ None)
    → are_clear marks xs ≡ true
clear-signs marks es [] h = refl
clear-signs marks es (y ∷ ys) h =
    and_from (is_clear (slice_get marks y)) (are_clear marks ys) (by (slice_get marks y) (h y)) (clear-signs marks es ys h)
  where
    by : (o : Option (Option Bool)) → marked o (sign_above es y) ≡ None → is_clear o ≡ true
    by None e = refl
    by (Some None) e = refl
    by (Some (Some v)) e = absurd (none-some v (sym e))

-- the map stays above the row
pub above-kept : (marks : List (Option Bool)) (es : List (ℕ × Bool)) (k : ℕ) (w : Option Bool) → IsAbove marks es
    → IsAbove (slice_set marks k w) es
above-kept marks es k w a x h = a x (subst (λ n. x < n) (length-set marks k w) h)

pub nothing-above : (marks : List (Option Bool)) (es : List (ℕ × Bool)) → IsAbove marks es → ((x : ℕ) → sign_of (signs marks es) x ≡ None)
    → length es ≡ 0
nothing-above marks [] a h = refl
nothing-above marks (p ∷ es) a h = elim (slice_get_cases marks p.0).1 [
  | inl q ↦ absurd (none-some p.1 (sym (sym stands ∙ a p.0 q.1)))
  | inr q ↦ absurd (none-some p.1 (sym (sym stands ∙ sym (ap (λ o. marked o (sign_above (p ∷ es) p.0)) q.1) ∙ h p.0)))
]
  where
    same : eqb p.0 p.0 ≡ true
    same = elim (eqb_tells p.0 p.0) [ inl q ↦ q.0 | inr q ↦ absurd (q.1 refl) ]

    stands : sign_above (p ∷ es) p.0 ≡ Some p.1
    stands = ap (λ t. cond t (Some p.1) (lookup (is_at (nat_cmp p.0)) es)) (is_eq-nat_cmp p.0 p.0 ∙ same)
