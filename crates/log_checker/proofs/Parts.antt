-- Where a part of a clause's literals is enough for a step of a chain.
use Rattle.std.proofs.Common.{◌≡◌, ◌≢◌, ◌⊎◌, ℕ, ◌+◌, ◌<◌, Bool, true, false, not, List, [], ◌∷◌, drop, length, Option, Some, None, inl, inr, refl, sym, ap, ◌∙◌, subst, arith, eqb}
use Rattle.std.specs.Prelude.{Ok, Err, Result, slice_index_or, if◌then◌else◌}
use Rattle.std.specs.Bool.{beq}
use Rattle.std.proofs.lemmas.Bool.{false≢true, or_cases, or_left, or_right}
use Rattle.std.proofs.lemmas.Bool.Decides.{eqb_tells}
use Rattle.std.proofs.lemmas.List.{drop_more}
use Rattle.clause_store.specs.declared.Lit.{Lit}
use Rattle.clause_store.specs.Lits.{var_of, has, lit_eq, IsClause}
use Rattle.clause_store.proofs.Sets.{same_lit, lit_eq-refl}
use Rattle.proof_log.proofs.Counting.{lit}
use Rattle.log_checker.specs.declared.step.Why.{Why}
use Rattle.log_checker.specs.declared.step.Why.TheVariants.{NoPivot, TwoPivots}
use Rattle.log_checker.specs.Steps.{is_bit_value}
use Rattle.log_checker.specs.Signs.{sign_in, with_sign, opposed, clashes, only_one, overlay}
use Rattle.log_checker.specs.Uses.{is_other, only_pivot, IsEnough, IsResolved}
use Rattle.log_checker.proofs.Clashes.{sign-has, over, overlay-sign, clashes-clause}
use Rattle.log_checker.proofs.Values.{value-is, beq-refl}

-- what clashes
pub clash-in : (f : ℕ → Option Bool) (c : List Lit) (m : Lit) → has c m ≡ true → opposed f m ≡ true → has (clashes f c) m ≡ true
clash-in f [] m h o = h
clash-in f (l ∷ c) m h o = go (opposed f l) refl (λ g. clash-in f c m g o)
  where
    go : (t : Bool) → opposed f l ≡ t → (has c m ≡ true → has (clashes f c) m ≡ true)
        → has (if t then l ∷ clashes f c else clashes f c) m ≡ true
    go true q ih = elim (or_cases (lit_eq l m) (has c m) h) [
      | inl p ↦ or_left (lit_eq l m) (has (clashes f c) m) p
      | inr p ↦ or_right (lit_eq l m) (has (clashes f c) m) (ih p)
    ]
    go false q ih = elim (or_cases (lit_eq l m) (has c m) h) [
      | inl p ↦ absurd (false≢true (sym q ∙ ap (opposed f) (same_lit l m p) ∙ o))
      | inr p ↦ ih p
    ]

pub in-clash : (f : ℕ → Option Bool) (c : List Lit) (m : Lit) → has (clashes f c) m ≡ true → (has c m ≡ true) × (opposed f m ≡ true)
in-clash f [] m h = absurd (false≢true h)
in-clash f (l ∷ c) m h = go (opposed f l) refl (λ g. in-clash f c m g) h
  where
    go : (t : Bool) → opposed f l ≡ t → (has (clashes f c) m ≡ true → (has c m ≡ true) × (opposed f m ≡ true))
        → has (if t then l ∷ clashes f c else clashes f c) m ≡ true → (has (l ∷ c) m ≡ true) × (opposed f m ≡ true)
    go true q ih g = elim (or_cases (lit_eq l m) (has (clashes f c) m) g) [
      | inl p ↦ (or_left (lit_eq l m) (has c m) p, ap (opposed f) (sym (same_lit l m p)) ∙ q)
      | inr p ↦ let r = ih p in (or_right (lit_eq l m) (has c m) r.0, r.1)
    ]
    go false q ih g = let r = ih g in (or_right (lit_eq l m) (has c m) r.0, r.1)

opposite : (p : Bool) → beq p (not p) ≡ false
opposite true = refl
opposite false = refl

-- a literal that has its sign does not clash
pub met-not-opposed : (f : ℕ → Option Bool) (m : Lit) → f (var_of m) ≡ Some m.positive → opposed f m ≡ false
met-not-opposed f m e = ap (λ o. is_bit_value o (not m.positive)) e ∙ opposite m.positive

pub clash-part : (f : ℕ → Option Bool) (c parts : List Lit) (m : Lit) → IsEnough f c parts → has c m ≡ true → opposed f m ≡ true
    → has parts m ≡ true
clash-part f c parts m e h o = elim (e.1 m h) [ inl q ↦ absurd (false≢true (sym (met-not-opposed f m q) ∙ o)) | inr q ↦ q ]

-- one that stands in a list and is not its first stands in the rest
rest-has : (m l : Lit) (ms : List Lit) → (m ≡ l → ⊥) → has (m ∷ ms) l ≡ true → has ms l ≡ true
rest-has m l ms n h = elim (or_cases (lit_eq m l) (has ms l) h) [ inl p ↦ absurd (n (same_lit m l p)) | inr p ↦ p ]

apart : (f : ℕ → Option Bool) (m l : Lit) → opposed f m ≡ false → opposed f l ≡ true → m ≡ l → ⊥
apart f m l q o e = false≢true (sym q ∙ ap (opposed f) e ∙ o)

first-has : (m : Lit) (ms : List Lit) → has (m ∷ ms) m ≡ true
first-has m ms = or_left (lit_eq m m) (has ms m) (lit_eq-refl m)

abbrev then_pivot : (ℕ → Option Bool) → Option Lit → Lit → List Lit → Bool → Result Lit Why
then_pivot f o m ms t = if t then (if is_other o m then Err TwoPivots else only_pivot f (Some m) ms) else only_pivot f o ms

no-pivot : (f : ℕ → Option Bool) (ps : List Lit) → ((m : Lit) → has ps m ≡ true → opposed f m ≡ false) → only_pivot f None ps ≡ Err NoPivot
no-pivot f [] n = refl
no-pivot f (m ∷ ms) n = ap (then_pivot f None m ms) (n m (first-has m ms))
    ∙ no-pivot f ms (λ k h. n k (or_right (lit_eq m k) (has ms k) h))

kept-pivot : (f : ℕ → Option Bool) (l : Lit) (ps : List Lit) → ((m : Lit) → has ps m ≡ true → opposed f m ≡ true → m ≡ l)
    → only_pivot f (Some l) ps ≡ Ok l
kept-pivot f l [] a = refl
kept-pivot f l (m ∷ ms) a = go (opposed f m) refl (kept-pivot f l ms (λ k h. a k (or_right (lit_eq m k) (has ms k) h)))
  where
    self : (x : ℕ) → eqb x x ≡ true
    self x = elim (eqb_tells x x) [ inl q ↦ q.0 | inr q ↦ absurd (q.1 refl) ]

    go : (t : Bool) → opposed f m ≡ t → only_pivot f (Some l) ms ≡ Ok l → then_pivot f (Some l) m ms t ≡ Ok l
    go false q ih = ih
    go true q ih =
        let e : m ≡ l = a m (first-has m ms) q in
        ap (λ k. if not (eqb (var_of l) (var_of k)) then Err TwoPivots else only_pivot f (Some k) ms) e
        ∙ ap (λ b. if not b then Err TwoPivots else only_pivot f (Some l) ms) (self (var_of l)) ∙ ih

one-pivot : (f : ℕ → Option Bool) (l : Lit) (ps : List Lit) → opposed f l ≡ true
    → ((m : Lit) → has ps m ≡ true → opposed f m ≡ true → m ≡ l) → has ps l ≡ true → only_pivot f None ps ≡ Ok l
one-pivot f l [] o a h = absurd (false≢true h)
one-pivot f l (m ∷ ms) o a h =
    let more = λ (k : Lit) (g : has ms k ≡ true). a k (or_right (lit_eq m k) (has ms k) g) in
    go (opposed f m) refl (kept-pivot f l ms more) (λ g. one-pivot f l ms o more g)
  where
    go : (t : Bool) → opposed f m ≡ t → only_pivot f (Some l) ms ≡ Ok l → (has ms l ≡ true → only_pivot f None ms ≡ Ok l)
        → then_pivot f None m ms t ≡ Ok l
    go true q kept ih = ap (λ k. only_pivot f (Some k) ms) (a m (first-has m ms) q) ∙ kept
    go false q kept ih = ih (rest-has m l ms (apart f m l q o) h)

second-pivot : (f : ℕ → Option Bool) (p t : Lit) (ps : List Lit) → opposed f t ≡ true → var_of p ≢ var_of t → has ps t ≡ true
    → only_pivot f (Some p) ps ≡ Err TwoPivots
second-pivot f p t [] o n h = absurd (false≢true h)
second-pivot f p t (m ∷ ms) o n h = go (opposed f m) refl (λ q a b. second-pivot f q t ms o a b)
  where
    by : (b : Bool) → eqb (var_of p) (var_of m) ≡ b → (b ≡ true → only_pivot f (Some m) ms ≡ Err TwoPivots)
        → (if not b then Err TwoPivots else only_pivot f (Some m) ms) ≡ Err TwoPivots
    by true q ih = ih refl
    by false q ih = refl

    same : eqb (var_of p) (var_of m) ≡ true → var_of p ≡ var_of m
    same q = elim (eqb_tells (var_of p) (var_of m)) [ inl r ↦ r.1 | inr r ↦ absurd (false≢true (sym r.0 ∙ q)) ]

    go : (b : Bool) → opposed f m ≡ b
        → ((q : Lit) → var_of q ≢ var_of t → has ms t ≡ true → only_pivot f (Some q) ms ≡ Err TwoPivots)
        → then_pivot f (Some p) m ms b ≡ Err TwoPivots
    go true q ih = by (eqb (var_of p) (var_of m)) refl (λ r. ih m (λ d. n (same r ∙ d)) (rest-has m t ms (λ d. n (same r ∙ ap var_of d)) h))
    go false q ih = ih p n (rest-has m t ms (apart f m t q o) h)

two-pivots : (f : ℕ → Option Bool) (l k : Lit) (ps : List Lit) → opposed f l ≡ true → opposed f k ≡ true → var_of l ≢ var_of k
    → has ps l ≡ true → has ps k ≡ true → only_pivot f None ps ≡ Err TwoPivots
two-pivots f l k [] o r n h g = absurd (false≢true h)
two-pivots f l k (m ∷ ms) o r n h g = go (opposed f m) refl (λ a b. two-pivots f l k ms o r n a b)
  where
    go : (b : Bool) → opposed f m ≡ b → (has ms l ≡ true → has ms k ≡ true → only_pivot f None ms ≡ Err TwoPivots)
        → then_pivot f None m ms b ≡ Err TwoPivots
    go true q ih = elim (eqb_tells (var_of m) (var_of l)) [
      | inl e ↦ second-pivot f m k ms r (λ d. n (sym e.1 ∙ d)) (rest-has m k ms (λ d. n (sym e.1 ∙ ap var_of d)) g)
      | inr e ↦ second-pivot f m l ms o e.1 (rest-has m l ms (λ d. e.1 (ap var_of d)) h)
    ]
    go false q ih = ih (rest-has m l ms (apart f m l q o) h) (rest-has m k ms (apart f m k q r) g)

-- the pivot among enough literals is the clause's
pub pivot-same : (f : ℕ → Option Bool) (c parts : List Lit) → IsClause c → IsEnough f c parts
    → only_pivot f None parts ≡ only_one (clashes f c)
pivot-same f c parts i e = by (clashes f c) refl
  where
    there : (d : List Lit) (m : Lit) → clashes f c ≡ d → has parts m ≡ true → opposed f m ≡ true → has d m ≡ true
    there d m q h o = subst (λ z. has z m ≡ true) q (clash-in f c m (e.0 m h) o)

    part : (d : List Lit) (m : Lit) → clashes f c ≡ d → has d m ≡ true → (has parts m ≡ true) × (opposed f m ≡ true)
    part d m q h = let r = in-clash f c m (subst (λ z. has z m ≡ true) (sym q) h) in (clash-part f c parts m e r.0 r.1, r.1)

    none : clashes f c ≡ [] → (m : Lit) → has parts m ≡ true → (b : Bool) → opposed f m ≡ b → opposed f m ≡ false
    none q m h true o = absurd (false≢true (there [] m q h o))
    none q m h false o = o

    only : (l : Lit) → clashes f c ≡ l ∷ [] → (m : Lit) → has parts m ≡ true → opposed f m ≡ true → m ≡ l
    only l q m h o = elim (or_cases (lit_eq l m) false (there (l ∷ []) m q h o)) [
      | inl p ↦ sym (same_lit l m p)
      | inr p ↦ absurd (false≢true p)
    ]

    by : (d : List Lit) → clashes f c ≡ d → only_pivot f None parts ≡ only_one d
    by [] q = no-pivot f parts (λ m h. none q m h (opposed f m) refl)
    by (l ∷ []) q =
        let p = part (l ∷ []) l q (first-has l []) in
        one-pivot f l parts p.1 (only l q) p.0
    by (l ∷ k ∷ d) q =
        let p = part (l ∷ k ∷ d) l q (first-has l (k ∷ d)) in
        let r = part (l ∷ k ∷ d) k q (or_right (lit_eq l k) (has (k ∷ d) k) (first-has k d)) in
        let below : var_of l < var_of k = (subst IsClause q (clashes-clause f c i)).0.0 in
        two-pivots f l k parts p.1 r.1 (λ s. absurd (omega (arith, s, below))) p.0 r.0

-- what enough literals put over the signs is what the clause does
abbrev Stands : (ℕ → Option Bool) → List Lit → List Lit → ℕ → Type 0
Stands f c ps x = (f x ≡ over (sign_in c x) (f x)) ⊎ ((v : Bool) × (has ps (lit x v) ≡ true))

pub sign-of-lit : (c : List Lit) (m : Lit) → IsClause c → has c m ≡ true → sign_in c (var_of m) ≡ Some m.positive
sign-of-lit c m i h = value-is (sign_in c (var_of m)) m.positive (sym (sign-has c m i) ∙ h)

overlay-part : (c ps : List Lit) (f : ℕ → Option Bool) (x : ℕ) → IsClause c → ((m : Lit) → has ps m ≡ true → has c m ≡ true)
    → Stands f c ps x → overlay ps f x ≡ over (sign_in c x) (f x)
overlay-part c [] f x i a (inl e) = e
overlay-part c [] f x i a (inr r) = absurd (false≢true r.1)
overlay-part c (m ∷ ms) f x i a s =
    let g = with_sign f (var_of m) (Some m.positive) in
    let ih = λ (t : Stands g c ms x). overlay-part c ms g x i (λ k h. a k (or_right (lit_eq m k) (has ms k) h)) t in
    elim (eqb_tells (var_of m) x) [ inl q ↦ on q.0 q.1 ih | inr q ↦ off q.0 q.1 ih ]
  where
    g : ℕ → Option Bool
    g = with_sign f (var_of m) (Some m.positive)

    on : eqb (var_of m) x ≡ true → var_of m ≡ x → (Stands g c ms x → overlay ms g x ≡ over (sign_in c x) (g x))
        → overlay ms g x ≡ over (sign_in c x) (f x)
    on b e ih =
        let here : g x ≡ Some m.positive = ap (λ t. if t then Some m.positive else f x) b in
        let sign : sign_in c x ≡ Some m.positive =
        subst (λ z. sign_in c z ≡ Some m.positive) e (sign-of-lit c m i (a m (first-has m ms))) in
        ih (inl (here ∙ sym (ap (λ o. over o (g x)) sign))) ∙ ap (λ o. over o (g x)) sign ∙ sym (ap (λ o. over o (f x)) sign)

    off : eqb (var_of m) x ≡ false → var_of m ≢ x → (Stands g c ms x → overlay ms g x ≡ over (sign_in c x) (g x))
        → overlay ms g x ≡ over (sign_in c x) (f x)
    off b n ih = let here : g x ≡ f x = ap (λ t. if t then Some m.positive else f x) b in
        ih (by s here) ∙ ap (over (sign_in c x)) here
      where
        by : Stands f c (m ∷ ms) x → g x ≡ f x → Stands g c ms x
        by (inl e) h = inl (h ∙ e ∙ ap (over (sign_in c x)) (sym h))
        by (inr r) h = inr (r.0, rest-has m (lit x r.0) ms (λ d. n (ap var_of d)) r.1)

pub overlay-same-part : (c parts : List Lit) (f : ℕ → Option Bool) (x : ℕ) → IsClause c → IsEnough f c parts
    → overlay parts f x ≡ overlay c f x
overlay-same-part c parts f x i e = overlay-part c parts f x i e.0 (by (sign_in c x) refl) ∙ sym (overlay-sign c f x i)
  where
    by : (o : Option Bool) → sign_in c x ≡ o → Stands f c parts x
    by None q = inl (sym (ap (λ o. over o (f x)) q))
    by (Some v) q = elim (e.1 (lit x v) (sign-has c (lit x v) i ∙ ap (λ o. is_bit_value o v) q ∙ beq-refl v)) [
      | inl h ↦ inl (h ∙ sym (ap (λ o. over o (f x)) q))
      | inr h ↦ inr (v, h)
    ]

-- all literals are enough
pub enough-all : (f : ℕ → Option Bool) (c : List Lit) → IsEnough f c c
enough-all f c = ((λ m h. h), (λ m h. inr h))

-- the loop's steps
pivot-step : (f : ℕ → Option Bool) (o : Option Lit) (xs : List Lit) (i : ℕ) (d : Lit) → i < length xs
    → only_pivot f o (drop i xs) ≡ then_pivot f o (slice_index_or xs i d) (drop (i + 1) xs) (opposed f (slice_index_or xs i d))
pivot-step f o xs i d h = ap (only_pivot f o) (drop_more xs i d h)

pub pivot-twice : (f : ℕ → Option Bool) (o : Option Lit) (xs : List Lit) (i : ℕ) (d : Lit) → i < length xs
    → only_pivot f o (drop i xs) ≡ only_pivot f None xs → opposed f (slice_index_or xs i d) ≡ true
    → is_other o (slice_index_or xs i d) ≡ true → Err TwoPivots ≡ only_pivot f None xs
pivot-twice f o xs i d h e q r =
    let m = slice_index_or xs i d in
    let ms = drop (i + 1) xs in
    sym (sym e ∙ pivot-step f o xs i d h ∙ ap (then_pivot f o m ms) q
    ∙ ap (λ b. if b then Err TwoPivots else only_pivot f (Some m) ms) r)

pub pivot-found : (f : ℕ → Option Bool) (o : Option Lit) (xs : List Lit) (i : ℕ) (d : Lit) → i < length xs
    → only_pivot f o (drop i xs) ≡ only_pivot f None xs → opposed f (slice_index_or xs i d) ≡ true
    → is_other o (slice_index_or xs i d) ≡ false → only_pivot f (Some (slice_index_or xs i d)) (drop (i + 1) xs) ≡ only_pivot f None xs
pivot-found f o xs i d h e q r =
    let m = slice_index_or xs i d in
    let ms = drop (i + 1) xs in
    sym (pivot-step f o xs i d h ∙ ap (then_pivot f o m ms) q
    ∙ ap (λ b. if b then Err TwoPivots else only_pivot f (Some m) ms) r) ∙ e

pub pivot-passed : (f : ℕ → Option Bool) (o : Option Lit) (xs : List Lit) (i : ℕ) (d : Lit) → i < length xs
    → only_pivot f o (drop i xs) ≡ only_pivot f None xs → opposed f (slice_index_or xs i d) ≡ false
    → only_pivot f o (drop (i + 1) xs) ≡ only_pivot f None xs
pivot-passed f o xs i d h e q =
    let m = slice_index_or xs i d in
    let ms = drop (i + 1) xs in
    sym (pivot-step f o xs i d h ∙ ap (then_pivot f o m ms) q) ∙ e

pub resolved-part : (f n o : ℕ → Option Bool) (c parts : List Lit) (p : Lit) → IsClause c → IsEnough f c parts
    → ((x : ℕ) → n x ≡ overlay parts f x) → ((x : ℕ) → o x ≡ with_sign n (var_of p) None x) → IsResolved f o c p
resolved-part f n o c parts p i e put cut x =
    cut x ∙ ap (λ s. if eqb (var_of p) x then None else s) (put x ∙ overlay-same-part c parts f x i e)
