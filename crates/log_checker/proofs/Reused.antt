-- What is kept of the steps of a chain.
use Rattle.std.proofs.Common.{◌≡◌, ◌≢◌, ◌⊎◌, ℕ, suc, ◌+◌, ◌<◌, ◌≤◌, Bool, true, false, not, List, [], ◌∷◌, ◌++◌, drop, length, Option, Some, None, inl, inr, refl, sym, ap, ◌∙◌, subst, arith, eqb, cond, append_assoc, slice_get}
use Rattle.std.specs.Prelude.{Ok, slice_index_or, nat_lt, if◌then◌else◌}
use Rattle.std.specs.Ordering.{nat_cmp}
use Rattle.std.specs.BTreeMap.{BTreeMap, Updates}
use Rattle.std.specs.Bool.{beq}
use Rattle.std.proofs.lemmas.Bool.{false≢true, or_cases, or_left, or_right}
use Rattle.std.proofs.lemmas.Bool.Decides.{eqb_tells}
use Rattle.std.proofs.lemmas.Option.{none-some, same_Some}
use Rattle.std.proofs.lemmas.List.{drop_more, drop-append-le, length-append}
use Rattle.clause_store.specs.declared.Lit.{Lit}
use Rattle.clause_store.specs.Lits.{var_of, has, lit_eq, place_of, IsClause, AllAbove}
use Rattle.clause_store.proofs.Sets.{same_lit, lit_eq-refl}
use Rattle.proof_log.proofs.Counting.{lit}
use Rattle.log_checker.specs.Steps.{is_bit_value}
use Rattle.log_checker.specs.Signs.{sign_in, clashes, only_one, overlay, stands}
use Rattle.log_checker.specs.Uses.{Used, last_at, IsSince, IsNoted, IsStep, IsKeptOf, IsEnough, IsResolved, lit_at, with_found, lits_at}
use Rattle.log_checker.proofs.Clashes.{sign-has, over, overlay-sign}
use Rattle.log_checker.proofs.Values.{beq-refl}
use Rattle.log_checker.proofs.Marks.{is_eq-nat_cmp, cond-if, listed-last}
use Rattle.log_checker.proofs.Parts.{clash-in, sign-of-lit}

-- the literal of a variable
pub at-has : (c : List Lit) (x : ℕ) (l : Lit) → lit_at c x ≡ Some l → has c l ≡ true
at-has [] x l e = absurd (none-some l e)
at-has (k ∷ ks) x l e = go (eqb (var_of k) x) (λ h. at-has ks x l h) e
  where
    go : (b : Bool) → (lit_at ks x ≡ Some l → has ks l ≡ true) → (if b then Some k else lit_at ks x) ≡ Some l → has (k ∷ ks) l ≡ true
    go true ih h = or_left (lit_eq k l) (has ks l) (subst (λ z. lit_eq k z ≡ true) (same_Some k l h) (lit_eq-refl k))
    go false ih h = or_right (lit_eq k l) (has ks l) (ih h)

above-apart : (n : ℕ) (c : List Lit) (m : Lit) → AllAbove n c → has c m ≡ true → n < var_of m
above-apart n [] m a h = absurd (false≢true h)
above-apart n (k ∷ ks) m a h = elim (or_cases (lit_eq k m) (has ks m) h) [
  | inl p ↦ subst (λ z. n < var_of z) (same_lit k m p) a.0
  | inr p ↦ above-apart n ks m a.1 p
]

pub at-is : (c : List Lit) (m : Lit) → IsClause c → has c m ≡ true → lit_at c (var_of m) ≡ Some m
at-is [] m i h = absurd (false≢true h)
at-is (k ∷ ks) m i h = elim (or_cases (lit_eq k m) (has ks m) h) [
  | inl p ↦ elim (eqb_tells (var_of k) (var_of m)) [
    | inl q ↦ ap (λ b. if b then Some k else lit_at ks (var_of m)) q.0 ∙ ap Some (same_lit k m p)
    | inr q ↦ absurd (q.1 (ap var_of (same_lit k m p)))
  ]
  | inr p ↦ elim (eqb_tells (var_of k) (var_of m)) [
    | inl q ↦ absurd (omega (arith, q.1, above-apart (var_of k) ks m i.0 p))
    | inr q ↦ ap (λ b. if b then Some k else lit_at ks (var_of m)) q.0 ∙ at-is ks m i.1 p
  ]
]

at-below : (n : ℕ) (c : List Lit) (x : ℕ) → AllAbove n c → x ≤ n → lit_at c x ≡ None
at-below n [] x a h = refl
at-below n (k ∷ ks) x a h = elim (eqb_tells (var_of k) x) [
  | inl q ↦ absurd (omega (arith, q.1, a.0, h))
  | inr q ↦ ap (λ b. if b then Some k else lit_at ks x) q.0 ∙ at-below n ks x a.1 h
]

-- it stands at its place, or nowhere
abbrev pub if_at : ℕ → Option Lit → Option Lit
if_at x None = None
if_at x (Some k) = if eqb (var_of k) x then Some k else None

pub at-place : (c : List Lit) (l : Lit) → IsClause c → lit_at c (var_of l) ≡ if_at (var_of l) (slice_get c (place_of c l))
at-place [] l i = refl
at-place (k ∷ ks) l i = go (nat_lt (var_of k) (var_of l)) refl (at-place ks l i.1)
  where
    here : (b : Bool) → eqb (var_of k) (var_of l) ≡ b → (b ≡ false → lit_at ks (var_of l) ≡ None)
        → (if b then Some k else lit_at ks (var_of l)) ≡ (if b then Some k else None)
    here true q n = refl
    here false q n = n refl

    apart : var_of k < var_of l → eqb (var_of k) (var_of l) ≡ false
    apart h = elim (eqb_tells (var_of k) (var_of l)) [ inl q ↦ absurd (omega (arith, q.1, h)) | inr q ↦ q.0 ]

    below : nat_lt (var_of k) (var_of l) ≡ true → var_of k < var_of l
    below q = grind (arith, q)

    above : nat_lt (var_of k) (var_of l) ≡ false → var_of l ≤ var_of k
    above q = grind (arith, q)

    go : (b : Bool) → nat_lt (var_of k) (var_of l) ≡ b → lit_at ks (var_of l) ≡ if_at (var_of l) (slice_get ks (place_of ks l))
        → lit_at (k ∷ ks) (var_of l) ≡ if_at (var_of l) (slice_get (k ∷ ks) (if b then suc (place_of ks l) else 0))
    go true q ih = ap (λ b. if b then Some k else lit_at ks (var_of l)) (apart (below q)) ∙ ih
    go false q ih = here (eqb (var_of k) (var_of l)) refl (λ e. at-below (var_of k) ks (var_of l) i.0 (above q))

module _ (c : List Lit) (x i : ℕ) (order : IsClause c) (place : i ≡ place_of c (lit x true)) where
  its : lit_at c x ≡ if_at x (slice_get c i)
  its = at-place c (lit x true) order ∙ ap (λ n. if_at x (slice_get c n)) (sym place)

  pub at-found : (k : Lit) → slice_get c i ≡ Some k → eqb (var_of k) x ≡ true → Some k ≡ lit_at c x
  at-found k e q = sym (its ∙ ap (if_at x) e ∙ ap (λ b. if b then Some k else None) q)

  pub at-other : (k : Lit) → slice_get c i ≡ Some k → eqb (var_of k) x ≡ false → None ≡ lit_at c x
  at-other k e q = sym (its ∙ ap (if_at x) e ∙ ap (λ b. if b then Some k else None) q)

  pub at-none : slice_get c i ≡ None → None ≡ lit_at c x
  at-none e = sym (its ∙ ap (if_at x) e)

-- the literals of variables
found-has : (c : List Lit) (xs : List ℕ) (m : Lit) → has (lits_at c xs) m ≡ true → has c m ≡ true
found-has c [] m h = absurd (false≢true h)
found-has c (x ∷ xs) m h = go (lit_at c x) refl (λ g. found-has c xs m g) h
  where
    go : (o : Option Lit) → lit_at c x ≡ o → (has (lits_at c xs) m ≡ true → has c m ≡ true)
        → has (with_found o (lits_at c xs)) m ≡ true → has c m ≡ true
    go None q ih g = ih g
    go (Some l) q ih g = elim (or_cases (lit_eq l m) (has (lits_at c xs) m) g) [
      | inl p ↦ subst (λ z. has c z ≡ true) (same_lit l m p) (at-has c x l q)
      | inr p ↦ ih p
    ]

has-found : (c : List Lit) (xs : List ℕ) (m : Lit) → IsClause c → has c m ≡ true → stands xs (var_of m) ≡ true
    → has (lits_at c xs) m ≡ true
has-found c [] m i h l = absurd (false≢true l)
has-found c (x ∷ xs) m i h l = elim (or_cases (eqb x (var_of m)) (stands xs (var_of m)) l) [
  | inl p ↦ here (elim (eqb_tells x (var_of m)) [ inl q ↦ q.1 | inr q ↦ absurd (false≢true (sym q.0 ∙ p)) ])
  | inr p ↦ later (lit_at c x) (has-found c xs m i h p)
]
  where
    here : x ≡ var_of m → has (with_found (lit_at c x) (lits_at c xs)) m ≡ true
    here e = subst (λ o. has (with_found o (lits_at c xs)) m ≡ true) (sym (ap (lit_at c) e ∙ at-is c m i h))
        (or_left (lit_eq m m) (has (lits_at c xs) m) (lit_eq-refl m))

    later : (o : Option Lit) → has (lits_at c xs) m ≡ true → has (with_found o (lits_at c xs)) m ≡ true
    later None g = g
    later (Some l) g = or_right (lit_eq l m) (has (lits_at c xs) m) g

-- those of the pivots since the last use are enough
pub enough-since : (u : Used) (f : ℕ → Option Bool) (id : ℕ) (c parts : List Lit) (vars : List ℕ) → IsClause c → IsKeptOf u f id c
    → IsSince u id vars → parts ≡ lits_at c vars → IsEnough f c parts
enough-since u f id c parts vars i kept s e =
    let g = kept s.0 s.1 in (
      (λ m h. found-has c vars m (subst (λ z. has z m ≡ true) e h)),
      (λ m h. elim (g.1 m h) [
        | inl q ↦ inl q
        | inr q ↦ inr (subst (λ z. has z m ≡ true) (sym e)
            (has-found c vars m i h (subst (λ z. stands z (var_of m) ≡ true) (sym s.2) q)))
      ]),
    )

-- the pivot is the only clash
only-clash : (p : Lit) (d : List Lit) (m : Lit) → Ok p ≡ only_one d → has d m ≡ true → var_of p ≡ var_of m
only-clash p [] m e h = absurd (false≢true h)
only-clash p (l ∷ k ∷ d) m e h = cc
only-clash p (l ∷ []) m e h = elim (or_cases (lit_eq l m) false h) [
  | inl q ↦ ap var_of pivot ∙ ap var_of (same_lit l m q)
  | inr q ↦ absurd (false≢true q)
]
  where
    pivot : p ≡ l
    pivot = cc

listed-in-front : (xs ys : List ℕ) (k x : ℕ) → k ≤ length xs → stands (drop k xs) x ≡ true → stands (drop k (xs ++ ys)) x ≡ true
listed-in-front xs ys k x h l = subst (λ z. stands z x ≡ true) (sym (drop-append-le k xs ys h)) (more (drop k xs) l)
  where
    more : (zs : List ℕ) → stands zs x ≡ true → stands (zs ++ ys) x ≡ true
    more [] l = absurd (false≢true l)
    more (z ∷ zs) l = elim (or_cases (eqb z x) (stands zs x) l) [
      | inl p ↦ or_left (eqb z x) (stands (zs ++ ys) x) p
      | inr p ↦ or_right (eqb z x) (stands (zs ++ ys) x) (more zs p)
    ]

listed-behind : (xs : List ℕ) (k y x : ℕ) → k ≤ length xs → eqb y x ≡ true → stands (drop k (xs ++ y ∷ [])) x ≡ true
listed-behind xs k y x h q = subst (λ z. stands z x ≡ true) (sym (drop-append-le k xs (y ∷ []) h)) (listed-last (drop k xs) y x q)

-- a step of a chain keeps what is kept of each clause
module _ (u v : Used) (f g : ℕ → Option Bool) (id : ℕ) (c : List Lit) (p : Lit) (i : IsClause c) (pivot : Ok p ≡ only_one (clashes f c))
    (resolved : IsResolved f g c p) (step : IsStep u v id (var_of p)) where
  sign-left : (x : ℕ) → eqb (var_of p) x ≡ false → g x ≡ over (sign_in c x) (f x)
  sign-left x q = resolved x ∙ ap (λ b. if b then None else overlay c f x) q ∙ overlay-sign c f x i

  bound : (k : ℕ) → k ≤ length u.pivots → k ≤ length v.pivots
  bound k h = omega (arith, h, ap length step.0, length-append u.pivots (var_of p ∷ []))

  -- a literal that had its sign keeps it, but for the pivot
  sign-stays : (m : Lit) → f (var_of m) ≡ Some m.positive → eqb (var_of p) (var_of m) ≡ false → g (var_of m) ≡ Some m.positive
  sign-stays m e q = sign-left (var_of m) q ∙ by (sign_in c (var_of m)) refl
    where
      clash : (s : Bool) → sign_in c (var_of m) ≡ Some s → s ≡ not m.positive → ⊥
      clash s r t = elim (eqb_tells (var_of p) (var_of m)) [
        | inl z ↦ false≢true (sym q ∙ z.0)
        | inr z ↦ z.1 (only-clash p (clashes f c) (lit (var_of m) s) pivot (clash-in f c (lit (var_of m) s)
            (sign-has c (lit (var_of m) s) i ∙ ap (λ o. is_bit_value o s) r ∙ beq-refl s)
            (ap (λ o. is_bit_value o (not s)) e ∙ turned s m.positive t)))
      ]
        where
          turned : (s w : Bool) → s ≡ not w → beq w (not s) ≡ true
          turned true true t = absurd (false≢true (sym t))
          turned true false t = refl
          turned false true t = refl
          turned false false t = absurd (false≢true t)

      sign : (s w : Bool) → (s ≡ not w → ⊥) → s ≡ w
      sign true true n = refl
      sign true false n = absurd (n refl)
      sign false true n = absurd (n refl)
      sign false false n = refl

      by : (o : Option Bool) → sign_in c (var_of m) ≡ o → over o (f (var_of m)) ≡ Some m.positive
      by None r = e
      by (Some s) r = ap Some (sign s m.positive (clash s r))

  kept-old : (j k : ℕ) (d : List Lit) → last_at u.last j ≡ Some k → IsKeptOf u f j d → (k ≤ length v.pivots)
      × ((m : Lit) → has d m ≡ true → (g (var_of m) ≡ Some m.positive) ⊎ (stands (drop k v.pivots) (var_of m) ≡ true))
  kept-old j k d e kept =
      let a = kept k e in
      (bound k a.0, (λ m h. by m (a.0) (a.1 m h) (eqb (var_of p) (var_of m)) refl))
    where
      by : (m : Lit) → k ≤ length u.pivots → (f (var_of m) ≡ Some m.positive) ⊎ (stands (drop k u.pivots) (var_of m) ≡ true)
          → (b : Bool) → eqb (var_of p) (var_of m) ≡ b
          → (g (var_of m) ≡ Some m.positive) ⊎ (stands (drop k v.pivots) (var_of m) ≡ true)
      by m n (inl h) true q = inr (subst (λ z. stands (drop k z) (var_of m) ≡ true) (sym step.0)
          (listed-behind u.pivots k (var_of p) (var_of m) n q))
      by m n (inl h) false q = inl (sign-stays m h q)
      by m n (inr h) b q = inr (subst (λ z. stands (drop k z) (var_of m) ≡ true) (sym step.0)
          (listed-in-front u.pivots (var_of p ∷ []) k (var_of m) n h))

  kept-new : (k : ℕ) → k ≡ length u.pivots → (k ≤ length v.pivots)
      × ((m : Lit) → has c m ≡ true → (g (var_of m) ≡ Some m.positive) ⊎ (stands (drop k v.pivots) (var_of m) ≡ true))
  kept-new k e = (bound k within, (λ m h. by m h (eqb (var_of p) (var_of m)) refl))
    where
      within : k ≤ length u.pivots
      within = omega (arith, e)

      by : (m : Lit) → has c m ≡ true → (b : Bool) → eqb (var_of p) (var_of m) ≡ b
          → (g (var_of m) ≡ Some m.positive) ⊎ (stands (drop k v.pivots) (var_of m) ≡ true)
      by m h true q = inr (subst (λ z. stands (drop k z) (var_of m) ≡ true) (sym step.0)
          (listed-behind u.pivots k (var_of p) (var_of m) within q))
      by m h false q = inl (sign-left (var_of m) q ∙ ap (λ o. over o (f (var_of m))) (sign-of-lit c m i h))

  pub kept-step : (clause : ℕ → List Lit) → c ≡ clause id → ((j : ℕ) → IsKeptOf u f j (clause j)) → (j : ℕ) → IsKeptOf v g j (clause j)
  kept-step clause e kept j k h = elim (step.1 j k h) [
    | inl q ↦ kept-old j k (clause j) q (kept j)
    | inr q ↦ let n = kept-new k q.1 in
        (n.0, (λ m r. n.1 m (subst (λ z. has z m ≡ true) (ap clause q.0 ∙ sym e) r)))
  ]

-- before the first step nothing is kept
pub kept-none : (f : ℕ → Option Bool) (clause : ℕ → List Lit) (u : Used) → u ≡ record { pivots = []; last = [] } → (j : ℕ)
    → IsKeptOf u f j (clause j)
kept-none f clause u e j k h = absurd (none-some k (sym (ap (λ (w : Used). last_at w.last j) e) ∙ h))

-- one more use is noted in the map
pub noted-put : (m n : BTreeMap ℕ ℕ) (id k : ℕ) → Updates nat_cmp m n id (Some k) → IsNoted m.entries n.entries id k
noted-put m n id k up j a h = go (eqb id j) refl
    (sym (up.0 j ∙ ap (λ b. cond b (Some k) (last_at m.entries j)) (is_eq-nat_cmp id j) ∙ cond-if (eqb id j) (Some k) (last_at m.entries j))
    ∙ h)
  where
    go : (b : Bool) → eqb id j ≡ b → (if b then Some k else last_at m.entries j) ≡ Some a → (last_at m.entries j ≡ Some a)
        ⊎ ((j ≡ id) × (a ≡ k))
    go true q g = inr (elim (eqb_tells id j) [ inl r ↦ sym r.1 | inr r ↦ absurd (false≢true (sym r.0 ∙ q)) ], sym (same_Some k a g))
    go false q g = inl g

-- the loop's steps
pub found-step : (c : List Lit) (found new : List Lit) (xs : List ℕ) (i d : ℕ) (o : Option Lit) → i < length xs
    → o ≡ lit_at c (slice_index_or xs i d) → new ≡ found ++ with_found o [] → found ++ lits_at c (drop i xs) ≡ lits_at c xs
    → new ++ lits_at c (drop (i + 1) xs) ≡ lits_at c xs
found-step c found new xs i d o h e n q =
    ap (λ z. z ++ lits_at c (drop (i + 1) xs)) n ∙ append_assoc found (with_found o []) (lits_at c (drop (i + 1) xs))
    ∙ ap (λ z. found ++ z) (front o (lits_at c (drop (i + 1) xs)) ∙ ap (λ z. with_found z (lits_at c (drop (i + 1) xs))) e
    ∙ sym (ap (lits_at c) (drop_more xs i d h))) ∙ q
  where
    front : (o : Option Lit) (ls : List Lit) → with_found o [] ++ ls ≡ with_found o ls
    front None ls = refl
    front (Some l) ls = refl
