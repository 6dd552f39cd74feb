-- What composed formulas say.
use Rattle.std.proofs.Common.{◌≡◌, ◌↔◌, ℕ, zero, suc, ◌+◌, ◌-◌, ◌*◌, ◌^◌, ◌<◌, Bool, true, false, not, cond, ◌&&◌, ◌||◌, List, [], ◌∷◌, length, map, leb, ltb, drop, ◌⊎◌, inl, inr, refl, sym, ap, ◌∙◌, arith}
use Rattle.std.specs.List.{list_all}
use Rattle.std.proofs.lemmas.Bool.{cases_Bool, or_cases, or_left, or_right, and_parts, and_from, not-true, false≢true, leb-true, leb-false, ltb-true, lt-ltb}
use Rattle.std.proofs.Math.Nat.{pow-suc}
use Rattle.std.proofs.lemmas.List.{length-map}
use Rattle.clause_formulas.specs.Statements.{Statement, or, eval, opposite, any_statement, both_statements, implication_of}
use Rattle.clause_formulas.proofs.Words.{eval-opposite, eval-both}
use Rattle.level_encoding.specs.Composed.{rising, digit_row}

-- where both are said each is
pub both-parts : (v : ℕ → Bool) (f g : Statement) → eval v (both_statements f g) ≡ true → (eval v f ≡ true) × (eval v g ≡ true)
both-parts v f g h = and_parts (eval v f) (eval v g) (sym (eval-both v f g) ∙ h)

-- and the other way round
pub both-from : (v : ℕ → Bool) (f g : Statement) → eval v f ≡ true → eval v g ≡ true → eval v (both_statements f g) ≡ true
both-from v f g a b = eval-both v f g ∙ and_from (eval v f) (eval v g) a b

-- a formula and its opposite are not both true
pub opposite-at : (v : ℕ → Bool) (f : Statement) → eval v (opposite f) ≡ true → eval v f ≡ true → ⊥
opposite-at v f h t = false≢true (sym (not-true (eval v f) (sym (eval-opposite v f) ∙ h)) ∙ t)

-- the opposite is true where the formula is not
pub opposite-from : (v : ℕ → Bool) (f : Statement) → (eval v f ≡ true → ⊥) → eval v (opposite f) ≡ true
opposite-from v f h = eval-opposite v f ∙ by-bool (eval v f) refl
  where
    by-bool : (b : Bool) → eval v f ≡ b → not b ≡ true
    by-bool true e = absurd (h e)
    by-bool false e = refl

-- what follows is true
pub implies-at : (v : ℕ → Bool) (f g : Statement) → eval v (implication_of f g) ≡ true → eval v f ≡ true → eval v g ≡ true
implies-at v f g h t =
    elim (or_cases (eval v (opposite f)) (eval v g || false) h) [
      | inl a ↦ absurd (opposite-at v f a t)
      | inr a ↦ elim (or_cases (eval v g) false a) [ inl b ↦ b | inr b ↦ absurd (false≢true b) ]
    ]

-- and the other way round
pub implies-from : (v : ℕ → Bool) (f g : Statement) → (eval v f ≡ true → eval v g ≡ true) → eval v (implication_of f g) ≡ true
implies-from v f g h =
    elim (cases_Bool (eval v f)) [
      | inl t ↦ or_right (eval v (opposite f)) (eval v g || false) (or_left (eval v g) false (h t))
      | inr e ↦ or_left (eval v (opposite f)) (eval v g || false) (opposite-from v f (λ t. false≢true (sym e ∙ t)))
    ]

-- a first formula, or one of the others
pub first-or : (v : ℕ → Bool) (f g : Statement) → (eval v f ≡ true → eval v g ≡ true) → eval v (or (opposite f) g) ≡ true
first-or v f g h = elim (cases_Bool (eval v f)) [
  | inl t ↦ or_right (eval v (opposite f)) (eval v g) (h t)
  | inr e ↦ or_left (eval v (opposite f)) (eval v g) (opposite-from v f (λ t. false≢true (sym e ∙ t)))
]

-- of a false formula or another, the other is true
pub first-or-at : (v : ℕ → Bool) (f g : Statement) → eval v (or (opposite f) g) ≡ true → eval v f ≡ true → eval v g ≡ true
first-or-at v f g h t = elim (or_cases (eval v (opposite f)) (eval v g) h) [ inl a ↦ absurd (opposite-at v f a t) | inr a ↦ a ]

-- binary numbers, the highest digit first
pub number : List Bool → ℕ
number [] = 0
number (b ∷ bs) = cond b (2 ^ length bs) 0 + number bs

number-small : (bs : List Bool) → number bs < 2 ^ length bs
unfolding number
number-small [] = omega arith
number-small (b ∷ bs) = let h = number-small bs in rw pow-suc (part b h)
  where
    part : (b : Bool) → number bs < 2 ^ length bs → cond b (2 ^ length bs) 0 + number bs < 2 ^ length bs * 2
    part true h = omega (arith, h)
    part false h = omega (arith, h)

-- the binary digits of a number, the highest first
pub digits_of : ℕ → ℕ → List Bool
digits_of zero x = []
digits_of (suc w) x = leb (2 ^ w) x ∷ digits_of w (x - cond (leb (2 ^ w) x) (2 ^ w) 0)

pub length-digits_of : (w x : ℕ) → length (digits_of w x) ≡ w
unfolding digits_of
length-digits_of zero x = refl
length-digits_of (suc w) x = ap suc (length-digits_of w (x - cond (leb (2 ^ w) x) (2 ^ w) 0))

-- they spell it
pub number-digits_of : (w x : ℕ) → x < 2 ^ w → number (digits_of w x) ≡ x
unfolding number digits_of
number-digits_of zero x h = omega (arith, h)
number-digits_of (suc w) x h =
    by-bool (leb (2 ^ w) x) refl (number-digits_of w)
  where
    by-bool : (b : Bool) → leb (2 ^ w) x ≡ b → ((y : ℕ) → y < 2 ^ w → number (digits_of w y) ≡ y)
        → cond b (2 ^ length (digits_of w (x - cond b (2 ^ w) 0))) 0 + number (digits_of w (x - cond b (2 ^ w) 0)) ≡ x
    by-bool true e ih = let le = leb-true (2 ^ w) x e in let b : x < 2 ^ w * 2 = rw pow-suc at h in
        rw (length-digits_of w (x - 2 ^ w)) (omega (arith, le, ih (x - 2 ^ w) (omega (arith, b, le))))
    by-bool false e ih = omega (arith, ih (x - 0) (omega (arith, leb-false (2 ^ w) x e)))

-- clauses of two and three formulas whose first one is met
two-at : (v : ℕ → Bool) (r g : Statement) → eval v (any_statement (opposite r ∷ g ∷ [])) ≡ true → eval v r ≡ true → eval v g ≡ true
two-at v r g h t = elim (or_cases (eval v g) false (first-or-at v r (any_statement (g ∷ [])) h t)) [
  | inl x ↦ x
  | inr x ↦
      absurd (false≢true x)
]

two-from : (v : ℕ → Bool) (r g : Statement) → (eval v r ≡ true → eval v g ≡ true) → eval v (any_statement (opposite r ∷ g ∷ [])) ≡ true
two-from v r g h = first-or v r (any_statement (g ∷ [])) (λ t. or_left (eval v g) false (h t))

three-at : (v : ℕ → Bool) (r f g : Statement) → eval v (any_statement (opposite r ∷ f ∷ g ∷ [])) ≡ true → eval v r ≡ true
    → (eval v f ≡ true)
    ⊎ (eval v g ≡ true)
three-at v r f g h t = elim (or_cases (eval v f) (eval v g || false) (first-or-at v r (any_statement (f ∷ g ∷ [])) h t)) [
  | inl x ↦ inl x
  | inr x ↦
      elim (or_cases (eval v g) false x) [ inl y ↦ inr y | inr y ↦ absurd (false≢true y) ]
]

three-from : (v : ℕ → Bool) (r f g : Statement) → (eval v r ≡ true → (eval v f ≡ true) ⊎ (eval v g ≡ true))
    → eval v (any_statement (opposite r ∷ f ∷ g ∷ [])) ≡ true
three-from v r f g h = first-or v r (any_statement (f ∷ g ∷ []))
    (λ t. elim (h t) [
      | inl x ↦ or_left (eval v f) (eval v g || false) x
      | inr x ↦
          or_right (eval v f) (eval v g || false) (or_left (eval v g) false x)
    ])

-- the number that digits show
abbrev pub shown : (ℕ → Bool) → List Statement → ℕ
shown v fs = number (map (eval v) fs)

-- where no digit decides, the others do
digit-less : (a b : Bool) (x y m : ℕ) → x < m → y < m → ((a ≡ true → ⊥) ⊎ (b ≡ true)) → ((a ≡ true → ⊥) ⊎ (x < y)) → ((b ≡ true) ⊎ (x < y))
    → cond a m 0 + x < cond b m 0 + y
digit-less true true x y m k l p q r = elim q [ inl n ↦ absurd (n refl) | inr h ↦ omega (arith, h) ]
digit-less true false x y m k l p q r = elim p [ inl n ↦ absurd (n refl) | inr h ↦ absurd (false≢true h) ]
digit-less false true x y m k l p q r = omega arith
digit-less false false x y m k l p q r = elim r [ inl h ↦ absurd (false≢true h) | inr h ↦ omega (arith, h) ]

-- and back: a smaller number has no larger first digit, and only equal ones leave it to the others
less-digit : (a b : Bool) (x y m : ℕ) → x < m → y < m → cond a m 0 + x < cond b m 0 + y → ((a ≡ false) ⊎ (b ≡ true))
    × ((a ≡ false) ⊎ (x < y)) × ((b ≡ true) ⊎ (x < y))
less-digit true true x y m k l h = (inr refl, inr (omega (arith, h)), inl refl)
less-digit true false x y m k l h = absurd (omega (arith, h))
less-digit false true x y m k l h = (inl refl, inl refl, inl refl)
less-digit false false x y m k l h = (inl refl, inl refl, inr (omega (arith, h)))

tails : (v : ℕ → Bool) (f g : Statement) (fs gs : List Statement) → length (f ∷ fs) ≡ length (g ∷ gs)
    → length (map (eval v) fs) ≡ length (map (eval v) gs)
tails v f g fs gs e = length-map fs (eval v) ∙ (let t : length fs ≡ length gs = omega (arith, e) in t) ∙ sym (length-map gs (eval v))

small : (v : ℕ → Bool) (f g : Statement) (fs gs : List Statement) → length (f ∷ fs) ≡ length (g ∷ gs)
    → shown v fs < 2 ^ length (map (eval v) gs)
small v f g fs gs e = rw (← tails v f g fs gs e) (number-small (map (eval v) fs))

-- where the rules hold the first number is smaller
pub rising-at : (v : ℕ → Bool) (r : Statement) (fs gs ts : List Statement) → length fs ≡ length gs → length ts ≡ length fs - 1
    → list_all (eval v) (rising r fs gs ts) ≡ true → eval v r ≡ true → shown v fs < shown v gs
unfolding rising number
rising-at v r [] gs ts e n m h = absurd (opposite-at v r (and_parts (eval v (opposite r)) true m).0 h)
rising-at v r (f ∷ fs) [] ts e n m h = absurd (omega (arith, e))
rising-at v r (f ∷ fs) (g ∷ gs) [] e n m h =
    let p = and_parts (eval v (any_statement (opposite r ∷ opposite f ∷ []))) (eval v (any_statement (opposite r ∷ g ∷ [])) && true) m in
    let met = two-at v r g (and_parts (eval v (any_statement (opposite r ∷ g ∷ []))) true p.1).0 h in
    rw (tails v f g fs gs e) (digit-less (eval v f) (eval v g) (shown v fs) (shown v gs) (2 ^ length (map (eval v) gs))
    (small v f g fs gs e) (number-small (map (eval v) gs))
    (inr met) (inl (opposite-at v f (two-at v r (opposite f) p.0 h))) (inl met))
rising-at v r (f ∷ fs) (g ∷ gs) (t ∷ ts) e n m h =
    let p = and_parts (eval v (any_statement (opposite r ∷ opposite f ∷ g ∷ []))) (eval v (any_statement (opposite r ∷ opposite f ∷ t ∷ []))
    && (eval v (any_statement (opposite r ∷ g ∷ t ∷ [])) && list_all (eval v) (rising t fs gs ts))) m in
    let q = and_parts (eval v (any_statement (opposite r ∷ opposite f ∷ t ∷ []))) (eval v (any_statement (opposite r ∷ g ∷ t ∷ []))
    && list_all (eval v) (rising t fs gs ts)) p.1 in
    let u = and_parts (eval v (any_statement (opposite r ∷ g ∷ t ∷ []))) (list_all (eval v) (rising t fs gs ts)) q.1 in
    let others : eval v t ≡ true → shown v fs < shown v gs = rising-at v t fs gs ts (omega (arith, e)) (omega (arith, n)) u.1 in
    rw (tails v f g fs gs e) (digit-less (eval v f) (eval v g) (shown v fs) (shown v gs) (2 ^ length (map (eval v) gs))
    (small v f g fs gs e) (number-small (map (eval v) gs))
    (elim (three-at v r (opposite f) g p.0 h) [ inl x ↦ inl (opposite-at v f x) | inr x ↦ inr x ])
    (elim (three-at v r (opposite f) t q.0 h) [ inl x ↦ inl (opposite-at v f x) | inr x ↦ inr (others x) ])
    (elim (three-at v r g t u.0 h) [ inl x ↦ inl x | inr x ↦ inr (others x) ]))

-- each turn is true exactly where the digits behind its place make the first number smaller
abbrev pub Turns : (ℕ → Bool) → List Statement → List Statement → List Statement → Type 0
Turns v (f ∷ fs) (g ∷ gs) (t ∷ ts) = ((eval v t ≡ true) ↔ (shown v fs < shown v gs)) × Turns v fs gs ts
Turns v _ _ _ = Unit {0}

untrue : (v : ℕ → Bool) (f : Statement) → eval v f ≡ false → eval v (opposite f) ≡ true
untrue v f e = opposite-from v f (λ t. false≢true (sym e ∙ t))

first-digit : (v : ℕ → Bool) (r f g : Statement) (fs gs : List Statement) → length (f ∷ fs) ≡ length (g ∷ gs)
    → (eval v r ≡ true → shown v (f ∷ fs) < shown v (g ∷ gs)) → eval v r ≡ true → ((eval v f ≡ false) ⊎ (eval v g ≡ true))
    × ((eval v f ≡ false) ⊎ (shown v fs < shown v gs)) × ((eval v g ≡ true) ⊎ (shown v fs < shown v gs))
unfolding number
first-digit v r f g fs gs e h t = less-digit (eval v f) (eval v g) (shown v fs) (shown v gs) (2 ^ length (map (eval v) gs))
    (small v f g fs gs e) (number-small (map (eval v) gs)) (rw (tails v f g fs gs e) at (h t))

-- where it is, the turns can be chosen so that the rules hold
pub rising-from : (v : ℕ → Bool) (r : Statement) (fs gs ts : List Statement) → length fs ≡ length gs → length ts ≡ length fs - 1
    → Turns v fs gs ts → (eval v r ≡ true → shown v fs < shown v gs) → list_all (eval v) (rising r fs gs ts) ≡ true
unfolding rising number
rising-from v r [] [] ts e n m h = and_from (eval v (opposite r)) true (opposite-from v r (λ t. absurd (omega (arith, h t)))) refl
rising-from v r [] (g ∷ gs) ts e n m h = absurd (omega (arith, e))
rising-from v r (f ∷ fs) [] ts e n m h = absurd (omega (arith, e))
rising-from v r (f ∷ fs) (g ∷ gs) [] e n m h =
    let d = first-digit v r f g fs gs e h in
    let z : length (map (eval v) gs) ≡ 0 = length-map gs (eval v) ∙ omega (arith, e, n) in
    let none : shown v gs < 2 ^ 0 = rw z at (number-small (map (eval v) gs)) in
    and_from (eval v (any_statement (opposite r ∷ opposite f ∷ []))) (eval v (any_statement (opposite r ∷ g ∷ [])) && true)
    (two-from v r (opposite f) (λ t. elim (d t).1 [ inl x ↦ untrue v f x | inr x ↦ absurd (omega (arith, none, x)) ]))
    (and_from (eval v (any_statement (opposite r ∷ g ∷ []))) true
    (two-from v r g (λ t. elim (d t).2 [ inl x ↦ x | inr x ↦ absurd (omega (arith, none, x)) ])) refl)
rising-from v r (f ∷ fs) (g ∷ gs) (t ∷ ts) e n m h =
    let d = first-digit v r f g fs gs e h in
    and_from (eval v (any_statement (opposite r ∷ opposite f ∷ g ∷ []))) (eval v (any_statement (opposite r ∷ opposite f ∷ t ∷ []))
    && (eval v (any_statement (opposite r ∷ g ∷ t ∷ [])) && list_all (eval v) (rising t fs gs ts)))
    (three-from v r (opposite f) g (λ u. elim (d u).0 [ inl x ↦ inl (untrue v f x) | inr x ↦ inr x ]))
    (and_from (eval v (any_statement (opposite r ∷ opposite f ∷ t ∷ []))) (eval v (any_statement (opposite r ∷ g ∷ t ∷ []))
    && list_all (eval v) (rising t fs gs ts))
    (three-from v r (opposite f) t (λ u. elim (d u).1 [ inl x ↦ inl (untrue v f x) | inr x ↦ inr (m.0.1 x) ]))
    (and_from (eval v (any_statement (opposite r ∷ g ∷ t ∷ []))) (list_all (eval v) (rising t fs gs ts))
    (three-from v r g t (λ u. elim (d u).2 [ inl x ↦ inl x | inr x ↦ inr (m.0.1 x) ]))
    (rising-from v t fs gs ts (omega (arith, e)) (omega (arith, n)) m.1 m.0.0)))

-- turns that say whether what follows is smaller
pub turns-from : (v : ℕ → Bool) (fs gs : List Statement) (x n : ℕ)
    → ((k : ℕ) → k < n → v (x + k) ≡ ltb (number (drop (suc k) (map (eval v) fs))) (number (drop (suc k) (map (eval v) gs))))
    → Turns v fs gs (digit_row x n)
turns-from v [] gs x n h = tt
turns-from v (f ∷ fs) [] x n h = tt
turns-from v (f ∷ fs) (g ∷ gs) x zero h = tt
turns-from v (f ∷ fs) (g ∷ gs) x (suc n) h =
    let a : x + 0 ≡ x = omega arith in
    let e : v x ≡ ltb (shown v fs) (shown v gs) = ap v (sym a) ∙ h 0 (omega arith) in (
      ((λ t. ltb-true (shown v fs) (shown v gs) (sym e ∙ t)), λ l. e ∙ lt-ltb (shown v fs) (shown v gs) l),
      turns-from v fs gs (x + 1) n (λ k l. let b : x + 1 + k ≡ x + suc k = omega arith in ap v b ∙ h (suc k) (omega (arith, l))),
    )
