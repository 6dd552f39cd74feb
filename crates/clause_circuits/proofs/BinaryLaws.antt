-- Numbers that bits spell, and literals for bits.
use Rattle.std.proofs.Common.{◌≡◌, ℕ, zero, suc, ◌+◌, ◌*◌, ◌/◌, ◌^◌, ◌<◌, ◌≤◌, Bool, true, false, List, [], ◌∷◌, ◌++◌, length, map, reverse, eqb, Option, Some, None, refl, sym, ap, ◌∙◌, inl, inr, arith, pow-suc}
use Rattle.std.proofs.lemmas.Bool.{cases_Bool, eqb-true}
use Rattle.std.proofs.lemmas.List.{reverse-append, map-append}
use Rattle.clause_store.specs.declared.Lit.{Lit}
use Rattle.clause_store.specs.Lits.{lit_true, AllBelow}
use Rattle.clause_circuits.specs.Gates.{Planned, next, with_gate}
use Rattle.clause_circuits.specs.Steps.{Step, FollowsPlan}
use Rattle.clause_circuits.proofs.StepLaws.{Step-refl, Step-trans, Step-gate}
use Rattle.clause_circuits.specs.Cells.{bit, bit_true, Fits, AllFit}
use Rattle.clause_circuits.specs.Shapes.{never}
use Rattle.clause_circuits.specs.Binary.{size_below, size, spell_on, number_after, number}

pub AllBelow-append : (n : ℕ) (ks ls : List Lit) → AllBelow n ks → AllBelow n ls → AllBelow n (ks ++ ls)
AllBelow-append n [] ls a b = b
AllBelow-append n (k ∷ ks) ls a b = (a.0, AllBelow-append n ks ls a.1 b)

-- a bit below a number is below a greater one
pub Fits-more : (m n : ℕ) (b : Option Lit) → m ≤ n → Fits m b → Fits n b
Fits-more m n None h f = tt
Fits-more m n (Some l) h f = omega arith

AllFit-more : (m n : ℕ) (bs : List (Option Lit)) → m ≤ n → AllFit m bs → AllFit n bs
AllFit-more m n [] h f = tt
AllFit-more m n (b ∷ bs) h f = (Fits-more m n b h f.0, AllFit-more m n bs h f.1)

-- sizes are large enough
size_below-is : (k n : ℕ) → n < 2 ^ k → n < 2 ^ size_below k n
size_below-is zero n h = h
size_below-is (suc k) n h =
    elim (cases_Bool (eqb n 0)) [
      | inl t ↦ rw t (omega (arith, eqb-true n 0 t))
      | inr f ↦ let ih : n / 2 < 2 ^ size_below k (n / 2) = size_below-is k (n / 2) (omega (arith, pow-suc 2 k)) in
          rw f (omega (arith, pow-suc 2 (size_below k (n / 2))))
    ]

-- a number is below the power of its size
pub size-is : (n : ℕ) → n < 2 ^ 63 → n < 2 ^ size n
unfolding size
size-is n h = size_below-is 63 n h

-- literals for bits
pub spell_on-is : (p : Planned) (bs : List (Option Lit)) → AllFit (next p) bs → Step p (spell_on p bs).plan
    × AllBelow (next (spell_on p bs).plan) (spell_on p bs).answer
    × ((v : ℕ → Bool) → FollowsPlan v (spell_on p bs).plan → map (lit_true v) (spell_on p bs).answer ≡ map (bit_true v) bs)
spell_on-is p [] f = (Step-refl p, tt, (λ v g. refl))
spell_on-is p (None ∷ bs) f =
    let off = with_gate p never in
    let s : Step p off.plan = Step-gate p never tt (tt, tt) (λ v g. refl) in
    let r = spell_on-is off.plan bs (AllFit-more (next p) (next off.plan) bs s.more f.1) in
    let last = (spell_on off.plan bs).plan in
    (Step-trans p off.plan last s r.0, (omega (arith, r.0.more), r.1), (λ v g. rw ((r.0.follows v g).0, r.2 v g) refl))
spell_on-is p (Some l ∷ bs) f =
    let r = spell_on-is p bs f.1 in
    (r.0, (omega (arith, f.0, r.0.more), r.1), (λ v g. ap (λ xs. lit_true v l ∷ xs) (r.2 v g)))

pub reverse-cons : {A : Type 0} (x : A) (xs : List A) → reverse (x ∷ xs) ≡ reverse xs ++ x ∷ []
reverse-cons x xs = reverse-append (x ∷ []) xs

pub map-reverse : {A B : Type 0} (f : A → B) (xs : List A) → map f (reverse xs) ≡ reverse (map f xs)
map-reverse f [] = refl
map-reverse f (x ∷ xs) = ap (map f) (reverse-cons x xs) ∙ map-append f (reverse xs) (x ∷ [])
    ∙ rw (map-reverse f xs) (sym (reverse-cons (f x) (map f xs)))

pub AllBelow-reverse : (n : ℕ) (ls : List Lit) → AllBelow n ls → AllBelow n (reverse ls)
AllBelow-reverse n [] b = tt
AllBelow-reverse n (l ∷ ls) b = rw (reverse-cons l ls) (AllBelow-append n (reverse ls) (l ∷ []) (AllBelow-reverse n ls b.1) (b.0, tt))

-- digits in front, and how large a number of digits can be
pub number_after-is : (n : ℕ) (bs : List Bool) → number_after n bs ≡ n * 2 ^ length bs + number bs
number_after-is n [] = omega arith
number_after-is n (b ∷ bs) = rw (pow-suc 2 (length bs)) (omega (arith, number_after-is (2 * n + bit b) bs, number_after-is (0 + bit b) bs))

-- bits spell a number below the power of their count
pub number-small : (bs : List Bool) → number bs < 2 ^ length bs
number-small [] = omega arith
number-small (true ∷ bs) = omega (arith, number_after-is (0 + 1) bs, number-small bs, pow-suc 2 (length bs))
number-small (false ∷ bs) = omega (arith, number_after-is (0 + 0) bs, number-small bs, pow-suc 2 (length bs))
