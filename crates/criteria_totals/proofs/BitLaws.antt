-- The bits of digits spell what the digits do.
use Rattle.std.proofs.Common.{◌≡◌, ℕ, zero, suc, ◌+◌, ◌*◌, ◌^◌, ◌<◌, ◌≤◌, Bool, true, false, not, ◌&&◌, ◌||◌, List, [], ◌∷◌, length, map, take, leb, Option, refl, sym, ◌∙◌, arith, pow-suc}
use Rattle.std.proofs.lemmas.Bool.{le-leb, leb-true, false≢true}
use Rattle.clause_store.specs.declared.Lit.{Lit}
use Rattle.clause_store.specs.Lits.{negation, lit_true, AllBelow}
use Rattle.clause_store.proofs.Meaning.{lit_true-negation}
use Rattle.clause_circuits.specs.Gates.{Planned, next, Agrees, AllClausesBelow}
use Rattle.clause_circuits.specs.Steps.{Step, FollowsPlan}
use Rattle.clause_circuits.specs.Shapes.{both}
use Rattle.clause_circuits.proofs.ShapeLaws.{both-agrees}
use Rattle.clause_circuits.proofs.StepLaws.{Step-refl, Step-trans, Step-gate}
use Rattle.clause_circuits.specs.Cells.{bit, bit_true, count_true, Fits, AllFit}
use Rattle.clause_circuits.specs.Binary.{value}
use Rattle.clause_circuits.proofs.BinaryLaws.{Fits-more}
use Rattle.criteria_totals.specs.Merges.{thresholds, Spells}
use Rattle.criteria_totals.specs.Digits.{worth, one_or_three, low_bit_on, high_bit, bits_on}
use Rattle.criteria_totals.proofs.MergeLaws.{head-same, tail-same}
use Rattle.criteria_totals.proofs.SumLaws.{AllShort, AllSorted, AllClausesBelow-le}

-- sorted literals: none is true where the one before is not
ordered : (v : ℕ → Bool) (a b : Lit) (ls : List Lit) (k n : ℕ) → map (lit_true v) (a ∷ b ∷ ls) ≡ thresholds k (length (a ∷ b ∷ ls)) n
    → lit_true v b ≡ true → lit_true v a ≡ true
ordered v a b ls k n e t =
    let x : lit_true v a ≡ leb k n = head-same _ _ _ _ e in
    let y : lit_true v b ≡ leb (suc k) n = head-same _ _ _ _ (tail-same _ _ _ _ e) in
    x ∙ le-leb k n (omega (arith, leb-true (suc k) n (sym y ∙ t)))

-- a digit's number has two bits
one_or_three-agrees : (v : ℕ → Bool) (a b c : Lit) → Spells v (a ∷ b ∷ c ∷ []) (count_true v (a ∷ b ∷ c ∷ []))
    → Agrees v (one_or_three a b c)
one_or_three-agrees v a b c s =
    let p = ordered v a b (c ∷ []) 1 _ s.0 in
    let q = ordered v b c [] 2 _ (tail-same _ _ _ _ s.0) in
    rw (lit_true-negation v a, lit_true-negation v b, lit_true-negation v c) (table (lit_true v a) (lit_true v b) (lit_true v c) p q)
  where
    table : (x y z : Bool) → (y ≡ true → x ≡ true) → (z ≡ true → y ≡ true)
        → ((not x || (y || false)) && ((not z || false) && true)) ≡ not ((x || false) && ((not y || (z || false)) && true))
    table true true true p q = refl
    table true true false p q = refl
    table true false true p q = absurd (false≢true (q refl))
    table true false false p q = refl
    table false true z p q = absurd (false≢true (p refl))
    table false false true p q = absurd (false≢true (q refl))
    table false false false p q = refl

low_bit-step : (p : Planned) (d : List Lit) → AllBelow (next p) d → length d ≤ 3
    → ((v : ℕ → Bool) → FollowsPlan v p → Spells v d (count_true v d))
    → Step p (low_bit_on p d).plan × Fits (next (low_bit_on p d).plan) (low_bit_on p d).answer
low_bit-step p [] b k s = (Step-refl p, tt)
low_bit-step p (a ∷ []) b k s = (Step-refl p, b.0)
low_bit-step p (a ∷ c ∷ []) b k s =
    (Step-gate p (both a (negation c)) (search arith) (search arith) (λ v f. both-agrees v a (negation c)), omega arith)
low_bit-step p (a ∷ c ∷ d ∷ []) b k s =
    (Step-gate p (one_or_three a c d) (search arith) (search arith) (λ v f. one_or_three-agrees v a c d (s v f)), omega arith)
low_bit-step p (a ∷ c ∷ d ∷ e ∷ ls) b k s = absurd (omega arith)

low_bit-is : (v : ℕ → Bool) (p : Planned) (d : List Lit) → length d ≤ 3 → Spells v d (count_true v d)
    → FollowsPlan v (low_bit_on p d).plan
    → bit (bit_true v (low_bit_on p d).answer) + 2 * bit (bit_true v (high_bit d)) ≡ count_true v d
low_bit-is v p [] k s f = refl
low_bit-is v p (a ∷ []) k s f = omega arith
low_bit-is v p (a ∷ b ∷ []) k s f =
    rw (f.0, lit_true-negation v b) (table (lit_true v a) (lit_true v b) (ordered v a b [] 1 _ s.0))
  where
    table : (x y : Bool) → (y ≡ true → x ≡ true) → bit ((x || false) && ((not y || false) && true)) + 2 * bit y ≡ bit x + (bit y + 0)
    table true true p = refl
    table true false p = refl
    table false true p = absurd (false≢true (p refl))
    table false false p = refl
low_bit-is v p (a ∷ b ∷ c ∷ []) k s f =
    let q = ordered v a b (c ∷ []) 1 _ s.0 in
    let r = ordered v b c [] 2 _ (tail-same _ _ _ _ s.0) in
    rw (f.0, lit_true-negation v b) (table (lit_true v a) (lit_true v b) (lit_true v c) q r)
  where
    table : (x y z : Bool) → (y ≡ true → x ≡ true) → (z ≡ true → y ≡ true)
        → bit ((x || false) && ((not y || (z || false)) && true)) + 2 * bit y ≡ bit x + (bit y + (bit z + 0))
    table true true true p q = refl
    table true true false p q = refl
    table true false true p q = absurd (false≢true (q refl))
    table true false false p q = refl
    table false true z p q = absurd (false≢true (p refl))
    table false false true p q = absurd (false≢true (q refl))
    table false false false p q = refl
low_bit-is v p (a ∷ b ∷ c ∷ d ∷ ls) k s f = absurd (omega arith)

high-fits : (n : ℕ) (d : List Lit) → AllBelow n d → Fits n (high_bit d)
high-fits n [] b = tt
high-fits n (a ∷ []) b = tt
high-fits n (a ∷ c ∷ ls) b = b.1.0

-- the bits of sorted digits
pub bits_on-is : (p : Planned) (ds : List (List Lit)) → AllClausesBelow (next p) ds → AllShort ds
    → ((v : ℕ → Bool) → FollowsPlan v p → AllSorted v ds) → Step p (bits_on p ds).plan
    × AllFit (next (bits_on p ds).plan) (bits_on p ds).answer
    × ((v : ℕ → Bool) → FollowsPlan v (bits_on p ds).plan → value v (bits_on p ds).answer ≡ worth v ds)
bits_on-is p [] b k s = (Step-refl p, tt, (λ v f. refl))
bits_on-is p (d ∷ ds) b k s =
    let low = low_bit_on p d in
    let x = low_bit-step p d b.0 k.0 (λ v f. (s v f).0) in
    let m = bits_on low.plan ds in
    let r = bits_on-is low.plan ds (AllClausesBelow-le (next p) (next low.plan) ds x.0.more b.1) k.1 (λ v f. (s v (x.0.follows v f)).1) in
    let up : next p ≤ next m.plan = omega (arith, x.0.more, r.0.more) in (
      Step-trans p low.plan m.plan x.0 r.0,
      (
        Fits-more (next low.plan) (next m.plan) low.answer r.0.more x.1,
        (Fits-more (next p) (next m.plan) (high_bit d) up (high-fits (next p) d b.0), r.1),
      ),
      (λ v f.
          let g : FollowsPlan v low.plan = r.0.follows v f in
          let e = low_bit-is v p d k.0 (s v (x.0.follows v g)).0 g in
          let ih = r.2 v f in
          omega arith),
    )

-- the lowest bits of a small number are all that it has
pub take-value : (v : ℕ → Bool) (w : ℕ) (bs : List (Option Lit)) → value v bs < 2 ^ w → value v (take w bs) ≡ value v bs
take-value v zero bs h = omega arith
take-value v (suc w) [] h = refl
take-value v (suc w) (b ∷ bs) h =
    let ih = take-value v w bs (omega (arith, pow-suc 2 w)) in omega arith

-- the first bits fit too
pub take-fit : (n w : ℕ) (bs : List (Option Lit)) → AllFit n bs → AllFit n (take w bs)
take-fit n zero bs f = tt
take-fit n (suc w) [] f = tt
take-fit n (suc w) (b ∷ bs) f = (f.0, take-fit n w bs f.1)
