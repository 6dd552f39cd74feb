-- In a total order fewer come before what is lower.
use Rattle.std.proofs.Common.{◌≡◌, refl, sym, ℕ, zero, suc, ◌+◌, ◌≤◌, ◌<◌, List, [], ◌∷◌, length, Some, None, arith, slice_get, subst, cond, count_by}
use Rattle.std.specs.Ordering.{is_lt}
use Rattle.std.specs.declared.cmp.Ordering.{Ordering}
use Rattle.std.specs.declared.cmp.Ordering.TheVariants.{Less, Equal, Greater}
use Rattle.std.specs.Cmp.{IsTotalOrder, tied_itself}
use Rattle.std.proofs.lemmas.List.Sums.{sum_by-cons}

module _ {K : Type 0} {R : K → K → Ordering} (t : IsTotalOrder R) where
  abbrev one_if : K → K → ℕ
  one_if x other = cond (is_lt (R other x)) 1 0

  abbrev before : K → List K → ℕ
  before x xs = count_by (λ other. is_lt (R other x)) xs

  next : (x y : K) (ys : List K) → before x (y ∷ ys) ≡ one_if x y + before x ys
  next x y ys = sum_by-cons (one_if x) y ys

  one : (x y : K) → R y x ≡ Less → one_if x y ≡ 1
  one x y e = rw e refl

  at-most-one : (x y : K) → one_if x y ≤ 1
  at-most-one x y = go (R y x)
    where
      go : (o : Ordering) → cond (is_lt o) 1 0 ≤ 1
      go Less = omega arith
      go Equal = omega arith
      go Greater = omega arith

  -- what is before the lower one is before the higher one
  le-one : (a b y : K) → R a b ≡ Less → one_if a y ≤ one_if b y
  le-one a b y below = go (R y a) refl
    where
      go : (o : Ordering) → R y a ≡ o → one_if a y ≤ one_if b y
      go Less e = rw (one b y (t.trans y a b e below), e) (omega arith)
      go Equal e = rw e (omega arith)
      go Greater e = rw e (omega arith)

  le : (a b : K) (xs : List K) → R a b ≡ Less → before a xs ≤ before b xs
  le a b [] below = omega arith
  le a b (y ∷ ys) below =
      let first = le-one a b y below in
      let rest = le a b ys below in
      let p = next a y ys in
      let q = next b y ys in omega (arith, first, rest, p, q)

  not-itself : (x : K) → one_if x x ≡ 0
  not-itself x = rw (tied_itself t x) refl

  -- one of them is before the higher one and not before itself
  pub fewer : (a b : K) (xs : List K) (k : ℕ) → slice_get xs k ≡ Some a → R a b ≡ Less → before a xs < before b xs
  fewer a b [] k is below = absurd (let no : None ≡ Some a = is in cc)
  fewer a b (y ∷ ys) zero is below =
      let same : y ≡ a = cc in
      let first : one_if a y ≡ 0 = subst (λ z. one_if a z ≡ 0) (sym same) (not-itself a) in
      let second : one_if b y ≡ 1 = subst (λ z. one_if b z ≡ 1) (sym same) (one b a below) in
      let rest = le a b ys below in
      let p = next a y ys in
      let q = next b y ys in omega (arith, first, second, rest, p, q)
  fewer a b (y ∷ ys) (suc k) is below =
      let first = le-one a b y below in
      let rest = fewer a b ys k is below in
      let p = next a y ys in
      let q = next b y ys in omega (arith, first, rest, p, q)

  le-length : (a : K) (xs : List K) → before a xs ≤ length xs
  le-length a [] = omega arith
  le-length a (y ∷ ys) =
      let first = at-most-one a y in
      let rest = le-length a ys in
      let p = next a y ys in omega (arith, first, rest, p)

  -- so fewer come before one of them than there are
  pub fewer-than-all : (a : K) (xs : List K) (k : ℕ) → slice_get xs k ≡ Some a → before a xs < length xs
  fewer-than-all a [] k is = absurd (let no : None ≡ Some a = is in cc)
  fewer-than-all a (y ∷ ys) zero is =
      let same : y ≡ a = cc in
      let first : one_if a y ≡ 0 = subst (λ z. one_if a z ≡ 0) (sym same) (not-itself a) in
      let rest = le-length a ys in
      let p = next a y ys in omega (arith, first, rest, p)
  fewer-than-all a (y ∷ ys) (suc k) is =
      let first = at-most-one a y in
      let rest = fewer-than-all a ys k is in
      let p = next a y ys in omega (arith, first, rest, p)
