-- The least of two lists of places together, as a loop finds it.
use Rattle.std.proofs.Common.{◌≡◌, refl, sym, ap, ◌∙◌, Bool, true, false, List, [], ◌∷◌, ◌++◌, cond, Option, Some, None}
use Rattle.std.specs.Ordering.{is_lt, nat_cmp, ordering_reverse, ordering_then}
use Rattle.std.specs.declared.cmp.Ordering.{Ordering}
use Rattle.std.specs.declared.cmp.Ordering.TheVariants.{Less, Equal, Greater}
use Rattle.std.specs.Cmp.{IsTotalOrder}
use Rattle.std.specs.Cmp.Lexicographic.{nat_list_cmp_total}
use Rattle.std.proofs.lemmas.Cmp.{nat_cmp_total, on_total, then_total}
use Rattle.problem.specs.OfVariantValues.Texts.{byte_cmp}
use Rattle.graph_rules.specs.Verdict.{Place, lesser, least, lesser_of}

-- ---- an order that is total

module _ {K : Type 0} {R : K → K → Ordering} (t : IsTotalOrder R) where
  before : K → K → Bool
  before a b = is_lt (R a b)

  less : (o : Ordering) → is_lt o ≡ true → o ≡ Less
  less Less h = refl
  less Equal h = cc
  less Greater h = cc

  trans : (a b c : K) → before a b ≡ true → before b c ≡ true → before a c ≡ true
  unfolding before
  trans a b c ab bc = ap is_lt (t.trans a b c (less (R a b) ab) (less (R b c) bc))

  from_before : (a b c : K) (o : Ordering) → R a b ≡ o → is_lt o ≡ false → before b c ≡ false → before a c ≡ false
  unfolding before
  from_before a b c Less e ab bc = absurd cc
  from_before a b c Equal e ab bc = ap is_lt (t.congr a b c e) ∙ bc
  from_before a b c Greater e ab bc = over (R a c) refl
    where
      over : (o : Ordering) → R a c ≡ o → is_lt o ≡ false
      over Less is = absurd (let below : R b c ≡ Less = t.trans b a c (t.antisymm b a ∙ ap ordering_reverse e) is in
          let wrong : true ≡ false = ap is_lt (sym below) ∙ bc in cc)
      over Equal is = refl
      over Greater is = refl

  not_before : (a b c : K) → before a b ≡ false → before b c ≡ false → before a c ≡ false
  unfolding before
  not_before a b c ab bc = from_before a b c (R a b) refl ab bc

  -- the first of the two, unless the second is before it
  first_of : K → K → K
  first_of p q = cond (before q p) q p

  first_of-assoc : (p q r : K) → first_of (first_of p q) r ≡ first_of p (first_of q r)
  unfolding first_of
  first_of-assoc p q r =
      first_of-assoc-cases (before q p) (before r q) (before r p) refl refl refl
    where
      first_of-assoc-cases : (b c d : Bool) → before q p ≡ b → before r q ≡ c → before r p ≡ d
          → cond (before r (cond b q p)) r (cond b q p) ≡ cond (before (cond c r q) p) (cond c r q) p
      first_of-assoc-cases true true d qp rq rp = rw (rq, trans r q p rq qp) refl
      first_of-assoc-cases true false d qp rq rp = rw (rq, qp) refl
      first_of-assoc-cases false true d qp rq rp = refl
      first_of-assoc-cases false false d qp rq rp = rw (qp, not_before r q p rq qp) refl

place_cmp : Place → Place → Ordering
place_cmp a b = ordering_then (byte_cmp a.0 b.0) (nat_cmp a.1 b.1)

place_total : IsTotalOrder place_cmp
unfolding place_cmp
place_total = then_total (on_total (λ (p : Place). p.0) nat_list_cmp_total) (on_total (λ (p : Place). p.1) nat_cmp_total)

lesser-assoc : (p q r : Place) → lesser (lesser p (Some q)) (Some r) ≡ lesser p (Some (lesser q (Some r)))
unfolding place_cmp first_of before
lesser-assoc p q r = first_of-assoc place_total p q r

-- the lesser of three is the same however they are compared
pub lesser_of-assoc : (a b c : Option Place) → lesser_of (lesser_of a b) c ≡ lesser_of a (lesser_of b c)
lesser_of-assoc None b c = refl
lesser_of-assoc (Some p) None c = refl
lesser_of-assoc (Some p) (Some q) None = refl
lesser_of-assoc (Some p) (Some q) (Some r) = ap Some (lesser-assoc p q r)

-- the least of two lists is the lesser of their least
pub least-append : (xs ys : List Place) → least (xs ++ ys) ≡ lesser_of (least xs) (least ys)
least-append [] ys = refl
least-append (p ∷ xs) ys = ap (λ more. Some (lesser p more)) (least-append xs ys) ∙ sym (lesser_of-assoc (Some p) (least xs) (least ys))
