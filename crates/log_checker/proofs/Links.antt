-- The index of the known clauses: places linked in buckets.
use Prim.Native.Nat.{zero, suc}
use Rattle.std.proofs.Common.{◌≡◌, ℕ, ◌+◌, ◌<◌, ◌≤◌, true, false, not, List, [], ◌∷◌, ◌++◌, take, drop, length, get_or, set, replicate, Some, None, refl, sym, ap, ◌∙◌, subst, arith, inl, inr}
use Rattle.std.specs.Prelude.{slice_get, if◌then◌else◌}
use Rattle.std.proofs.lemmas.Bool.Decides.{eqb_tells}
use Rattle.std.proofs.lemmas.List.{length-append, length-set, length-take-le, take-append-le, take_all, take_more, drop_all, append-nil, length-replicate, get_or-replicate, get_or-set_same, get_or-set_other, get_or_append_left}
use Rattle.std.proofs.Math.Seq.{get_or-append_seam}
use Rattle.std.proofs.lemmas.Option.{same_Some, none-some, slice_get-get_or}
use Rattle.clause_store.specs.declared.Lit.{Lit}
use Rattle.log_checker.specs.declared.known.Known.{Known}
use Rattle.log_checker.specs.Links.{bucket_of, slot_of, IsLast, AreLinked, AreIndexed, Notes}

-- the clause at a place of a list with one more
get-front : (ks : List Known) (k : Known) (q : ℕ) → q < length ks → slice_get (ks ++ k ∷ []) q ≡ slice_get ks q
get-front [] k q h = absurd (omega (arith, h))
get-front (e ∷ ks) k zero h = refl
get-front (e ∷ ks) k (suc q) h = get-front ks k q (omega (arith, h))

get-end : (ks : List Known) (k : Known) → slice_get (ks ++ k ∷ []) (length ks) ≡ Some k
get-end [] k = refl
get-end (e ∷ ks) k = get-end ks k

get-last : (ks : List Known) (k : Known) (q : ℕ) → length ks ≡ q → slice_get (ks ++ k ∷ []) q ≡ Some k
get-last ks k q e = subst (λ n. slice_get (ks ++ k ∷ []) n ≡ Some k) e (get-end ks k)

pub slot-within : (h : List Lit → ℕ) (ks : List Known) (p b : ℕ) → slot_of h (slice_get ks p) ≡ Some b → p < length ks
slot-within h [] p b s = absurd (none-some b s)
slot-within h (k ∷ ks) zero b s = omega arith
slot-within h (k ∷ ks) (suc p) b s = let r = slot-within h ks p b s in omega (arith, r)

-- one more clause behind an end, and at an end
last-front : (h : List Lit → ℕ) (ks : List Known) (k : Known) (b end at : ℕ) → end ≤ length ks → IsLast h ks b end at
    → IsLast h (ks ++ k ∷ []) b end at
last-front h ks k b end at w l = (
  l.0,
  (λ p e. ap (slot_of h) (get-front ks k p (omega (arith, l.0, e, w))) ∙ l.1 p e),
  (λ q lo hi s. l.2 q lo hi (sym (ap (slot_of h) (get-front ks k q (omega (arith, hi, w)))) ∙ s)),
)

last-other : (h : List Lit → ℕ) (ks : List Known) (k : Known) (b at : ℕ) → (slot_of h (Some k) ≡ Some b → ⊥) → IsLast h ks b (length ks) at
    → IsLast h (ks ++ k ∷ []) b (length (ks ++ k ∷ [])) at
last-other h ks k b at d l = (omega (arith, l.0, length-append ks (k ∷ [])), front.1, none)
  where
    front : IsLast h (ks ++ k ∷ []) b (length ks) at
    front = last-front h ks k b (length ks) at (omega arith) l

    none : (q : ℕ) → at ≤ q → q < length (ks ++ k ∷ []) → slot_of h (slice_get (ks ++ k ∷ []) q) ≡ Some b → ⊥
    none q lo hi s = elim (eqb_tells (length ks) q) [
      | inl p ↦ d (sym (ap (slot_of h) (get-last ks k q p.1)) ∙ s)
      | inr p ↦ front.2 q lo (omega (arith, hi, p.1, length-append ks (k ∷ []))) s
    ]

last-own : (h : List Lit → ℕ) (ks : List Known) (k : Known) (b at : ℕ) → slot_of h (Some k) ≡ Some b → at ≡ length ks + 1
    → IsLast h (ks ++ k ∷ []) b (length (ks ++ k ∷ [])) at
last-own h ks k b at e a = (
  omega (arith, a, length-append ks (k ∷ [])),
  (λ p q. ap (slot_of h) (get-last ks k p (omega (arith, a, q))) ∙ e),
  (λ q lo hi s. absurd (omega (arith, a, lo, hi, length-append ks (k ∷ [])))),
)

-- the link of a place before the last one
link-front : (h : List Lit → ℕ) (links : List ℕ) (ks : List Known) (k : Known) (x p b : ℕ) → length links ≡ length ks
    → ((p b : ℕ) → slot_of h (slice_get ks p) ≡ Some b → IsLast h ks b p (get_or links p 0)) → p < length ks
    → slot_of h (slice_get (ks ++ k ∷ []) p) ≡ Some b → IsLast h (ks ++ k ∷ []) b p (get_or (links ++ x ∷ []) p 0)
link-front h links ks k x p b n f w s =
    subst (IsLast h (ks ++ k ∷ []) b p) (sym (get_or_append_left links (x ∷ []) 0 p (omega (arith, n, w)))) (
    last-front h ks k b p (get_or links p 0) (omega (arith, w)) (f p b (sym (ap (slot_of h) (get-front ks k p w)) ∙ s)))

-- another clause stands at the end of its bucket
linked-own : (h : List Lit → ℕ) (heads links : List ℕ) (ks : List Known) (k : Known) (b next : ℕ) → AreLinked h heads links ks
    → slot_of h (Some k) ≡ Some b → b < length heads → next ≡ length links + 1
    → AreLinked h (set heads b next) (links ++ get_or heads b 0 ∷ []) (ks ++ k ∷ [])
linked-own h heads links ks k b next a e w m = (
  tops,
  omega (arith, a.1, length-append links (x ∷ []), length-append ks (k ∷ [])),
  befores,
)
  where
    x : ℕ
    x = get_or heads b 0

    tops : (j : ℕ) → j < length (set heads b next) → IsLast h (ks ++ k ∷ []) j (length (ks ++ k ∷ [])) (get_or (set heads b next) j 0)
    tops j i = elim (eqb_tells b j) [
      | inl p ↦ subst (λ n. IsLast h (ks ++ k ∷ []) n (length (ks ++ k ∷ [])) (get_or (set heads b next) n 0)) p.1 (
          subst (IsLast h (ks ++ k ∷ []) b (length (ks ++ k ∷ []))) (sym (get_or-set_same heads b next 0 w)) (
          last-own h ks k b next e (omega (arith, m, a.1))))
      | inr p ↦ subst (IsLast h (ks ++ k ∷ []) j (length (ks ++ k ∷ []))) (sym (get_or-set_other heads b j next 0 (λ q. p.1 (sym q)))) (
          last-other h ks k j (get_or heads j 0) (λ q. p.1 (same_Some b j (sym e ∙ q)))
          (a.0 j (subst (λ n. j < n) (length-set heads b next) i)))
    ]

    own : (c : ℕ) → slot_of h (slice_get (ks ++ k ∷ []) (length ks)) ≡ Some c
        → IsLast h (ks ++ k ∷ []) c (length ks) (get_or (links ++ x ∷ []) (length ks) 0)
    own c s = subst (IsLast h (ks ++ k ∷ []) c (length ks))
        (sym (ap (λ n. get_or (links ++ x ∷ []) n 0) (sym a.1) ∙ get_or-append_seam links x [] 0)) (
        subst (λ d. IsLast h (ks ++ k ∷ []) d (length ks) x)
        (same_Some b c (sym e ∙ sym (ap (slot_of h) (get-end ks k)) ∙ s))
        (last-front h ks k b (length ks) x (omega arith) (a.0 b w)))

    befores : (p c : ℕ) → slot_of h (slice_get (ks ++ k ∷ []) p) ≡ Some c → IsLast h (ks ++ k ∷ []) c p (get_or (links ++ x ∷ []) p 0)
    befores p c s = elim (eqb_tells (length ks) p) [
      | inl q ↦ subst (λ n. IsLast h (ks ++ k ∷ []) c n (get_or (links ++ x ∷ []) n 0)) q.1 (
          own c (subst (λ n. slot_of h (slice_get (ks ++ k ∷ []) n) ≡ Some c) (sym q.1) s))
      | inr q ↦ link-front h links ks k x p c a.1 a.2
          (omega (arith, q.1, slot-within h (ks ++ k ∷ []) p c s, length-append ks (k ∷ []))) s
    ]

-- the clause of a bit stands in no bucket
linked-bit : (h : List Lit → ℕ) (heads links : List ℕ) (ks : List Known) (k : Known) → AreLinked h heads links ks
    → slot_of h (Some k) ≡ None → AreLinked h heads (links ++ 0 ∷ []) (ks ++ k ∷ [])
linked-bit h heads links ks k a e = (
  (λ j i. last-other h ks k j (get_or heads j 0) (λ q. none-some j (sym e ∙ q)) (a.0 j i)),
  omega (arith, a.1, length-append links (0 ∷ []), length-append ks (k ∷ [])),
  befores,
)
  where
    befores : (p c : ℕ) → slot_of h (slice_get (ks ++ k ∷ []) p) ≡ Some c → IsLast h (ks ++ k ∷ []) c p (get_or (links ++ 0 ∷ []) p 0)
    befores p c s = elim (eqb_tells (length ks) p) [
      | inl q ↦ absurd (none-some c (sym e ∙ sym (ap (slot_of h) (get-last ks k p q.1)) ∙ s))
      | inr q ↦ link-front h links ks k 0 p c a.1 a.2
          (omega (arith, q.1, slot-within h (ks ++ k ∷ []) p c s, length-append ks (k ∷ []))) s
    ]

-- noting
slot-bit : (h : List Lit → ℕ) (k : Known) → k.by_bit ≡ true → slot_of h (Some k) ≡ None
slot-bit h k e = ap (λ t. if t then None else Some (h k.clause)) e

slot-own : (h : List Lit → ℕ) (k : Known) → k.by_bit ≡ false → slot_of h (Some k) ≡ Some (h k.clause)
slot-own h k e = ap (λ t. if t then None else Some (h k.clause)) e

pub notes-bit : (factor : ℕ) (heads links : List ℕ) (k : Known) → k.by_bit ≡ true → Notes factor heads links heads (links ++ 0 ∷ []) k
notes-bit factor heads links k e = λ ks a.
    linked-bit (bucket_of factor (length heads)) heads links ks k a (slot-bit (bucket_of factor (length heads)) k e)

pub notes-own : (factor : ℕ) (heads links : List ℕ) (k : Known) (b next : ℕ) → k.by_bit ≡ false
    → b ≡ bucket_of factor (length heads) k.clause → b < length heads → next ≡ length links + 1
    → Notes factor heads links (set heads b next) (links ++ get_or heads b 0 ∷ []) k
notes-own factor heads links k b next e q w m = λ ks a.
    linked-own (bucket_of factor (length heads)) heads links ks k b next a
    (slot-own (bucket_of factor (length heads)) k e ∙ ap Some (sym q)) w m

pub indexed-more : (factor : ℕ) (heads links heads_new links_new : List ℕ) (ks : List Known) (at : ℕ) (k : Known)
    → at < length ks → slice_get ks at ≡ Some k → at ≡ length links → length heads_new ≡ length heads
    → Notes factor heads links heads_new links_new k → AreIndexed factor heads links ks
    → (at + 1 ≡ length links_new) × AreIndexed factor heads_new links_new ks
indexed-more factor heads links heads_new links_new ks at k h e q n f i = (
  sym count,
  (
    omega (arith, count, h),
    subst (λ m. AreLinked (bucket_of factor m) heads_new links_new (take (length links_new) ks)) (sym n) (
        subst (AreLinked (bucket_of factor (length heads)) heads_new links_new) (sym (ap (λ m. take m ks) count ∙ more)) noted),
  ),
)
  where
    more : take (at + 1) ks ≡ take (length links) ks ++ k ∷ []
    more = take_more ks at k h ∙ ap (λ x. take at ks ++ x ∷ []) (sym (same_Some k (get_or ks at k) (sym e ∙ slice_get-get_or ks at k h)))
        ∙ ap (λ m. take m ks ++ k ∷ []) q

    noted : AreLinked (bucket_of factor (length heads)) heads_new links_new (take (length links) ks ++ k ∷ [])
    noted = f (take (length links) ks) i.1

    count : length links_new ≡ at + 1
    count = noted.1 ∙ sym (ap length more) ∙ length-take-le (at + 1) ks (omega (arith, h))

-- nothing was noted
take-none : (ks : List Known) → take 0 ks ≡ []
take-none [] = refl
take-none (k ∷ ks) = refl

linked-none : (h : List Lit → ℕ) (heads : List ℕ) → ((b : ℕ) → b < length heads → get_or heads b 0 ≡ 0) → AreLinked h heads [] []
linked-none h heads z = (
  (λ b i. subst (IsLast h [] b 0) (sym (z b i)) (
    omega arith,
    (λ p e. absurd (omega (arith, e))),
    (λ q lo hi s. absurd (omega (arith, hi))),
  )),
  refl,
  (λ p b s. absurd (none-some b s)),
)

pub indexed-none : (factor : ℕ) (heads links : List ℕ) (ks : List Known) → links ≡ [] → ((b : ℕ) → b < length heads → get_or heads b 0 ≡ 0)
    → AreIndexed factor heads links ks
indexed-none factor heads links ks e z =
    subst (λ ls. AreIndexed factor heads ls ks) (sym e) (
      omega arith,
      subst (AreLinked (bucket_of factor (length heads)) heads []) (sym (take-none ks))
          (linked-none (bucket_of factor (length heads)) heads z),
    )

-- one more clause that is not noted yet
pub indexed-push : (factor : ℕ) (heads links : List ℕ) (ks : List Known) (k : Known) → AreIndexed factor heads links ks
    → AreIndexed factor heads links (ks ++ k ∷ [])
indexed-push factor heads links ks k i = (
  omega (arith, i.0, length-append ks (k ∷ [])),
  subst (AreLinked (bucket_of factor (length heads)) heads links) (sym (take-append-le (length links) ks (k ∷ []) i.0)) i.1,
)

-- all were noted
pub indexed-all : (factor : ℕ) (heads links : List ℕ) (ks : List Known) → AreIndexed factor heads links ks → length links ≡ length ks
    → AreLinked (bucket_of factor (length heads)) heads links ks
indexed-all factor heads links ks i e =
    subst (AreLinked (bucket_of factor (length heads)) heads links) (take_all (length links) ks (omega (arith, e))) i.1

-- buckets that were just made are empty
pub zeros : (heads : List ℕ) (n : ℕ) → heads ≡ replicate n 0 → (b : ℕ) → b < length heads → get_or heads b 0 ≡ 0
zeros heads n e b i = ap (λ hs. get_or hs b 0) e
    ∙ get_or-replicate n b 0 0 (omega (arith, i, ap length e, length-replicate {A = ℕ} n 0))

-- buckets that were written through a slice of all of them
written : (n : ℕ) (new old : List ℕ) → length new ≡ length old → length old ≤ n → take n (new ++ drop (length new) old) ≡ new
written n new old e w = ap (λ rest. take n (new ++ rest)) (drop_all (length new) old (omega (arith, e))) ∙ ap (take n) (append-nil new)
    ∙ take_all n new (omega (arith, e, w))

pub indexed-written : (factor n : ℕ) (new old links : List ℕ) (ks : List Known) → length new ≡ length old → length old ≤ n → 0 < length old
    → AreIndexed factor new links ks
    → (0 < length (take n (new ++ drop (length new) old))) × AreIndexed factor (take n (new ++ drop (length new) old)) links ks
indexed-written factor n new old links ks e w z i =
    subst (λ hs. (0 < length hs) × AreIndexed factor hs links ks) (sym (written n new old e w)) (omega (arith, e, z), i)

pub linked-written : (factor n : ℕ) (new old links heads nexts : List ℕ) (ks all : List Known) → length new ≡ length old → length old ≤ n
    → heads ≡ take n (new ++ drop (length new) old) → nexts ≡ links → all ≡ ks → AreIndexed factor new links ks → length links ≡ length ks
    → AreLinked (bucket_of factor (length heads)) heads nexts all
linked-written factor n new old links heads nexts ks all e w eh el ek i c =
    subst (λ h. AreLinked (bucket_of factor (length h)) h nexts all) (sym (eh ∙ written n new old e w)) (
    subst (λ l. AreLinked (bucket_of factor (length new)) new l all) (sym el) (
    subst (AreLinked (bucket_of factor (length new)) new links) (sym ek) (indexed-all factor new links ks i c)))
