-- How a list of demands is reduced.
use Prim.Native.Nat.{zero, suc}
use Rattle.std.proofs.Common.{◌≡◌, ◌⊎◌, ℕ, ◌<◌, ◌≤◌, Bool, true, false, ◌||◌, ◌&&◌, List, [], ◌∷◌, drop, length, inl, inr, refl, sym, ◌∙◌, subst, ap, arith, cond, eqb, get_or, insert, length-drop}
use Rattle.std.specs.Prelude.{not}
use Rattle.std.specs.List.{filter}
use Rattle.std.proofs.lemmas.Bool.{false≢true, eq-eqb, or_left, or_right, or_cases, and_parts, and_from}
use Rattle.std.proofs.lemmas.Bool.Decides.{eqb_tells}
use Rattle.clause_store.specs.Clauses.{Clauses, Meets}
use Rattle.clause_solver.specs.Models.{values_in}
use Rattle.explain_failure.specs.Uses.{stands, IsRising}
use Rattle.explain_failure.specs.Rising.{with_number}
use Rattle.explain_failure.proofs.Numbers.{stands-with, rising-with}
use Rattle.reason_minimum.specs.Parts.{clauses_for, without_number}
use Rattle.reason_minimum.specs.Least.{IsMinimal, IsUnmet, HaveModels}
use Rattle.reason_minimum.specs.Reductions.{in_either, all_but, IsModelFor, AreModels, IsReduction}
use Rattle.reason_minimum.proofs.Standing.{stands-filter, stands-drop, rising-filter, rising-drop, above-away}
use Rattle.reason_minimum.proofs.Parting.{Meets-less, Meets-down, Meets-part}

left : (a b : Bool) → (a && b) ≡ true → a ≡ true
left a b h = (and_parts a b h).0

right : (a b : Bool) → (a && b) ≡ true → b ≡ true
right a b h = (and_parts a b h).1

-- what stands in either list
either-cases : (xs ys : List ℕ) (d : ℕ) → in_either xs ys d ≡ true → (stands xs d ≡ true) ⊎ (stands ys d ≡ true)
either-cases xs ys d h = or_cases (stands xs d) (stands ys d) h

pub either-more : (xs ys zs : List ℕ) (d : ℕ) → (stands ys d ≡ true → stands zs d ≡ true) → in_either xs ys d ≡ true
    → in_either xs zs d ≡ true
either-more xs ys zs d k h = elim (either-cases xs ys d h) [
  | inl a ↦ or_left (stands xs d) (stands zs d) a
  | inr b ↦ or_right (stands xs d) (stands zs d) (k b)
]

but-less : (a b : ℕ → Bool) (d e : ℕ) → (b e ≡ true → a e ≡ true) → all_but b d e ≡ true → all_but a d e ≡ true
but-less a b d e k h = and_from (a e) (not (eqb d e)) (k (left (b e) (not (eqb d e)) h)) (right (b e) (not (eqb d e)) h)

-- a model of more is one of less
model-less : (s : Clauses) (a b : ℕ → Bool) (m : List Bool) → ((d : ℕ) → b d ≡ true → a d ≡ true) → IsModelFor s a m → IsModelFor s b m
model-less s a b m k i = (i.0, Meets-less a b (values_in m) s.entries k i.1)

pub models-less : (s : Clauses) (a b : ℕ → Bool) (ds : List ℕ) (ms : List (List Bool)) → ((d : ℕ) → b d ≡ true → a d ≡ true)
    → AreModels s a ds ms → AreModels s b ds ms
models-less s a b [] [] k i = tt
models-less s a b [] (m ∷ ms) k i = i
models-less s a b (d ∷ ds) [] k i = i
models-less s a b (d ∷ ds) (m ∷ ms) k i =
    (model-less s (all_but a d) (all_but b d) m (λ e h. but-less a b d e (k e) h) i.0, models-less s a b ds ms k i.1)

-- one model more, at the place of its demand
pub models-insert : (s : Clauses) (asked : ℕ → Bool) (ds : List ℕ) (ms : List (List Bool)) (at d : ℕ) (m : List Bool) → at ≤ length ds
    → AreModels s asked ds ms → IsModelFor s (all_but asked d) m → AreModels s asked (insert ds at d) (insert ms at m)
models-insert s asked ds ms zero d m h i g = (g, i)
models-insert s asked [] ms (suc at) d m h i g = absurd (omega (arith, h))
models-insert s asked (c ∷ ds) [] (suc at) d m h i g = absurd i
models-insert s asked (c ∷ ds) (k ∷ ms) (suc at) d m h i g = (i.0, models-insert s asked ds ms at d m (omega (arith, h)) i.1 g)

-- as many models as demands
pub models-count : (s : Clauses) (asked : ℕ → Bool) (ds : List ℕ) (ms : List (List Bool)) → AreModels s asked ds ms → length ms ≡ length ds
models-count s asked [] [] i = refl
models-count s asked [] (m ∷ ms) i = absurd i
models-count s asked (d ∷ ds) [] i = absurd i
models-count s asked (d ∷ ds) (m ∷ ms) i = ap suc (models-count s asked ds ms i.1)

-- a list that is refuted, at first
pub reduction-first : (s : Clauses) (ds : List ℕ) → IsRising ds → ((v : ℕ → Bool) → Meets (stands ds) v s.entries → ⊥)
    → IsReduction s [] [] ds
reduction-first s ds r u = record {
  rising = tt;
  candidates_rise = r;
  apart = λ d h. refl;
  unmet = λ v m. u v (Meets-less (in_either [] ds) (stands ds) v s.entries (λ d h. h) m);
  each_needed = tt;
}

module _ (s : Clauses) (ns : List ℕ) (ms : List (List Bool)) (cs : List ℕ) (r : IsReduction s ns ms cs) where
  -- the rest is refuted by some of its demands
  module _ (count : ℕ) (rest core : List ℕ) (e : (d : ℕ) → stands rest d ≡ in_either ns (drop count cs) d) where
    abbrev pub kept : List ℕ
    kept = filter (stands core) (drop count cs)

    kept-fewer : (d : ℕ) → stands kept d ≡ true → stands cs d ≡ true
    kept-fewer d h = stands-drop count cs d (left (stands (drop count cs) d) (stands core d)
        (sym (stands-filter (stands core) (drop count cs) d) ∙ h))

    kept-both : (d : ℕ) → stands rest d ≡ true → stands core d ≡ true → in_either ns kept d ≡ true
    kept-both d h g = elim (either-cases ns (drop count cs) d (sym (e d) ∙ h)) [
      | inl a ↦ or_left (stands ns d) (stands kept d) a
      | inr b ↦ or_right (stands ns d) (stands kept d)
          (stands-filter (stands core) (drop count cs) d ∙ and_from (stands (drop count cs) d) (stands core d) b g)
    ]

    pub reduction-kept : ((v : ℕ → Bool) → Meets (stands core) v (clauses_for rest s).entries → ⊥) → IsReduction s ns ms kept
    reduction-kept u = record {
      rising = r.rising;
      candidates_rise = rising-filter (stands core) (drop count cs) (rising-drop count cs r.candidates_rise);
      apart = λ d h. r.apart d (kept-fewer d h);
      unmet = λ v m. u v (Meets-down (stands rest) (stands core) (in_either ns kept) v s.entries kept-both m);
      each_needed = models-less s (in_either ns cs) (in_either ns kept) ns ms (λ d h. either-more ns kept cs d (kept-fewer d) h)
          r.each_needed;
    }

  -- a candidate is needed
  module _ (d : ℕ) (m : List Bool) (c : stands cs d ≡ true) (i : IsModelFor s (all_but (in_either ns cs) d) m) where
    abbrev pub others : List ℕ
    others = without_number d cs

    fewer : (e : ℕ) → stands others e ≡ true → (stands cs e ≡ true) × (eqb d e ≡ false)
    fewer e h =
        let g : (stands cs e && not (eqb d e)) ≡ true = sym (stands-filter (λ x. not (eqb d x)) cs e) ∙ h in
        (left (stands cs e) (not (eqb d e)) g, negated (eqb d e) (right (stands cs e) (not (eqb d e)) g))
      where
        negated : (b : Bool) → not b ≡ true → b ≡ false
        negated true q = absurd (false≢true q)
        negated false q = refl

    -- the list is the same
    same-up : (e : ℕ) → in_either (with_number ns d) others e ≡ true → in_either ns cs e ≡ true
    same-up e h = elim (either-cases (with_number ns d) others e h) [
      | inl a ↦ elim (or_cases (eqb d e) (stands ns e) (sym (stands-with ns d e) ∙ a)) [
        | inl q ↦ or_right (stands ns e) (stands cs e) (elim (eqb_tells d e) [
          | inl t ↦ subst (λ x. stands cs x ≡ true) t.1 c
          | inr t ↦ absurd (false≢true (sym t.0 ∙ q))
        ])
        | inr q ↦ or_left (stands ns e) (stands cs e) q
      ]
      | inr b ↦ or_right (stands ns e) (stands cs e) (fewer e b).0
    ]

    same-down : (e : ℕ) → in_either ns cs e ≡ true → in_either (with_number ns d) others e ≡ true
    same-down e h = elim (either-cases ns cs e h) [
      | inl a ↦ or_left (stands (with_number ns d) e) (stands others e) (stands-with ns d e ∙ or_right (eqb d e) (stands ns e) a)
      | inr b ↦ elim (eqb_tells d e) [
        | inl t ↦ or_left (stands (with_number ns d) e) (stands others e) (stands-with ns d e ∙ or_left (eqb d e) (stands ns e) t.0)
        | inr t ↦ or_right (stands (with_number ns d) e) (stands others e)
            (stands-filter (λ x. not (eqb d x)) cs e ∙ and_from (stands cs e) (not (eqb d e)) b (ap not t.0))
      ]
    ]

    apart-still : (e : ℕ) → stands others e ≡ true → stands (with_number ns d) e ≡ false
    apart-still e h = let f = fewer e h in stands-with ns d e ∙ ap (λ b. b || stands ns e) f.1 ∙ r.apart e f.0

    -- it is put in its place with its model
    pub reduction-settled : (new : List ℕ) (models : List (List Bool)) → new ≡ with_number ns d
        → AreModels s (in_either ns cs) (with_number ns d) models → IsReduction s new models others
    reduction-settled new models q ok = subst (λ xs. IsReduction s xs models others) (sym q) (record {
      rising = rising-with ns d r.rising;
      candidates_rise = rising-filter (λ x. not (eqb d x)) cs r.candidates_rise;
      apart = apart-still;
      unmet = λ v k. r.unmet v (Meets-less (in_either (with_number ns d) others) (in_either ns cs) v s.entries same-down k);
      each_needed = models-less s (in_either ns cs) (in_either (with_number ns d) others) (with_number ns d) models same-up ok;
    })

  -- the first candidate is not in the rest, and with it nothing meets the rest
  pub reduction-spent : (rest : List ℕ) (d : ℕ) → cs ≡ d ∷ drop 1 cs → ((e : ℕ) → stands rest e ≡ in_either ns (drop 1 cs) e)
      → (stands rest d ≡ false) × IsUnmet (clauses_for (d ∷ rest) s)
  reduction-spent rest d q k = (
    k d ∙ ap (λ b. b || stands (drop 1 cs) d) (r.apart d here)
        ∙ above-away d (drop 1 cs) (subst IsRising q r.candidates_rise).0,
    λ v m. r.unmet v (Meets-less (stands (d ∷ rest)) (in_either ns cs) v s.entries more ((Meets-part s (d ∷ rest) v).0 m)),
  )
    where
      here : stands cs d ≡ true
      here = ap (λ xs. stands xs d) q ∙ or_left (eqb d d) (stands (drop 1 cs) d) (eq-eqb d d refl)

      more : (e : ℕ) → in_either ns cs e ≡ true → stands (d ∷ rest) e ≡ true
      more e h = elim (either-cases ns cs e h) [
        | inl a ↦ or_right (eqb d e) (stands rest e) (k e ∙ or_left (stands ns e) (stands (drop 1 cs) e) a)
        | inr b ↦ elim (or_cases (eqb d e) (stands (drop 1 cs) e) (sym (ap (λ xs. stands xs e) q) ∙ b)) [
          | inl t ↦ or_left (eqb d e) (stands rest e) t
          | inr t ↦ or_right (eqb d e) (stands rest e) (k e ∙ or_right (stands ns e) (stands (drop 1 cs) e) t)
        ]
      ]

  -- without candidates the list is least
  pub reduction-minimal : cs ≡ [] → IsMinimal s ns ms
  reduction-minimal q = record {
    rising = r.rising;
    unmet = λ v m. r.unmet v (Meets-less (stands ns) (in_either ns cs) v s.entries from ((Meets-part s ns v).0 m));
    each_needed = have ns ms r.each_needed;
  }
    where
      from : (d : ℕ) → in_either ns cs d ≡ true → stands ns d ≡ true
      from d h = elim (either-cases ns cs d h) [
        | inl a ↦ a
        | inr b ↦ absurd (false≢true (ap (λ xs. stands xs d) (sym q) ∙ b))
      ]

      less : (d e : ℕ) → stands (without_number d ns) e ≡ true → all_but (in_either ns cs) d e ≡ true
      less d e h =
          let g : (stands ns e && not (eqb d e)) ≡ true = sym (stands-filter (λ x. not (eqb d x)) ns e) ∙ h in
          and_from (in_either ns cs e) (not (eqb d e))
          (or_left (stands ns e) (stands cs e) (left (stands ns e) (not (eqb d e)) g))
          (right (stands ns e) (not (eqb d e)) g)

      have : (ds : List ℕ) (ks : List (List Bool)) → AreModels s (in_either ns cs) ds ks → HaveModels s ns ds ks
      have [] [] i = tt
      have [] (k ∷ ks) i = i
      have (d ∷ ds) [] i = i
      have (d ∷ ds) (k ∷ ks) i = (
        (
          i.0.0,
          (Meets-part s (without_number d ns) (values_in k)).1
              (Meets-less (all_but (in_either ns cs) d) (stands (without_number d ns)) (values_in k) s.entries (less d) i.0.1),
        ),
        have ds ks i.1,
      )

-- the first candidate is needed where a model meets all others
pub needed-first : (s : Clauses) (ns cs : List ℕ) (m : List Bool) (d : ℕ) → cs ≡ d ∷ drop 1 cs
    → IsModelFor s (in_either ns (drop 1 cs)) m → (stands cs d ≡ true) × IsModelFor s (all_but (in_either ns cs) d) m
needed-first s ns cs m d q i = (
  ap (λ xs. stands xs d) q ∙ or_left (eqb d d) (stands (drop 1 cs) d) (eq-eqb d d refl),
  model-less s (in_either ns (drop 1 cs)) (all_but (in_either ns cs) d) m less i,
)
  where
    other : (e : ℕ) → eqb d e ≡ true → not (eqb d e) ≡ true → stands (drop 1 cs) e ≡ true
    other e t h = absurd (false≢true (sym (ap not t) ∙ h))

    less : (e : ℕ) → all_but (in_either ns cs) d e ≡ true → in_either ns (drop 1 cs) e ≡ true
    less e h = either-more ns cs (drop 1 cs) e
        (λ b. elim (or_cases (eqb d e) (stands (drop 1 cs) e) (sym (ap (λ xs. stands xs e) q) ∙ b)) [
          | inl t ↦ other e t (right (in_either ns cs e) (not (eqb d e)) h)
          | inr t ↦ t
        ])
        (left (in_either ns cs e) (not (eqb d e)) h)

-- a candidate is needed where a model breaks its clauses alone
pub needed-broken : (s : Clauses) (ns cs all : List ℕ) (m : List Bool) (d : ℕ) → ((e : ℕ) → stands all e ≡ (stands ns e || stands cs e))
    → length m ≡ s.vars → Meets (all_but (stands all) d) (values_in m) s.entries → IsModelFor s (all_but (in_either ns cs) d) m
needed-broken s ns cs all m d k w i = (
  w,
  Meets-less (all_but (stands all) d) (all_but (in_either ns cs) d) (values_in m) s.entries
      (λ e h. but-less (stands all) (in_either ns cs) d e (λ g. k e ∙ g) h) i,
)

-- the list begins with its first number
pub first-of : (xs : List ℕ) (k : ℕ) → 0 < length xs → xs ≡ get_or xs 0 k ∷ drop 1 xs
first-of [] k h = absurd (omega (arith, h))
first-of (x ∷ xs) k h = refl

-- what is left to do becomes less
filter-short : (p : ℕ → Bool) (xs : List ℕ) → length (filter p xs) ≤ length xs
filter-short p [] = omega arith
filter-short p (x ∷ xs) = by-bool (p x) (filter-short p xs)
  where
    by-bool : (b : Bool) → length (filter p xs) ≤ length xs → length (cond b (x ∷ filter p xs) (filter p xs)) ≤ length (x ∷ xs)
    by-bool true h = omega (arith, h)
    by-bool false h = omega (arith, h)

pub kept-shorter : (p : ℕ → Bool) (xs : List ℕ) (n : ℕ) → 0 < n → n ≤ length xs → length (filter p (drop n xs)) < length xs
kept-shorter p xs n h w = omega (arith, h, w, filter-short p (drop n xs), length-drop n xs)

pub without-shorter : (d : ℕ) (xs : List ℕ) → stands xs d ≡ true → length (without_number d xs) < length xs
without-shorter d [] h = absurd (false≢true h)
without-shorter d (x ∷ xs) h = elim (eqb_tells d x) [
  | inl q ↦ subst (λ b. length (cond (not b) (x ∷ without_number d xs) (without_number d xs)) < length (x ∷ xs)) (sym q.0)
      (let k = filter-short (λ e. not (eqb d e)) xs in omega (arith, k))
  | inr q ↦ subst (λ b. length (cond (not b) (x ∷ without_number d xs) (without_number d xs)) < length (x ∷ xs)) (sym q.0)
      (let k = without-shorter d xs (rest q.1) in omega (arith, k))
]
  where
    rest : (d ≡ x → ⊥) → stands xs d ≡ true
    rest away = elim (or_cases (eqb x d) (stands xs d) h) [
      | inl t ↦ elim (eqb_tells x d) [
        | inl u ↦ absurd (away (sym u.1))
        | inr u ↦ absurd (false≢true (sym u.0 ∙ t))
      ]
      | inr t ↦ t
    ]
