-- The labels that a list notes.
use Rattle.std.proofs.Common.{◌≡◌, ℕ, zero, suc, ◌+◌, ◌<◌, ◌≤◌, true, false, List, [], ◌∷◌, ◌++◌, length, refl, ap, arith, ltb, eqb, if◌then◌else◌, get_or}
use Rattle.std.specs.List.Sorted.{IsPartitionPoint, IsPartitionedBy, IsNonDecreasingBy}
use Rattle.std.proofs.lemmas.List.Sorted.{IsPartitionedBy-ltb}
use Rattle.std.proofs.lemmas.Bool.{eq-eqb, ne_eqb, ltb-true, ltb-false}
use Rattle.clause_store.specs.declared.Label.{Label}
use Rattle.clause_store.specs.declared.Label.TheVariants.{Structure, Demand}
use Rattle.clause_store.specs.declared.demands.Demanded.{Demanded}
use Rattle.clause_store.specs.Kept.{with_label, label_at, AllBehind, AllBefore, AreRising}

AllBefore-le : (m n : ℕ) (ds : List Demanded) → m ≤ n → AllBefore m ds → AllBefore n ds
AllBefore-le m n [] h a = tt
AllBefore-le m n (d ∷ ds) h a = (omega (arith, a.0, h), AllBefore-le m n ds h a.1)

AllBefore-append : (n : ℕ) (ds es : List Demanded) → AllBefore n ds → AllBefore n es → AllBefore n (ds ++ es)
AllBefore-append n [] es a b = b
AllBefore-append n (d ∷ ds) es a b = (a.0, AllBefore-append n ds es a.1 b)

-- the labels are of clauses that there are
pub before-more : (n : ℕ) (ds : List Demanded) (l : Label) → AllBefore n ds → AllBefore (n + 1) (with_label ds n l)
before-more n ds Structure a = AllBefore-le n (n + 1) ds (omega arith) a
before-more n ds (Demand d) a = AllBefore-append (n + 1) ds _ (AllBefore-le n (n + 1) ds (omega arith) a) (omega arith, tt)

behind-more : (m n d : ℕ) (ds : List Demanded) → m < n → AllBehind m ds → AllBehind m (ds ++ record { place = n; demand = d } ∷ [])
behind-more m n d [] h a = (h, tt)
behind-more m n d (e ∷ ds) h a = (a.0, behind-more m n d ds h a.1)

rising-push : (n d : ℕ) (ds : List Demanded) → AllBefore n ds → AreRising ds → AreRising (ds ++ record { place = n; demand = d } ∷ [])
rising-push n d [] a r = (tt, tt)
rising-push n d (e ∷ ds) a r = (behind-more e.place n d ds a.0 r.0, rising-push n d ds a.1 r.1)

-- they rise by place
pub rising-more : (n : ℕ) (ds : List Demanded) (l : Label) → AllBefore n ds → AreRising ds → AreRising (with_label ds n l)
rising-more n ds Structure a r = r
rising-more n ds (Demand d) a r = rising-push n d ds a r

-- a place behind all that is noted
label-none : (n : ℕ) (ds : List Demanded) → AllBefore n ds → label_at ds n ≡ Structure
label-none n [] a = refl
label-none n (d ∷ ds) a = rw (ne_eqb d.place n (omega (arith, a.0))) (label-none n ds a.1)

-- a place before all that is noted
label-behind : (m n : ℕ) (ds : List Demanded) → n ≤ m → AllBehind m ds → label_at ds n ≡ Structure
label-behind m n [] h a = refl
label-behind m n (d ∷ ds) h a = rw (ne_eqb d.place n (omega (arith, a.0, h))) (label-behind m n ds h a.1)

label-push : (n d : ℕ) (ds : List Demanded) → AllBefore n ds → label_at (ds ++ record { place = n; demand = d } ∷ []) n ≡ Demand d
label-push n d [] a = rw (eq-eqb n n refl) refl
label-push n d (e ∷ ds) a = rw (ne_eqb e.place n (omega (arith, a.0))) (label-push n d ds a.1)

label-before : (k n d : ℕ) (ds : List Demanded) → k < n → label_at (ds ++ record { place = n; demand = d } ∷ []) k ≡ label_at ds k
label-before k n d [] h = rw (ne_eqb n k (omega (arith, h))) refl
label-before k n d (e ∷ ds) h = ap (λ (l : Label). if eqb e.place k then Demand e.demand else l) (label-before k n d ds h)

-- the label that was added
pub label-new : (n : ℕ) (ds : List Demanded) (l : Label) → AllBefore n ds → label_at (with_label ds n l) n ≡ l
label-new n ds Structure a = label-none n ds a
label-new n ds (Demand d) a = label-push n d ds a

-- the labels before it
pub label-old : (k n : ℕ) (ds : List Demanded) (l : Label) → k < n → label_at (with_label ds n l) k ≡ label_at ds k
label-old k n ds Structure h = refl
label-old k n ds (Demand d) h = label-before k n d ds h

behind-at : (n : ℕ) (ds : List Demanded) (k : ℕ) (d : Demanded) → AllBehind n ds → k < length ds → n < (get_or ds k d).place
behind-at n [] k d a h = absurd (omega (arith, h))
behind-at n (e ∷ ds) zero d a h = a.0
behind-at n (e ∷ ds) (suc k) d a h = behind-at n ds k d a.1 (omega (arith, h))

-- places rise, so those below a number come first
pub demands-parted : (n : ℕ) (ds : List Demanded) → AreRising ds → IsPartitionedBy (λ d. ltb d.place n) ds
demands-parted n ds r = IsPartitionedBy-ltb (λ (d : Demanded). d.place) ds n (rising ds r)
  where
    rising : (ds : List Demanded) → AreRising ds → IsNonDecreasingBy (λ (d : Demanded). d.place) ds
    rising [] r a b d h l = absurd (omega (arith, l))
    rising (e ∷ ds) r zero zero d h l = omega arith
    rising (e ∷ ds) r zero (suc b) d h l = let q = behind-at e.place ds b d r.0 (omega (arith, l)) in omega (arith, q)
    rising (e ∷ ds) r (suc a) zero d h l = absurd (omega (arith, h))
    rising (e ∷ ds) r (suc a) (suc b) d h l = rising ds r.1 a b d (omega (arith, h)) (omega (arith, l))

-- the label by the first place that is not below
pub label-there : (n at : ℕ) (d : Demanded) (ds : List Demanded) → AreRising ds → at < length ds → (get_or ds at d).place ≡ n
    → label_at ds n ≡ Demand (get_or ds at d).demand
label-there n at d [] r h e = absurd (omega (arith, h))
label-there n zero d (x ∷ ds) r h e = rw (eq-eqb x.place n e) refl
label-there n (suc at) d (x ∷ ds) r h e =
    let q = behind-at x.place ds at d r.0 (omega (arith, h)) in
    rw (ne_eqb x.place n (omega (arith, q, e))) (label-there n at d ds r.1 (omega (arith, h)) e)

-- a place that no demand has is of the structure
pub label-absent : (n at : ℕ) (d : Demanded) (ds : List Demanded) → AreRising ds
    → IsPartitionPoint (λ d. ltb d.place n ≡ true) (λ d. ltb d.place n ≡ false) ds at → (at < length ds → (get_or ds at d).place ≡ n → ⊥)
    → label_at ds n ≡ Structure
label-absent n at d [] r p away = refl
label-absent n zero d (x ∷ ds) r p away =
    let q : n ≤ x.place = ltb-false x.place n (p.1 0 x (omega arith) (omega arith)) in
    let k : x.place ≡ n → ⊥ = away (omega arith) in
    rw (ne_eqb x.place n k) (label-behind x.place n ds q r.0)
label-absent n (suc at) d (x ∷ ds) r p away =
    let q : x.place < n = ltb-true x.place n (p.0 0 x (omega arith) (omega arith)) in
    rw (ne_eqb x.place n (omega (arith, q))) (label-absent n at d ds r.1
    ((λ j d a b. p.0 (suc j) d (omega (arith, a)) (omega (arith, b))), (λ j d a b. p.1 (suc j) d (omega (arith, a)) (omega (arith, b))))
    (λ h e. away (omega (arith, h)) e))
