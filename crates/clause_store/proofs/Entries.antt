-- What an assignment meets, entry by entry.
use Rattle.std.proofs.Common.{◌≡◌, ◌↔◌, zero, suc, ◌<◌, ◌≤◌, Option, Some, None, ap, ℕ, Bool, true, List, [], ◌∷◌, ◌++◌, length, refl, sym, arith}
use Rattle.std.specs.Prelude.{slice_get}
use Rattle.std.specs.Option.{option_map}
use Rattle.std.proofs.lemmas.Option.{same_Some, none-some}
use Rattle.clause_store.specs.declared.Lit.{Lit}
use Rattle.clause_store.specs.declared.Label.{Label}
use Rattle.clause_store.specs.declared.Label.TheVariants.{Structure, Demand}
use Rattle.clause_store.specs.declared.list.Entry.{Entry}
use Rattle.clause_store.specs.Clauses.{Meets, AllTrue, clauses_of, counts, at_id}

-- two parts of a list that are met
pub Meets-append : (asked v : ℕ → Bool) (es fs : List Entry) → Meets asked v es → Meets asked v fs → Meets asked v (es ++ fs)
Meets-append asked v [] fs a b = b
Meets-append asked v (e ∷ es) fs a b = (a.0, Meets-append asked v es fs a.1 b)

-- and the other way round
pub Meets-parts : (asked v : ℕ → Bool) (es fs : List Entry) → Meets asked v (es ++ fs) → Meets asked v es × Meets asked v fs
Meets-parts asked v [] fs m = (tt, m)
Meets-parts asked v (e ∷ es) fs m = let p = Meets-parts asked v es fs m.1 in ((m.0, p.0), p.1)

-- where everything may be asked for, each clause counts
counts-all : (label : Label) → counts (λ d. true) label ≡ true
counts-all Structure = refl
counts-all (Demand d) = refl

-- with all demands asked for, all clauses are true
pub Meets-all : (v : ℕ → Bool) (es : List Entry) → Meets (λ d. true) v es ↔ AllTrue v (clauses_of es)
Meets-all v es = (down es, up es)
  where
    down : (es : List Entry) → Meets (λ d. true) v es → AllTrue v (clauses_of es)
    down [] m = tt
    down (e ∷ es) m = (rw (counts-all e.label) at m.0, down es m.1)

    up : (es : List Entry) → AllTrue v (clauses_of es) → Meets (λ d. true) v es
    up [] m = tt
    up (e ∷ es) m = (rw (counts-all e.label) m.0, up es m.1)

-- an id names a clause where it names its entry
pub at_id-clause : (es : List Entry) (id : ℕ) (e : Entry) → at_id es id ≡ Some e → at_id (clauses_of es) id ≡ Some e.clause
at_id-clause es zero e q = absurd (none-some e q)
at_id-clause es (suc k) e q = along es k q
  where
    along : (es : List Entry) (k : ℕ) → slice_get es k ≡ Some e → slice_get (clauses_of es) k ≡ Some e.clause
    along [] k q = absurd (none-some e q)
    along (x ∷ es) zero q = ap (λ y. Some (y.clause)) (same_Some x e q)
    along (x ∷ es) (suc k) q = along es k q

-- where there is no entry there is no clause
pub at_id-no_clause : (es : List Entry) (id : ℕ) → at_id es id ≡ None → at_id (clauses_of es) id ≡ None
at_id-no_clause es zero q = refl
at_id-no_clause es (suc k) q = along es k q
  where
    along : (es : List Entry) (k : ℕ) → slice_get es k ≡ None → slice_get (clauses_of es) k ≡ None
    along [] k q = refl
    along (x ∷ es) zero q = absurd (none-some x (sym q))
    along (x ∷ es) (suc k) q = along es k q

-- there is none beyond the length
pub at_id-beyond : (es : List Entry) (id : ℕ) → length es < id → at_id es id ≡ None
at_id-beyond es zero h = refl
at_id-beyond es (suc k) h = along es k (omega (arith, h))
  where
    along : (es : List Entry) (k : ℕ) → length es ≤ k → slice_get es k ≡ None
    along [] k h = refl
    along (x ∷ es) zero h = absurd (omega (arith, h))
    along (x ∷ es) (suc k) h = along es k (omega (arith, h))

-- a clause and a label of one id are its entry
pub at_id-both : (es : List Entry) (id : ℕ) (c : List Lit) (l : Label) → at_id (clauses_of es) id ≡ Some c
    → option_map (λ (e : Entry). e.label) (at_id es id) ≡ Some l → at_id es id ≡ Some (record { clause = c; label = l })
at_id-both es zero c l p q = absurd (none-some c p)
at_id-both es (suc k) c l p q = along es k p q
  where
    along : (es : List Entry) (k : ℕ) → slice_get (clauses_of es) k ≡ Some c → option_map (λ (e : Entry). e.label) (slice_get es k) ≡ Some l
        → slice_get es k ≡ Some (record { clause = c; label = l })
    along [] k p q = absurd (none-some c p)
    along (x ∷ es) zero p q = rw (← same_Some x.clause c p, ← same_Some x.label l q) refl
    along (x ∷ es) (suc k) p q = along es k p q

-- where there is no label there is no entry
pub at_id-no_label : (es : List Entry) (id : ℕ) → option_map (λ (e : Entry). e.label) (at_id es id) ≡ None → at_id es id ≡ None
at_id-no_label es id q = by-option (at_id es id) q
  where
    by-option : (o : Option Entry) → option_map (λ (e : Entry). e.label) o ≡ None → o ≡ None
    by-option None q = refl
    by-option (Some e) q = absurd (none-some e.label (sym q))

-- where there is no clause there is no entry
pub at_id-no_entry : (es : List Entry) (id : ℕ) → at_id (clauses_of es) id ≡ None → at_id es id ≡ None
at_id-no_entry es zero q = refl
at_id-no_entry es (suc k) q = along es k q
  where
    along : (es : List Entry) (k : ℕ) → slice_get (clauses_of es) k ≡ None → slice_get es k ≡ None
    along [] k q = refl
    along (x ∷ es) zero q = absurd (none-some x.clause (sym q))
    along (x ∷ es) (suc k) q = along es k q
