-- The loops of the merges, step by step.
use Rattle.std.proofs.Common.{◌≡◌, ℕ, suc, ◌+◌, List, [], ◌∷◌, ◌++◌, length, append_assoc, refl, sym, ap, ◌∙◌, arith}
use Rattle.clause_store.specs.declared.Lit.{Lit}
use Rattle.clause_circuits.specs.Gates.{Sides, Planned, Made, with_gate}
use Rattle.criteria_totals.specs.Merges.{each, on_clause, off_clause, at_least, merge_from, merged_on}
use Rattle.clause_circuits.proofs.AddLoops.{with_front}

-- the lists of one more number
pub each-more : {A : Type 0} (f : ℕ → List A) (i : ℕ) (now new : List A) → now ≡ each f i → new ≡ now ++ f i → new ≡ each f (i + 1)
each-more f i now new e h = let q : suc i ≡ i + 1 = omega arith in h ∙ ap (λ xs. xs ++ f i) e ∙ ap (each f) q

-- the code made the gate for at least k
pub at_least-built : (g : Sides) (on off : List (List Lit)) (k i : ℕ) (xs ys : List Lit) → g ≡ record { on = on; off = off }
    → on ≡ each (on_clause k xs ys) (k + 1) → off ≡ each (off_clause k xs ys) i → i ≡ k → g ≡ at_least k xs ys
unfolding at_least
at_least-built g on off k i xs ys q e f h = q ∙ rw (e, f, h) refl

-- one more literal of a merge
pub merge-more : (j w k : ℕ) (p q : Planned) (g : Sides) (l : Lit) (xs ys lits more : List Lit) (all : Made (List Lit)) → j ≡ suc w
    → with_front lits (merge_from (k + 1) j p xs ys) ≡ all →
    g ≡ at_least (k + 1) xs ys → with_gate p g ≡ record { plan = q; answer = l } → more ≡ lits ++ l ∷ []
    → with_front more (merge_from (k + 1 + 1) w q xs ys) ≡ all
merge-more j w k p q g l xs ys lits more all n inv e f m =
    let next : suc (k + 1) ≡ k + 1 + 1 = omega arith in
    let made : with_gate p (at_least (k + 1) xs ys) ≡ record { plan = q; answer = l } = ap (with_gate p) (sym e) ∙ f in
    let step : Made Lit → ℕ → Made (List Lit) = λ one s. let rest = merge_from s w one.plan xs ys in
    record { plan = rest.plan; answer = lits ++ one.answer ∷ rest.answer } in
    sym (ap (λ i. with_front lits (merge_from (k + 1) i p xs ys)) n ∙ ap (λ one. step one (suc (k + 1))) made
    ∙ ap (step (record { plan = q; answer = l })) next ∙ pushed lits l (merge_from (k + 1 + 1) w q xs ys) more m) ∙ inv
  where
    pushed : (lits : List Lit) (l : Lit) (m : Made (List Lit)) (more : List Lit) → more ≡ lits ++ l ∷ []
        → with_front lits (record { plan = m.plan; answer = l ∷ m.answer }) ≡ with_front more m
    pushed lits l m more e = rw (e, append_assoc lits (l ∷ []) m.answer) refl

-- an empty first list leaves the second
pub merged-first : (p : Planned) (xs ys zs : List Lit) → length xs ≡ 0 → zs ≡ ys → merged_on p xs ys ≡ record { plan = p; answer = zs }
merged-first p [] ys zs h e = rw e refl
merged-first p (x ∷ xs) ys zs h e = absurd (omega arith)

-- an empty second list leaves the first
pub merged-second : (p : Planned) (xs ys zs : List Lit) → (length xs ≡ 0 → ⊥) → length ys ≡ 0 → zs ≡ xs
    → merged_on p xs ys ≡ record { plan = p; answer = zs }
merged-second p [] ys zs n h e = absurd (n refl)
merged-second p (x ∷ xs) [] zs n h e = rw e refl
merged-second p (x ∷ xs) (y ∷ ys) zs n h e = absurd (omega arith)

-- two lists that are not empty are merged by gates
pub merged-both : (p : Planned) (xs ys : List Lit) (m : Made (List Lit)) → (length xs ≡ 0 → ⊥) → (length ys ≡ 0 → ⊥)
    → merge_from 1 (length xs + length ys) p xs ys ≡ m → merged_on p xs ys ≡ m
merged-both p [] ys m n k e = absurd (n refl)
merged-both p (x ∷ xs) [] m n k e = absurd (k refl)
merged-both p (x ∷ xs) (y ∷ ys) m n k e = e
