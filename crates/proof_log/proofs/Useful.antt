-- A useful clause is new.
use Rattle.std.proofs.Common.{◌≡◌, ◌≢◌, true, false, eqb, List, [], ◌∷◌, inl, inr, sym, ap, ◌∙◌}
use Rattle.std.proofs.lemmas.Bool.{cases_eq, or_cases, or_left, or_right, false≢true, eq-eqb}
use Rattle.clause_store.specs.declared.Lit.{Lit}
use Rattle.clause_store.specs.Lits.{var_of, negation, has, lit_eq}
use Rattle.clause_store.proofs.Sets.{same_lit}
use Rattle.proof_log.specs.Known.{has_var}
use Rattle.proof_log.specs.Usefulness.{IsConsistent, FreePair, TrueLit, IsSettled, IsUseful, IsNew}

-- the variable of a literal that stands in a list stands there
pub has-var : (s : List Lit) (l : Lit) → has s l ≡ true → has_var s (var_of l) ≡ true
has-var [] l h = absurd (false≢true h)
has-var (k ∷ s) l h =
    elim (or_cases (lit_eq k l) (has s l) h) [
      | inl e ↦ or_left (eqb (var_of k) (var_of l)) (has_var s (var_of l)) (eq-eqb (var_of k) (var_of l) (ap var_of (same_lit k l e)))
      | inr t ↦ or_right (eqb (var_of k) (var_of l)) (has_var s (var_of l)) (has-var s l t)
    ]

module _ (clause : List Lit) (lit : Lit) (s : List Lit) (consistent : IsConsistent s) (free : has_var s (var_of lit) ≡ false)
    (others : (l : Lit) → has clause l ≡ true → l ≢ lit → has s (negation l) ≡ true) where
  -- the clause itself has no true literal and one free variable
  other_var : (l : Lit) → has clause l ≡ true → var_of l ≢ var_of lit → has_var s (var_of l) ≡ true
  other_var l h ne = has-var s (negation l) (others l h (λ e. ne (ap var_of e)))

  not_true : TrueLit s clause → ⊥
  not_true t = elim (cases_eq (var_of t.lit) (var_of lit)) [
    | inl e ↦ false≢true (sym free ∙ ap (has_var s) (sym e) ∙ has-var s t.lit t.holds)
    | inr ne ↦ consistent t.lit t.holds (others t.lit t.stands (λ e. ne (ap var_of e)))
  ]

  not_pair : FreePair s clause → ⊥
  not_pair p = elim (cases_eq (var_of p.first) (var_of lit)) [
    | inl e ↦ false≢true (sym p.second_free ∙ other_var p.second p.has_second (λ q. p.apart (e ∙ sym q)))
    | inr ne ↦ false≢true (sym p.first_free ∙ other_var p.first p.has_first ne)
  ]

  new-from : (known : List (List Lit)) → IsSettled s known → IsNew known clause
  new-from [] t = tt
  new-from (d ∷ ds) t = (
    (λ same. elim t.0 [
      | inl x ↦ not_true (record { lit = x.lit; stands = sym (same x.lit) ∙ x.stands; holds = x.holds })
      | inr p ↦ not_pair (record {
        first = p.first;
        second = p.second;
        has_first = sym (same p.first) ∙ p.has_first;
        has_second =
            sym (same p.second) ∙ p.has_second;
        first_free = p.first_free;
        second_free = p.second_free;
        apart = p.apart;
      })
    ]),
    new-from ds t.1,
  )

-- a useful clause is new
pub useful-new : (known : List (List Lit)) (clause : List Lit) → IsUseful known clause → IsNew known clause
useful-new known clause u = new-from clause u.lit u.given u.consistent u.free u.others known u.settled
