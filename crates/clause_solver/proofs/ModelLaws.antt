-- A settled trail that gives each variable a value is a model.
use Rattle.std.proofs.Common.{◌≡◌, ℕ, ◌+◌, ◌<◌, Bool, true, false, not, cond, List, [], ◌∷◌, Option, Some, None, inl, inr, refl, sym, ap, ◌∙◌, subst, arith}
use Rattle.std.specs.Prelude.{unwrap_or}
use Rattle.std.proofs.lemmas.Bool.{cases_lt, or_cases, false≢true, eq-eqb, ne_eqb}
use Rattle.std.proofs.lemmas.Option.{none-some}
use Rattle.clause_store.specs.declared.Lit.{Lit}
use Rattle.clause_store.specs.Lits.{var_of, negation, has, lit_eq, lit_true}
use Rattle.clause_store.specs.Clauses.{AllTrue}
use Rattle.proof_log.specs.Known.{has_var, AllOver}
use Rattle.proof_log.specs.Usefulness.{IsSettled}
use Rattle.clause_store.proofs.Sets.{same_lit, has-true}
use Rattle.proof_log.proofs.Useful.{has-var}
use Rattle.clause_watch.specs.declared.trail.Placed.{Placed}
use Rattle.clause_watch.specs.Trails.{lits_of, placed_of, value_in, AreApart, IsOrderly}
use Rattle.clause_watch.proofs.Propagated.{has-below}
use Rattle.clause_watch.proofs.Kept.{placed-has}
use Rattle.clause_watch.proofs.Meaning.{value}
use Rattle.clause_solver.specs.Models.{values_in, HaveValues, IsModelOf}
use Rattle.clause_watch.proofs.Places.{has-place, place-below}

-- a variable with a value stands on the trail
pub value-given : (ps : List Placed) (x : ℕ) (b : Bool) → value_in ps x ≡ Some b → has_var (lits_of ps) x ≡ true
value-given ps x b e = by-option (placed_of ps x) refl e
  where
    by-option : (o : Option Placed) → placed_of ps x ≡ o → value o ≡ Some b → has_var (lits_of ps) x ≡ true
    by-option None q f = absurd (none-some b f)
    by-option (Some t) q f = placed-has ps x t q

-- one more variable has a value
pub HaveValues-more : (ps : List Placed) (n : ℕ) → HaveValues ps n → has_var (lits_of ps) n ≡ true → HaveValues ps (n + 1)
HaveValues-more ps n h t x lt = elim (cases_lt x n) [
  | inl below ↦ h x below
  | inr ge ↦ let e : n ≡ x = omega arith in
      subst (λ y. has_var (lits_of ps) y ≡ true) e t
]

has-value : (ps : List Placed) (l : Lit) → AreApart ps → has (lits_of ps) l ≡ true → value_in ps (var_of l) ≡ Some l.positive
has-value [] l a h = absurd (false≢true h)
has-value (p ∷ ps) l a h =
    elim (or_cases (lit_eq p.lit l) (has (lits_of ps) l) h) [
      | inl e ↦ let s = same_lit p.lit l e in rw (eq-eqb (var_of p.lit) (var_of l) (ap var_of s)) (ap (λ (k : Lit). Some k.positive) s)
      | inr t ↦ rw (ne_eqb (var_of p.lit) (var_of l) (λ e. false≢true (sym a.0 ∙ ap (has_var (lits_of ps)) e ∙ has-var (lits_of ps) l t)))
          (has-value ps l a.1 t)
    ]

module _ (ps : List Placed) (n : ℕ) (model : List Bool) (o : IsOrderly n ps) (m : IsModelOf ps n model) where
  value-is : (l : Lit) → has (lits_of ps) l ≡ true → values_in model (var_of l) ≡ l.positive
  value-is l h =
      let q = has-place ps l h in
      let below : var_of l < n = subst (λ (k : Lit). var_of k < n) q.3 (place-below n ps q.0 q.1 o.in_table q.2) in
      m.values (var_of l) below ∙ ap (λ b. unwrap_or b false) (has-value ps l o.apart h)

  -- a literal of the trail is true in the model
  pub true-here : (l : Lit) → has (lits_of ps) l ≡ true → lit_true (values_in model) l ≡ true
  true-here l h = rw (value-is l h) (by-bool l.positive)
    where
      by-bool : (b : Bool) → cond b b (not b) ≡ true
      by-bool true = refl
      by-bool false = refl

  -- one whose negation stands there is false
  pub false-here : (l : Lit) → has (lits_of ps) (negation l) ≡ true → lit_true (values_in model) l ≡ false
  false-here l h = rw (value-is (negation l) h) (by-bool l.positive)
    where
      by-bool : (b : Bool) → cond b (not b) (not (not b)) ≡ false
      by-bool true = refl
      by-bool false = refl

  -- where nothing follows and all have values, the model meets the clauses
  pub model-meets : (cs : List (List Lit)) → HaveValues ps n → AllOver n cs → IsSettled (lits_of ps) cs → AllTrue (values_in model) cs
  model-meets [] v b s = tt
  model-meets (c ∷ cs) v b s = (
    elim s.0 [
      | inl t ↦ has-true (values_in model) c t.lit t.stands (true-here t.lit t.holds)
      | inr f ↦ absurd (false≢true (sym f.first_free ∙ v (var_of f.first) (has-below n c f.first b.0 f.has_first)))
    ],
    model-meets cs v b.1 s.1,
  )
