-- The check of a chain on its way.
use Rattle.std.proofs.Common.{◌≡◌, ℕ, Bool, List, [], ◌∷◌, Option, Some, None, inl, inr, length, refl, sym, ◌∙◌, ap}
use Rattle.std.specs.Prelude.{Ok, Err, if◌then◌else◌, eqb}
use Rattle.std.specs.Option.{option_map}
use Rattle.std.proofs.lemmas.Bool.{cases_Bool}
use Rattle.clause_store.specs.declared.Lit.{Lit}
use Rattle.clause_store.specs.Lits.{var_of, contained, IsClause}
use Rattle.proof_log.specs.Resolution.{resolved, clause_at, chain_fault, fault_from, after_step, IdsIn}
use Rattle.proof_log.specs.Resolution as fault
use Rattle.log_checker.specs.declared.known.Known.{Known}
use Rattle.log_checker.specs.declared.step.Why.{Why}
use Rattle.log_checker.specs.declared.step.Why.TheVariants.{NoPivot, TwoPivots, NotContained}
use Rattle.log_checker.specs.Steps.{why_of}
use Rattle.log_checker.specs.Known.{clauses_in}
use Rattle.log_checker.specs.Signs.{sign_in, with_sign, clashes, only_one, overlay, strip}
use Rattle.log_checker.proofs.Clashes.{AreSigns, over, overlay-sign, resolved-none, resolved-two, resolved-one, stripped-contained, contained-stripped}

-- the signs are those of a clause from which the rest of the chain has the fault of the whole
pub record IsOnWay (known : List Known) (chain : List ℕ) (stated : List Lit) (signs : ℕ → Option Bool) (rest : List ℕ) : Type 0 where
  pub clause : List Lit
  pub in_order : IsClause clause
  pub its : AreSigns signs clause
  pub same : chain_fault (clauses_in known) chain stated ≡ fault_from (clauses_in known) rest stated clause
  pub ids : IdsIn (length known) rest

pub begin : (known : List Known) (stated : List Lit) (first : ℕ) (rest : List ℕ) (m n : ℕ → Option Bool) (lits : List Lit)
    → lits ≡ clause_at (clauses_in known) first → IsClause lits → ((x : ℕ) → m x ≡ None) → ((x : ℕ) → n x ≡ overlay lits m x)
    → IdsIn (length known) (first ∷ rest) → IsOnWay known (first ∷ rest) stated n rest
begin known stated first rest m n lits e i z o h = record {
  clause = lits;
  in_order = i;
  its = λ x. o x ∙ overlay-sign lits m x i ∙ ap (over (sign_in lits x)) (z x) ∙ over-none (sign_in lits x);
  same = ap (fault_from (clauses_in known) rest stated) (sym e);
  ids = h.2;
}
  where
    over-none : (o : Option Bool) → over o None ≡ o
    over-none None = refl
    over-none (Some v) = refl

pub go-on : (known : List Known) (chain : List ℕ) (stated : List Lit) (id : ℕ) (rest : List ℕ) (m n o : ℕ → Option Bool) (lits : List Lit)
    (p : Lit) → IsOnWay known chain stated m (id ∷ rest) → lits ≡ clause_at (clauses_in known) id → IsClause lits
    → Ok p ≡ only_one (clashes m lits) → ((x : ℕ) → n x ≡ overlay lits m x) → ((x : ℕ) → o x ≡ with_sign n (var_of p) None x)
    → IsOnWay known chain stated o rest
go-on known chain stated id rest m n o lits p w e i f put cut = by (clashes m lits) refl f
  where
    by : (c : List Lit) → clashes m lits ≡ c → Ok p ≡ only_one c → IsOnWay known chain stated o rest
    by [] q g = cc
    by (l ∷ k ∷ c) q g = cc
    by (l ∷ []) q g =
        let r = resolved-one m w.clause lits l w.in_order i w.its q in
        record {
          clause = r.0;
          in_order = r.2;
          its = λ x. cut x ∙ ap (λ y. with_sign n (var_of y) None x) pivot
              ∙ ap (λ s. if eqb (var_of l) x then None else s) (put x ∙ overlay-sign lits m x i) ∙ r.3 x;
          same = w.same ∙ ap (λ b. after_step (fault_from (clauses_in known) rest stated) (resolved w.clause b)) (sym e)
              ∙ ap (after_step (fault_from (clauses_in known) rest stated)) r.1;
          ids = w.ids.2;
        }
      where
        pivot : p ≡ l
        pivot = cc

pub failed : (known : List Known) (chain : List ℕ) (stated : List Lit) (id : ℕ) (rest : List ℕ) (m : ℕ → Option Bool) (lits : List Lit)
    (y : Why) → IsOnWay known chain stated m (id ∷ rest) → lits ≡ clause_at (clauses_in known) id → IsClause lits
    → Err y ≡ only_one (clashes m lits) → Some y ≡ option_map why_of (chain_fault (clauses_in known) chain stated)
failed known chain stated id rest m lits y w e i f = by (clashes m lits) refl f
  where
    at : chain_fault (clauses_in known) chain stated ≡ after_step (fault_from (clauses_in known) rest stated) (resolved w.clause lits)
    at = w.same ∙ ap (λ b. after_step (fault_from (clauses_in known) rest stated) (resolved w.clause b)) (sym e)

    by : (c : List Lit) → clashes m lits ≡ c → Err y ≡ only_one c → Some y ≡ option_map why_of (chain_fault (clauses_in known) chain stated)
    by [] q g = ap Some why ∙ sym (ap (option_map why_of)
        (at ∙ ap (after_step (fault_from (clauses_in known) rest stated)) (resolved-none m w.clause lits w.in_order i w.its q)))
      where
        why : y ≡ NoPivot
        why = cc
    by (l ∷ []) q g = cc
    by (l ∷ k ∷ c) q g = ap Some why
        ∙ sym (ap (option_map why_of) (at
        ∙ ap (after_step (fault_from (clauses_in known) rest stated)) (resolved-two m w.clause lits l k c w.in_order i w.its q)))
      where
        why : y ≡ TwoPivots
        why = cc

pub held : (known : List Known) (chain : List ℕ) (stated : List Lit) (m : ℕ → Option Bool) → IsOnWay known chain stated m []
    → ((x : ℕ) → strip stated m x ≡ None) → None ≡ option_map why_of (chain_fault (clauses_in known) chain stated)
held known chain stated m w h = sym
    (ap (option_map why_of) (w.same
    ∙ ap (λ b. if b then None else Some fault.NotContained) (stripped-contained m w.clause stated w.in_order w.its h)))

pub not-held : (known : List Known) (chain : List ℕ) (stated : List Lit) (m : ℕ → Option Bool) → IsOnWay known chain stated m []
    → (((x : ℕ) → strip stated m x ≡ None) → ⊥) → Some NotContained ≡ option_map why_of (chain_fault (clauses_in known) chain stated)
not-held known chain stated m w h = elim (cases_Bool (contained w.clause stated)) [
  | inl t ↦ absurd (h (contained-stripped m w.clause stated w.in_order w.its t))
  | inr f ↦ sym (ap (option_map why_of) (w.same ∙ ap (λ b. if b then None else Some fault.NotContained) f))
]
