-- A certificate of two clauses and two bits, and a log that spent its budget.
use Rattle.std.proofs.Common.{◌≡◌, true, false, [], ◌∷◌, inl, inr, refl, sym, arith}
use Rattle.std.proofs.lemmas.Bool.{or_cases, false≢true}
use Rattle.proof_log.specs.Known.{AllClauses}
use Rattle.proof_log.specs.Derivations.{IsDerived}
use Rattle.proof_log.specs.Usefulness.{FreePair, IsUseful}
use Rattle.proof_log.specs.Certificates.{IsCertificate, IsSpentLog}
use Rattle.proof_log.specs.Worked.{pos, neg, four, four_log, two, two_bits, two_log}
use Rattle.clause_store.specs.declared.Lit.{Lit}
use Rattle.clause_store.specs.Lits.{var_of, has}
use Rattle.clause_store.proofs.Sets.{same_lit}
use Rattle.proof_log.proofs.Chains.{chain_fault-is}
use Rattle.proof_log.proofs.Useful.{useful-new}

in-order : AllClauses two
in-order = (((omega arith, tt), (tt, tt)), (((omega arith, tt), (tt, tt)), tt))

derived : IsDerived two (1 ∷ 2 ∷ []) (pos 2 ∷ [])
derived = (chain_fault-is two (1 ∷ 2 ∷ []) (pos 2 ∷ []) in-order (omega arith, omega arith, (omega arith, omega arith, tt))).0 refl

-- the worked log is a certificate
pub certificate : IsCertificate 2 two two_bits (true ∷ false ∷ []) two_log
certificate = record {
  sound = (
    refl,
    ((refl, refl, pos 2, refl, derived), ((refl, refl, pos 1, refl), (refl, tt))),
    ((λ e. absurd (false≢true e)), ((λ e. absurd (false≢true e)), ((λ e. refl), tt))),
  );
  distinct = (tt, (tt, (tt, (tt, tt))));
  valued = (tt, (refl, (refl, (tt, tt))));
  last = refl;
}

in-order-four : AllClauses four
in-order-four =
    (((omega arith, tt), (tt, tt)), (((omega arith, tt), (tt, tt)), (((omega arith, tt), (tt, tt)), (((omega arith, tt), (tt, tt)), tt))))

derived-four : IsDerived four (1 ∷ 2 ∷ []) (pos 1 ∷ [])
derived-four = (chain_fault-is four (1 ∷ 2 ∷ []) (pos 1 ∷ []) in-order-four (omega arith, omega arith, (omega arith, omega arith, tt))).0
    refl

pair : (a b : Lit) → var_of a ≡ 0 → var_of b ≡ 1 → has (a ∷ b ∷ []) a ≡ true → has (a ∷ b ∷ []) b ≡ true → FreePair [] (a ∷ b ∷ [])
pair a b p q h k = record {
  first = a;
  second = b;
  has_first = h;
  has_second = k;
  first_free = refl;
  second_free = refl;
  apart =
      λ e. omega (arith, e, p, q);
}

useful-four : IsUseful four (pos 1 ∷ [])
useful-four = record {
  lit = pos 1;
  stands = refl;
  given = [];
  consistent = λ l h k. absurd (false≢true h);
  free = refl;
  others = λ l h ne. absurd (ne (sym (same_one l h)));
  settled = (
    inr (pair (pos 1) (pos 2) refl refl refl refl),
    (
      inr (pair (pos 1) (neg 2) refl refl refl refl),
      (inr (pair (neg 1) (pos 2) refl refl refl refl), (inr (pair (neg 1) (neg 2) refl refl refl refl), tt)),
    ),
  );
}
  where
    same_one : (l : Lit) → has (pos 1 ∷ []) l ≡ true → pos 1 ≡ l
    same_one l h = elim (or_cases _ false h) [ inl e ↦ same_lit (pos 1) l e | inr f ↦ absurd (false≢true f) ]

-- the worked spent log is one
pub spent : IsSpentLog 2 four [] 0 four_log
spent = record {
  sound = (refl, ((refl, (tt, tt), derived-four), (tt, tt)), ((λ e. absurd (false≢true e)), ((λ e. refl), tt)));
  distinct = (tt, (useful-new four (pos 1 ∷ []) useful-four, (tt, tt)));
  useful = (tt, (useful-four, (tt, tt)));
  in_range = (tt, ((omega arith, tt), (tt, tt)));
  count = refl;
  last = refl;
  met = inl (refl, (refl, (refl, tt)));
}

-- with one learnt clause less it is none
pub one_too_few : IsSpentLog 2 four [] 1 four_log → ⊥
one_too_few s = let c = s.count in omega (arith, c)
