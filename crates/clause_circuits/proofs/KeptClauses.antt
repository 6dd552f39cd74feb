-- The kept clauses of some rules say what the rules say.
use Rattle.std.proofs.Common.{◌≡◌, ℕ, Bool, true, false, not, ◌||◌, List, [], ◌∷◌, ◌++◌, take, map, zero, suc, Option, Some, None, refl, sym, ap, ◌∙◌, subst}
use Rattle.std.proofs.lemmas.Bool.{and_parts, and_from}
use Rattle.clause_store.specs.declared.Lit.{Lit}
use Rattle.clause_store.specs.declared.Label.{Label}
use Rattle.clause_store.specs.declared.Label.TheVariants.{Structure}
use Rattle.clause_store.specs.Lits.{clause_true, clause_of, AllBelow}
use Rattle.clause_store.specs.Clauses.{AllInRange, Meets, counts}
use Rattle.clause_circuits.specs.Gates.{kept_clauses, option_list, clauses_from, labelled, AllClausesBelow, rules_true}
use Rattle.clause_store.proofs.Entries.{Meets-append, Meets-parts}
use Rattle.clause_store.proofs.Meaning.{clause_of-Some, clause_of-None, AllBelow-clause_of}

map-append : (cs ds : List (List Lit)) → map (labelled Structure) (cs ++ ds) ≡ map (labelled Structure) cs ++ map (labelled Structure) ds
map-append [] ds = refl
map-append (c ∷ cs) ds = ap (λ es. labelled Structure c ∷ es) (map-append cs ds)

pub AllClausesBelow-append : (n : ℕ) (cs ds : List (List Lit)) → AllClausesBelow n cs → AllClausesBelow n ds → AllClausesBelow n (cs ++ ds)
AllClausesBelow-append n [] ds a b = b
AllClausesBelow-append n (c ∷ cs) ds a b = (a.0, AllClausesBelow-append n cs ds a.1 b)

pub AllClausesBelow-take : (n k : ℕ) (cs : List (List Lit)) → AllClausesBelow n cs → AllClausesBelow n (take k cs)
AllClausesBelow-take n zero cs a = tt
AllClausesBelow-take n (suc k) [] a = tt
AllClausesBelow-take n (suc k) (c ∷ cs) a = (a.0, AllClausesBelow-take n k cs a.1)

pub labelled-in_range : (n : ℕ) (label : Label) (cs : List (List Lit)) → AllClausesBelow n cs → AllInRange n (map (labelled label) cs)
labelled-in_range n label [] a = tt
labelled-in_range n label (c ∷ cs) a = (a.0, labelled-in_range n label cs a.1)

kept-below' : (n : ℕ) (r : List Lit) (o : Option (List Lit)) → AllBelow n r → clause_of r ≡ o → AllClausesBelow n (option_list o)
kept-below' n r None b e = tt
kept-below' n r (Some c) b e = (AllBelow-clause_of n r c b e, tt)

pub kept-below : (n : ℕ) (r : List Lit) → AllBelow n r → AllClausesBelow n (kept_clauses r)
unfolding kept_clauses
kept-below n r b = kept-below' n r (clause_of r) b refl

pub clauses_from-below : (n : ℕ) (rs : List (List Lit)) → AllClausesBelow n rs → AllClausesBelow n (clauses_from rs)
clauses_from-below n [] b = tt
clauses_from-below n (r ∷ rs) b = AllClausesBelow-append n (kept_clauses r) (clauses_from rs) (kept-below n r b.0)
    (clauses_from-below n rs b.1)

-- a clause that is kept, where its label is asked for
module _ (asked v : ℕ → Bool) (label : Label) where
  kept-true' : (r : List Lit) (o : Option (List Lit)) → clause_of r ≡ o → Meets asked v (map (labelled label) (option_list o))
      → (not (counts asked label) || clause_true v r) ≡ true
  kept-true' r None e m = ap (λ b. not (counts asked label) || b) (clause_of-None v r e) ∙ or-true (not (counts asked label))
    where
      or-true : (a : Bool) → (a || true) ≡ true
      or-true true = refl
      or-true false = refl
  kept-true' r (Some c) e m = ap (λ b. not (counts asked label) || b) (sym (clause_of-Some v r c e)) ∙ m.0

  true-kept' : (r : List Lit) (o : Option (List Lit)) → clause_of r ≡ o → (not (counts asked label) || clause_true v r) ≡ true
      → Meets asked v (map (labelled label) (option_list o))
  true-kept' r None e t = tt
  true-kept' r (Some c) e t = (ap (λ b. not (counts asked label) || b) (clause_of-Some v r c e) ∙ t, tt)

  -- the clause that is kept says what the literals say
  pub kept-true : (r : List Lit) → Meets asked v (map (labelled label) (kept_clauses r))
      → (not (counts asked label) || clause_true v r) ≡ true
  unfolding kept_clauses
  kept-true r m = kept-true' r (clause_of r) refl m

  -- and no more
  pub true-kept : (r : List Lit) → (not (counts asked label) || clause_true v r) ≡ true
      → Meets asked v (map (labelled label) (kept_clauses r))
  unfolding kept_clauses
  true-kept r t = true-kept' r (clause_of r) refl t

-- the clauses that are kept say what the rules say
pub rules-true : (asked v : ℕ → Bool) (rs : List (List Lit)) → Meets asked v (map (labelled Structure) (clauses_from rs))
    → rules_true v rs ≡ true
rules-true asked v [] m = refl
rules-true asked v (r ∷ rs) m =
    let p = Meets-parts asked v _ _ (subst (Meets asked v) (map-append (kept_clauses r) (clauses_from rs)) m) in
    and_from (clause_true v r) (rules_true v rs) (kept-true asked v Structure r p.0) (rules-true asked v rs p.1)

-- and no more
pub true-rules : (asked v : ℕ → Bool) (rs : List (List Lit)) → rules_true v rs ≡ true
    → Meets asked v (map (labelled Structure) (clauses_from rs))
true-rules asked v [] t = tt
true-rules asked v (r ∷ rs) t =
    let p = and_parts (clause_true v r) (rules_true v rs) t in
    subst (Meets asked v) (sym (map-append (kept_clauses r) (clauses_from rs)))
    (Meets-append asked v _ _ (true-kept asked v Structure r p.0) (true-rules asked v rs p.1))

pub Meets-take : (asked v : ℕ → Bool) (k : ℕ) (cs : List (List Lit)) → Meets asked v (map (labelled Structure) cs)
    → Meets asked v (map (labelled Structure) (take k cs))
Meets-take asked v zero cs m = tt
Meets-take asked v (suc k) [] m = tt
Meets-take asked v (suc k) (c ∷ cs) m = (m.0, Meets-take asked v k cs m.1)
