-- A chain that is checked where more clauses are known than before its line.
use Rattle.std.proofs.Common.{◌≡◌, ℕ, zero, suc, ◌-◌, ◌<◌, ◌≤◌, true, ◌&&◌, List, [], ◌∷◌, ◌++◌, Option, None, length, refl, sym, ◌∙◌, subst, ap, arith, leb, ltb}
use Rattle.std.specs.Prelude.{slice_get, unwrap_or}
use Rattle.std.specs.Option.{option_map}
use Rattle.std.proofs.lemmas.Bool.{and_parts, and_from, leb-true, le-leb}
use Rattle.clause_store.specs.declared.Lit.{Lit}
use Rattle.proof_log.specs.declared.line.Line.{Line}
use Rattle.proof_log.specs.declared.line.Line.TheVariants.{Header, Learnt, Zero, One, Unsat, Spent, End}
use Rattle.proof_log.specs.Resolution.{ChainFault, Resolved, no_pivot, two_pivots, result, resolved, after_step, fault_from, chain_fault, clause_at, IdsIn}
use Rattle.log_checker.specs.declared.known.Known.{Known}
use Rattle.log_checker.specs.declared.step.Why.TheVariants.{UnknownId}
use Rattle.log_checker.specs.Known.{clauses_in}
use Rattle.log_checker.specs.Steps.{why_of, ids_known, unknown_id, chain_why, ids_fault, derivation_fault}
use Rattle.log_checker.specs.Blocks.{chain_at, own_chain}
use Rattle.log_checker.proofs.Faults.{unless-true, unless-from, ids_known-in}
use Rattle.log_checker.proofs.Ids.{clauses-append, clauses-length}

get-front : {T : Type 0} (xs ys : List T) (k : ℕ) → k < length xs → slice_get (xs ++ ys) k ≡ slice_get xs k
get-front [] ys k h = absurd (omega (arith, h))
get-front (x ∷ xs) ys zero h = refl
get-front (x ∷ xs) ys (suc k) h = get-front xs ys k (omega (arith, h))

clause-front : (cs ds : List (List Lit)) (id : ℕ) → 0 < id → id ≤ length cs → clause_at (cs ++ ds) id ≡ clause_at cs id
clause-front cs ds id p h = ap (λ o. unwrap_or o []) (get-front cs ds (id - 1) (omega (arith, p, h)))

after-same : (f g : List Lit → Option ChainFault) (r : Resolved) → ((c : List Lit) → f c ≡ g c) → after_step f r ≡ after_step g r
after-same f g no_pivot e = refl
after-same f g two_pivots e = refl
after-same f g (result c) e = e c

from-front : (cs ds : List (List Lit)) (ids : List ℕ) (stated a : List Lit) → IdsIn (length cs) ids
    → fault_from (cs ++ ds) ids stated a ≡ fault_from cs ids stated a
from-front cs ds [] stated a h = refl
from-front cs ds (id ∷ ids) stated a h =
    ap (λ b. after_step (fault_from (cs ++ ds) ids stated) (resolved a b)) (clause-front cs ds id h.0 h.1)
    ∙ after-same (fault_from (cs ++ ds) ids stated) (fault_from cs ids stated) (resolved a (clause_at cs id))
    (λ c. from-front cs ds ids stated c h.2)

chain-front : (cs ds : List (List Lit)) (ids : List ℕ) (stated : List Lit) → IdsIn (length cs) ids
    → chain_fault (cs ++ ds) ids stated ≡ chain_fault cs ids stated
chain-front cs ds [] stated h = refl
chain-front cs ds (id ∷ ids) stated h = ap (fault_from (cs ++ ds) ids stated) (clause-front cs ds id h.0 h.1)
    ∙ from-front cs ds ids stated (clause_at cs id) h.2

why-front : (ks ls : List Known) (ids : List ℕ) (stated : List Lit) → unknown_id (length ks) ids ≡ None
    → chain_why (ks ++ ls) ids stated ≡ chain_why ks ids stated
why-front ks ls ids stated u = ap (λ cs. option_map why_of (chain_fault cs ids stated)) (clauses-append ks ls)
    ∙ ap (option_map why_of) (chain-front (clauses_in ks) (clauses_in ls) ids stated
    (subst (λ n. IdsIn n ids) (sym (clauses-length ks))
    (ids_known-in (length ks) ids (unless-true (ids_known (length ks) ids) UnknownId u))))

known-more : (n m : ℕ) (ids : List ℕ) → n ≤ m → ids_known n ids ≡ true → ids_known m ids ≡ true
known-more n m [] h e = refl
known-more n m (id ∷ ids) h e =
    let p = and_parts (ltb 0 id) (leb id n && ids_known n ids) e in
    let q = and_parts (leb id n) (ids_known n ids) p.1 in
    and_from (ltb 0 id) (leb id m && ids_known m ids) p.0
    (and_from (leb id m) (ids_known m ids) (le-leb id m (omega (arith, h, leb-true id n q.0))) (known-more n m ids h q.1))

unknown-more : (n m : ℕ) (ids : List ℕ) → n ≤ m → unknown_id n ids ≡ None → unknown_id m ids ≡ None
unknown-more n m ids h u = unless-from (ids_known m ids) UnknownId (known-more n m ids h (unless-true (ids_known n ids) UnknownId u))

ids-more : (n m : ℕ) (l : Line) → n ≤ m → ids_fault n l ≡ None → ids_fault m l ≡ None
ids-more n m (Learnt id c chain) h u = unknown-more n m chain h u
ids-more n m (One id b chain) h u = unknown-more n m chain h u
ids-more n m (Unsat chain) h u = unknown-more n m chain h u
ids-more n m (Header vars clauses bits) h u = refl
ids-more n m (Zero id b) h u = refl
ids-more n m Spent h u = refl
ids-more n m End h u = refl

derivation-front : (bits : List Lit) (ks ls : List Known) (l : Line) → ids_fault (length ks) l ≡ None
    → derivation_fault bits (ks ++ ls) l ≡ derivation_fault bits ks l
derivation-front bits ks ls (Learnt id c chain) u = why-front ks ls chain c u
derivation-front bits ks ls (One id b chain) u = why-front ks ls chain _ u
derivation-front bits ks ls (Unsat chain) u = why-front ks ls chain [] u
derivation-front bits ks ls (Header vars clauses n) u = refl
derivation-front bits ks ls (Zero id b) u = refl
derivation-front bits ks ls Spent u = refl
derivation-front bits ks ls End u = refl

length-more : (ks ls : List Known) → length ks ≤ length (ks ++ ls)
length-more [] ls = omega arith
length-more (k ∷ ks) ls = let h = length-more ks ls in omega (arith, h)

-- the chain of a line whose ids were known has the same fault over more clauses
pub own-later : (bits : List Lit) (ks ls : List Known) (l : Line) → ids_fault (length ks) l ≡ None
    → own_chain bits (ks ++ ls) l ≡ derivation_fault bits ks l
own-later bits ks ls l u = ap (chain_at bits (ks ++ ls) l) (ids-more (length ks) (length (ks ++ ls)) l (length-more ks ls) u)
    ∙ derivation-front bits ks ls l u

pub own-now : (bits : List Lit) (ks : List Known) (l : Line) → ids_fault (length ks) l ≡ None
    → own_chain bits ks l ≡ derivation_fault bits ks l
own-now bits ks l u = ap (chain_at bits ks l) u
