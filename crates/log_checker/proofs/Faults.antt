-- A line has no fault exactly where it keeps the rules.
use Rattle.std.proofs.Common.{◌≡◌, ℕ, zero, suc, ◌+◌, ◌<◌, ◌≤◌, Bool, true, false, List, [], ◌∷◌, Option, Some, None, length, refl, sym, ◌∙◌, subst, ap, arith}
use Rattle.std.specs.Prelude.{not, ◌&&◌, ◌||◌, slice_get, is_some, eqb, if◌then◌else◌}
use Rattle.std.proofs.Common.{ltb, leb}
use Rattle.std.specs.Option.{option_map}
use Rattle.std.proofs.lemmas.Option.{none-some}
use Rattle.std.proofs.lemmas.Bool.{and_parts, and_from, false≢true, eqb-true, eq-eqb, ltb-true, lt-ltb, leb-true, le-leb}
use Rattle.clause_store.specs.declared.Lit.{Lit}
use Rattle.clause_store.specs.Lits.{has, IsClause}
use Rattle.proof_log.specs.declared.line.Line.{Line}
use Rattle.proof_log.specs.declared.line.Line.TheVariants.{Header, Learnt, Zero, One, Unsat, Spent, End}
use Rattle.clause_store.specs.Clauses.{at_id}
use Rattle.proof_log.specs.Derivations.{DerivesFrom, IsDerived}
use Rattle.proof_log.specs.Resolution.{ChainFault, chain_fault, IdsIn}
use Rattle.proof_log.specs.Known.{AllClauses}
use Rattle.proof_log.specs.Usefulness.{IsNew}
use Rattle.proof_log.specs.Logs.{LineHolds, IsDistinct}
use Rattle.proof_log.proofs.Ids.{at_id-within}
use Rattle.proof_log.proofs.Chains.{chain_fault-is}
use Rattle.clause_store.proofs.Sets.{same_clause}
use Rattle.log_checker.specs.declared.step.Why.{Why}
use Rattle.log_checker.specs.declared.step.Why.TheVariants.{WrongCounts, OutOfOrder, UnknownId, WrongBit, NotNew}
use Rattle.log_checker.specs.declared.known.Known.{Known}
use Rattle.log_checker.specs.Known.{clauses_in, rivals_in}
use Rattle.log_checker.specs.Steps.{CheckerState, or_else, unless, same_lits, is_among, next_id, next_bit, may_stand_later, ids_known, why_of, unknown_id, chain_why, bit_clause, bit_value_at, has_value, is_first_line, ids_fault, derivation_fault, own_line_fault, place_fault, fault}
use Rattle.log_checker.proofs.Values.{value-is, is-value}
use Rattle.log_checker.proofs.Places.{same_lits-is, same_lits-refl}
use Rattle.log_checker.proofs.Ids.{clauses-length}
use Rattle.log_checker.specs.Kinds.{Suits}
use Rattle.clause_store.specs.Lits.{IsClause}
use Rattle.proof_log.specs.Lines.{OfLearnt, learnt}

-- what the type of a line says of its clause
abbrev pub IsTyped : Line → Type 0
IsTyped l = OfLearnt IsClause l

pub or_else-parts : (a b : Option Why) → or_else a b ≡ None → (a ≡ None) × (b ≡ None)
or_else-parts None b e = (refl, e)
or_else-parts (Some w) b e = absurd (none-some w (sym e))

pub or_else-both : (a b : Option Why) → a ≡ None → b ≡ None → or_else a b ≡ None
or_else-both a b e f = rw e f

pub unless-true : (b : Bool) (w : Why) → unless b w ≡ None → b ≡ true
unless-true true w e = refl
unless-true false w e = absurd (none-some w (sym e))

pub unless-from : (b : Bool) (w : Why) → b ≡ true → unless b w ≡ None
unless-from b w e = rw e refl

-- lists among others, as sets
new-from : (ds : List (List Lit)) (c : List Lit) → IsClause c → AllClauses ds → is_among ds c ≡ false → IsNew ds c
new-from [] c i a e = tt
new-from (d ∷ ds) c i a e = go (same_lits d c) (is_among ds c) refl e (new-from ds c i a.1)
  where
    go : (x y : Bool) → same_lits d c ≡ x → (x || y) ≡ false → (y ≡ false → IsNew ds c) → IsNew (d ∷ ds) c
    go true y q f ih = absurd (false≢true (sym f))
    go false y q f ih = ((λ s. false≢true (sym q ∙ subst (λ x. same_lits d x ≡ true) (same_clause d c a.0 i s) (same_lits-refl d))), ih f)

new-is : (ds : List (List Lit)) (c : List Lit) → IsNew ds c → is_among ds c ≡ false
new-is [] c n = refl
new-is (d ∷ ds) c n = go (same_lits d c) refl (new-is ds c n.1)
  where
    go : (x : Bool) → same_lits d c ≡ x → is_among ds c ≡ false → (x || is_among ds c) ≡ false
    go true q ih = absurd (n.0 (λ l. ap (λ x. has x l) (same_lits-is d c q)))
    go false q ih = ih

not-true : (b : Bool) → not b ≡ true → b ≡ false
not-true true e = sym e
not-true false e = refl

-- chains
pub ids_known-in : (n : ℕ) (ids : List ℕ) → ids_known n ids ≡ true → IdsIn n ids
ids_known-in n [] e = tt
ids_known-in n (id ∷ ids) e =
    let p = and_parts (ltb 0 id) (leb id n && ids_known n ids) e in
    let q = and_parts (leb id n) (ids_known n ids) p.1 in
    (ltb-true 0 id p.0, leb-true id n q.0, ids_known-in n ids q.1)

in-ids_known : (n : ℕ) (ids : List ℕ) → IdsIn n ids → ids_known n ids ≡ true
in-ids_known n [] h = refl
in-ids_known n (id ∷ ids) h = and_from (ltb 0 id) (leb id n && ids_known n ids) (lt-ltb 0 id h.0)
    (and_from (leb id n) (ids_known n ids) (le-leb id n h.1) (in-ids_known n ids h.2))

within : (known : List (List Lit)) (id : ℕ) (c : List Lit) → at_id known id ≡ Some c → (0 < id) × (id ≤ length known)
within known id c e = let h = at_id-within known id c e in (h.0, omega (arith, h.0, h.1))

derives-ids : (known : List (List Lit)) (a : List Lit) (ids : List ℕ) (c : List Lit) → DerivesFrom known a ids c → IdsIn (length known) ids
derives-ids known a [] c d = tt
derives-ids known a (id ∷ ids) c d = let h = within known id d.0 d.3 in (h.0, h.1, derives-ids known d.1 ids c d.5)

derived-ids : (known : List (List Lit)) (ids : List ℕ) (c : List Lit) → IsDerived known ids c → IdsIn (length known) ids
derived-ids known [] c d = absurd d
derived-ids known (id ∷ ids) c d = let h = within known id d.0 d.1 in (h.0, h.1, derives-ids known d.0 ids c d.2)

mapped-none : (o : Option ChainFault) → option_map why_of o ≡ None → o ≡ None
mapped-none None e = refl
mapped-none (Some f) e = absurd (none-some (why_of f) (sym e))

ids-in : (ks : List Known) (ids : List ℕ) → unknown_id (length ks) ids ≡ None → IdsIn (length (clauses_in ks)) ids
ids-in ks ids e = subst (λ n. IdsIn n ids) (sym (clauses-length ks))
    (ids_known-in (length ks) ids (unless-true (ids_known (length ks) ids) UnknownId e))

chain-derived : (ks : List Known) (ids : List ℕ) (c : List Lit) → AllClauses (clauses_in ks) → unknown_id (length ks) ids ≡ None
    → chain_why ks ids c ≡ None → IsDerived (clauses_in ks) ids c
chain-derived ks ids c a e f = (chain_fault-is (clauses_in ks) ids c a (ids-in ks ids e)).0
    (mapped-none (chain_fault (clauses_in ks) ids c) f)

derived-chain : (ks : List Known) (ids : List ℕ) (c : List Lit) → AllClauses (clauses_in ks) → IsDerived (clauses_in ks) ids c
    → (unknown_id (length ks) ids ≡ None) × (chain_why ks ids c ≡ None)
derived-chain ks ids c a d =
    let i = derived-ids (clauses_in ks) ids c d in (
      unless-from (ids_known (length ks) ids) UnknownId (in-ids_known (length ks) ids (subst (λ n. IdsIn n ids) (clauses-length ks) i)),
      ap
          (option_map why_of) ((chain_fault-is (clauses_in ks) ids c a i).1 d),
    )

next-id : (s : CheckerState) (id : ℕ) → next_id s id ≡ true → id ≡ length (clauses_in s.known) + 1
next-id s id e = eqb-true id (length s.known + 1) e ∙ ap (λ n. n + 1) (sym (clauses-length s.known))

id-next : (s : CheckerState) (id : ℕ) → id ≡ length (clauses_in s.known) + 1 → next_id s id ≡ true
id-next s id e = eq-eqb id (length s.known + 1) (e ∙ ap (λ n. n + 1) (clauses-length s.known))

-- bits
get-some : {T : Type 0} (xs : List T) (k : ℕ) → k < length xs → (x : T) × (slice_get xs k ≡ Some x)
get-some [] k h = absurd (omega (arith, h))
get-some (x ∷ xs) zero h = (x, refl)
get-some (x ∷ xs) (suc k) h = get-some xs k (omega (arith, h))

some-get : {T : Type 0} (xs : List T) (k : ℕ) (x : T) → slice_get xs k ≡ Some x → k < length xs
some-get [] k x e = absurd (none-some x e)
some-get (y ∷ xs) zero x e = omega arith
some-get (y ∷ xs) (suc k) x e = let h = some-get xs k x e in omega (arith, h)

valued : (values : Option (List Bool)) (b : ℕ) (v : Bool) → bit_value_at values b ≡ Some v → is_some values ≡ true
valued None b v e = absurd (none-some v e)
valued (Some vs) b v e = refl

not-valued : (values : Option (List Bool)) → not (is_some values) ≡ true → values ≡ None
not-valued None e = refl
not-valued (Some vs) e = absurd (false≢true e)

some-valued : (values : Option (List Bool)) → is_some values ≡ true → (vs : List Bool) × (values ≡ Some vs)
some-valued None e = absurd (false≢true e)
some-valued (Some vs) e = (vs, refl)

pub bit-next : (s : CheckerState) (b : ℕ) → next_bit s b ≡ true → (b ≡ s.settled) × (l : Lit) × (slice_get s.bits s.settled ≡ Some l)
bit-next s b e =
    let p = and_parts (eqb b s.settled) (ltb b (length s.bits)) e in
    let q = eqb-true b s.settled p.0 in
    let h : s.settled < length s.bits = subst (λ x. x < length s.bits) q (ltb-true b (length s.bits) p.1) in
    let g = get-some s.bits s.settled h in
    (q, g.0, g.1)

next-bit : (s : CheckerState) (b : ℕ) (l : Lit) → b ≡ s.settled → slice_get s.bits s.settled ≡ Some l → next_bit s b ≡ true
next-bit s b l e g = and_from (eqb b s.settled) (ltb b (length s.bits)) (eq-eqb b s.settled e)
    (lt-ltb b (length s.bits) (rw e (some-get s.bits s.settled l g)))

-- a line that may stand and has no fault keeps the rules, and the other way round
abbrev pub Keeps : CheckerState → Line → Type 0
Keeps s l = LineHolds s.bits (clauses_in s.known) s.settled l × IsDistinct (rivals_in s.known) (learnt l) × Suits s.values l

abbrev pub IsClear : CheckerState → Line → Type 0
IsClear s l = (ids_fault (length s.known) l ≡ None) × (derivation_fault s.bits s.known l ≡ None) × (own_line_fault s l ≡ None)

pub keeps-from : (s : CheckerState) (l : Line) → AllClauses (clauses_in s.known) → AllClauses (rivals_in s.known) → IsTyped l
    → may_stand_later s l ≡ true → IsClear s l → Keeps s l
keeps-from s (Header vars clauses bits) a r t m e = absurd (false≢true m)
keeps-from s (Learnt id c chain) a r t m e = (
  (next-id s id m, t, chain-derived s.known chain c a e.0 e.1),
  new-from (rivals_in s.known) c t r
      (not-true (is_among (rivals_in s.known) c) (unless-true (not (is_among (rivals_in s.known) c)) NotNew e.2)),
  tt,
)
keeps-from s (Zero id b) a r t m e =
    let p = and_parts (is_some s.values) (next_id s id && next_bit s b) m in
    let q = and_parts (next_id s id) (next_bit s b) p.1 in
    let n = bit-next s b q.1 in
    ((next-id s id q.0, n.0, n.1, n.2), tt, value-is (bit_value_at s.values b) false (unless-true (has_value s b false) WrongBit e.2))
keeps-from s (One id b chain) a r t m e =
    let p = and_parts (is_some s.values) (next_id s id && next_bit s b) m in
    let q = and_parts (next_id s id) (next_bit s b) p.1 in
    let n = bit-next s b q.1 in
    let c = bit_clause (slice_get s.bits b) in
    let same : c ≡ n.1 ∷ [] = ap bit_clause (ap (slice_get s.bits) n.0 ∙ n.2) in (
      (next-id s id q.0, n.0, n.1, n.2, subst (λ x. IsDerived (clauses_in s.known) chain x) same (chain-derived s.known chain c a e.0 e.1)),
      tt,
      value-is (bit_value_at s.values b) true (unless-true (has_value s b true) WrongBit e.2),
    )
keeps-from s (Unsat chain) a r t m e = (chain-derived s.known chain [] a e.0 e.1, tt, not-valued s.values m)
keeps-from s Spent a r t m e = absurd (false≢true m)
keeps-from s End a r t m e = let p = and_parts (is_some s.values) (eqb s.settled (length s.bits)) m in
    (eqb-true s.settled (length s.bits) p.1, tt, some-valued s.values p.0)

pub from-keeps : (s : CheckerState) (l : Line) → AllClauses (clauses_in s.known) → Keeps s l → (may_stand_later s l ≡ true) × IsClear s l
from-keeps s (Header vars clauses bits) a k = absurd k.0
from-keeps s (Learnt id c chain) a k =
    let d = derived-chain s.known chain c a k.0.2 in
    (id-next s id k.0.0, (d.0, d.1, ap (λ b. unless (not b) NotNew) (new-is (rivals_in s.known) c k.1)))
from-keeps s (Zero id b) a k = (
  and_from (is_some s.values) (next_id s id && next_bit s b) (valued s.values b false k.2)
      (and_from (next_id s id) (next_bit s b) (id-next s id k.0.0) (next-bit s b k.0.2 k.0.1 k.0.3)),
  (refl, refl, unless-from (has_value s b false) WrongBit (is-value (bit_value_at s.values b) false k.2)),
)
from-keeps s (One id b chain) a k =
    let c = bit_clause (slice_get s.bits b) in
    let same : k.0.2 ∷ [] ≡ c = sym (ap bit_clause (ap (slice_get s.bits) k.0.1 ∙ k.0.3)) in
    let d = derived-chain s.known chain c a (subst (λ x. IsDerived (clauses_in s.known) chain x) same k.0.4) in (
      and_from (is_some s.values) (next_id s id && next_bit s b) (valued s.values b true k.2)
          (and_from (next_id s id) (next_bit s b) (id-next s id k.0.0) (next-bit s b k.0.2 k.0.1 k.0.3)),
      (d.0, d.1, unless-from (has_value s b true) WrongBit (is-value (bit_value_at s.values b) true k.2)),
    )
from-keeps s (Unsat chain) a k = let d = derived-chain s.known chain [] a k.0 in (ap (λ o. not (is_some o)) k.2, (d.0, d.1, refl))
from-keeps s Spent a k = absurd k.2
from-keeps s End a k = (
  and_from (is_some s.values) (eqb s.settled (length s.bits)) (ap is_some k.2.1)
      (eq-eqb s.settled (length s.bits) k.0),
  (refl, refl, refl),
)

-- a line over a log that goes on
place-open : (s : CheckerState) (l : Line) → eqb s.lines 0 ≡ false → s.ended ≡ false
    → place_fault s l ≡ or_else (unless (may_stand_later s l) OutOfOrder) (ids_fault (length s.known) l)
place-open s l n o =
    ap (λ b. if b then unless (is_first_line s l) WrongCounts else or_else (unless (not s.ended && may_stand_later s l) OutOfOrder)
    (ids_fault (length s.known) l)) n
    ∙ ap (λ b. or_else (unless (not b && may_stand_later s l) OutOfOrder) (ids_fault (length s.known) l)) o

pub fault-keeps : (s : CheckerState) (l : Line) → AllClauses (clauses_in s.known) → AllClauses (rivals_in s.known) → IsTyped l
    → eqb s.lines 0 ≡ false → s.ended ≡ false → fault s l ≡ None → Keeps s l
fault-keeps s l a r t n o e =
    let p = or_else-parts (place_fault s l) (or_else (derivation_fault s.bits s.known l) (own_line_fault s l)) e in
    let q = or_else-parts (derivation_fault s.bits s.known l) (own_line_fault s l) p.1 in
    let m = or_else-parts (unless (may_stand_later s l) OutOfOrder) (ids_fault (length s.known) l) (sym (place-open s l n o) ∙ p.0) in
    keeps-from s l a r t (unless-true (may_stand_later s l) OutOfOrder m.0) (m.1, q.0, q.1)

pub keeps-fault : (s : CheckerState) (l : Line) → AllClauses (clauses_in s.known) → eqb s.lines 0 ≡ false → s.ended ≡ false → Keeps s l
    → fault s l ≡ None
keeps-fault s l a n o k =
    let p = from-keeps s l a k in
    or_else-both (place_fault s l) (or_else (derivation_fault s.bits s.known l) (own_line_fault s l))
    (place-open s l n o ∙ or_else-both (unless (may_stand_later s l) OutOfOrder) (ids_fault (length s.known) l)
    (unless-from (may_stand_later s l) OutOfOrder p.0) p.1.0)
    (or_else-both (derivation_fault s.bits s.known l) (own_line_fault s l) p.1.1 p.1.2)
