-- What the clauses that a refutation uses show of assignments.
use Prim.Native.Nat.{zero, suc}
use Rattle.std.proofs.Common.{◌≡◌, ◌⊎◌, ℕ, ◌+◌, Bool, true, false, ◌||◌, ◌&&◌, not, List, [], ◌∷◌, ◌++◌, Some, inl, inr, length, refl, sym, ◌∙◌, subst, ap, arith, eqb}
use Rattle.std.proofs.lemmas.Bool.{false≢true, or_left, or_right, and_from}
use Rattle.std.proofs.lemmas.Bool.Decides.{eqb_tells}
use Rattle.std.proofs.lemmas.Option.{same_Some, none-some}
use Rattle.clause_store.specs.declared.Lit.{Lit}
use Rattle.clause_store.specs.declared.Label.{Label}
use Rattle.clause_store.specs.declared.Label.TheVariants.{Structure, Demand}
use Rattle.clause_store.specs.declared.list.Entry.{Entry}
use Rattle.clause_store.specs.Lits.{clause_true, IsClause}
use Rattle.clause_store.specs.Clauses.{Clauses, clauses_of, at_id, counts, entry_met, Meets}
use Rattle.clause_store.proofs.Sets.{OneSign, one_sign, has-true, true-has}
use Rattle.proof_log.specs.declared.line.Line.{Line}
use Rattle.proof_log.specs.declared.line.Line.TheVariants.{Header, Learnt, Zero, One, Unsat, Spent, End}
use Rattle.proof_log.specs.Known.{AllClauses}
use Rattle.proof_log.specs.Derivations.{DerivesFrom, IsDerived}
use Rattle.proof_log.specs.Lines.{ends, AllLines, LastIs, EachLine, SettlesNone}
use Rattle.proof_log.specs.Logs.{LineHolds}
use Rattle.proof_log.specs.Certificates.{IsUnsat}
use Rattle.proof_log.proofs.Resolvents.{resolvent_holds, resolvent_one_sign}
use Rattle.explain_failure.specs.Encodings.{IsCompleteFor}
use Rattle.explain_failure.specs.Uses.{stands, AreReasons, IsRefuted, chain_of, is_user, used_by}
use Rattle.explain_failure.proofs.Using.{used-is, head-unsat}

-- a clause that is derived from true ones is true
abbrev pub AreGood : (ℕ → Bool) → List (List Lit) → List ℕ → Type 0
AreGood v known ids = (id : ℕ) (c : List Lit) → stands ids id ≡ true → at_id known id ≡ Some c → clause_true v c ≡ true

at_id-signs : (known : List (List Lit)) (id : ℕ) (c : List Lit) → AllClauses known → at_id known id ≡ Some c → OneSign c
at_id-signs known zero c a e = absurd (none-some c e)
at_id-signs [] (suc k) c a e = absurd (none-some c e)
at_id-signs (d ∷ known) (suc zero) c a e = subst OneSign (same_Some d c e) (λ l m. one_sign d l m a.0)
at_id-signs (d ∷ known) (suc (suc k)) c a e = at_id-signs known (suc k) c a.1 e

stands-first : (id : ℕ) (ids : List ℕ) → stands (id ∷ ids) id ≡ true
stands-first id ids = or_left (eqb id id) (stands ids id) (elim (eqb_tells id id) [ inl q ↦ q.0 | inr q ↦ absurd (q.1 refl) ])

good-rest : (v : ℕ → Bool) (known : List (List Lit)) (id : ℕ) (ids : List ℕ) → AreGood v known (id ∷ ids) → AreGood v known ids
good-rest v known id ids g x c s e = g x c (or_right (eqb id x) (stands ids x) s) e

from-good : (v : ℕ → Bool) (known : List (List Lit)) (a : List Lit) (ids : List ℕ) (stated : List Lit) → AllClauses known
    → AreGood v known ids → OneSign a → clause_true v a ≡ true → DerivesFrom known a ids stated → clause_true v stated ≡ true
from-good v known a [] stated k g o t d = let h = true-has v a t in has-true v stated h.0 (d h.0 h.1) h.2
from-good v known a (id ∷ ids) stated k g o t d =
    let sign = at_id-signs known id d.0 k d.3 in
    from-good v known d.1 ids stated k (good-rest v known id ids g) (resolvent_one_sign a d.0 d.1 d.2 o sign d.4)
    (resolvent_holds v a d.0 d.1 d.2 o sign d.4 t (g id d.0 (stands-first id ids) d.3)) d.5

derived-good : (v : ℕ → Bool) (known : List (List Lit)) (ids : List ℕ) (stated : List Lit) → AllClauses known → AreGood v known ids
    → IsDerived known ids stated → clause_true v stated ≡ true
derived-good v known [] stated k g d = absurd d
derived-good v known (id ∷ ids) stated k g d =
    from-good v known d.0 ids stated k (good-rest v known id ids g) (at_id-signs known id d.0 k d.1)
    (g id d.0 (stands-first id ids) d.1) d.2

-- where what the lines use is true, they do not refute
abbrev pub UsedTrue : (ℕ → Bool) → List (List Lit) → List Line → Type 0
UsedTrue v known ls = (id : ℕ) (c : List Lit) → used_by ls id ≡ true → at_id known id ≡ Some c → clause_true v c ≡ true

at-last : (known : List (List Lit)) (d : List Lit) (id : ℕ) (c : List Lit) → at_id (known ++ d ∷ []) id ≡ Some c
    → (at_id known id ≡ Some c) ⊎ ((id ≡ length known + 1) × (d ≡ c))
at-last known d zero c e = absurd (none-some c e)
at-last [] d (suc zero) c e = inr (omega arith, same_Some d c e)
at-last [] d (suc (suc k)) c e = absurd (none-some c e)
at-last (b ∷ known) d (suc zero) c e = inl e
at-last (b ∷ known) d (suc (suc k)) c e = elim (at-last known d (suc k) c e) [
  | inl f ↦ inl f
  | inr f ↦ inr (omega (arith, f.0), f.1)
]

clauses-push : (known : List (List Lit)) (c : List Lit) → AllClauses known → IsClause c → AllClauses (known ++ c ∷ [])
clauses-push [] c a i = (i, tt)
clauses-push (d ∷ known) c a i = (a.0, clauses-push known c a.1 i)

true-rest : (v : ℕ → Bool) (known : List (List Lit)) (l : Line) (ls : List Line) → UsedTrue v known (l ∷ ls) → UsedTrue v known ls
true-rest v known l ls t id c u e = t id c (or_left (used_by ls id) (is_user l (used_by ls) && stands (chain_of l) id) u) e

true-chain : (v : ℕ → Bool) (known : List (List Lit)) (l : Line) (ls : List Line) → UsedTrue v known (l ∷ ls)
    → is_user l (used_by ls) ≡ true → AreGood v known (chain_of l)
true-chain v known l ls t u id c s e =
    t id c (or_right (used_by ls id) (is_user l (used_by ls) && stands (chain_of l) id)
    (and_from (is_user l (used_by ls)) (stands (chain_of l) id) u s)) e

not-unsat : (l : Line) → ends l ≡ false → IsUnsat l → ⊥
not-unsat l e u = false≢true (sym e ∙ ap ends u.1)

spent-unsat : (chain : List ℕ) → Spent ≡ Unsat chain → ⊥
spent-unsat chain q = cc

end-unsat : (chain : List ℕ) → End ≡ Unsat chain → ⊥
end-unsat chain q = cc

last-tail : (l : Line) (ls : List Line) → (IsUnsat l → ⊥) → LastIs IsUnsat (l ∷ ls) → LastIs IsUnsat ls
last-tail l [] f h = f h
last-tail l (k ∷ ls) f h = h

pub refutes-none : (v : ℕ → Bool) (bits : List Lit) (known : List (List Lit)) (n : ℕ) (ls : List Line) → AllClauses known
    → EachLine (LineHolds bits) bits known n ls → AllLines SettlesNone ls → LastIs IsUnsat ls → UsedTrue v known ls → ⊥
refutes-none v bits known n [] a e s h t = absurd h
refutes-none v bits known n (Header vars clauses m ∷ ls) a e s h t = absurd e.0
refutes-none v bits known n (Zero id b ∷ ls) a e s h t = absurd (omega (arith, s.0))
refutes-none v bits known n (One id b chain ∷ ls) a e s h t = absurd (omega (arith, s.0))
refutes-none v bits known n (Unsat chain ∷ ls) a e s h t =
    false≢true (derived-good v known chain [] a (true-chain v known (Unsat chain) ls t refl) e.0)
refutes-none v bits known n (Spent ∷ ls) a e s h t =
    refutes-none v bits known (n + 0) ls a e.1 s.1 (last-tail Spent ls (λ u. spent-unsat u.0 u.1) h) (true-rest v known Spent ls t)
refutes-none v bits known n (End ∷ ls) a e s h t =
    refutes-none v bits known (n + 0) ls a e.1 s.1 (last-tail End ls (λ u. end-unsat u.0 u.1) h) (true-rest v known End ls t)
refutes-none v bits known n (Learnt id c chain ∷ ls) a e s h t =
    refutes-none v bits (known ++ c ∷ []) (n + 0) ls (clauses-push known c a e.0.1) e.1 s.1
    (last-tail (Learnt id c chain) ls (λ u. not-unsat (Learnt id c chain) refl u) h) used
  where
    used : UsedTrue v (known ++ c ∷ []) ls
    used x d u g = elim (at-last known c x d g) [
      | inl f ↦ true-rest v known (Learnt id c chain) ls t x d u f
      | inr f ↦ subst (λ y. clause_true v y ≡ true) f.1
          (derived-good v known chain c a
          (true-chain v known (Learnt id c chain) ls t (subst (λ y. used_by ls y ≡ true) (f.0 ∙ sym e.0.0) u)) e.0.2)
    ]

-- an assignment that meets the structure and the reasons makes each used input clause true
meets-at : (asked v : ℕ → Bool) (es : List Entry) (id : ℕ) (e : Entry) → Meets asked v es → at_id es id ≡ Some e
    → entry_met asked v e ≡ true
meets-at asked v es zero e m g = absurd (none-some e g)
meets-at asked v [] (suc k) e m g = absurd (none-some e g)
meets-at asked v (f ∷ es) (suc zero) e m g = subst (λ x. entry_met asked v x ≡ true) (same_Some f e g) m.0
meets-at asked v (f ∷ es) (suc (suc k)) e m g = meets-at asked v es (suc k) e m.1 g

met-true : (asked v : ℕ → Bool) (e : Entry) → entry_met asked v e ≡ true → counts asked e.label ≡ true → clause_true v e.clause ≡ true
met-true asked v e m c = by-bool (counts asked e.label) c m
  where
    by-bool : (b : Bool) → b ≡ true → (not b || clause_true v e.clause) ≡ true → clause_true v e.clause ≡ true
    by-bool true q f = f
    by-bool false q f = absurd (false≢true q)

at-entry : (es : List Entry) (id : ℕ) (c : List Lit) → at_id (clauses_of es) id ≡ Some c → (e : Entry) × (at_id es id ≡ Some e)
    × (e.clause ≡ c)
at-entry es zero c g = absurd (none-some c g)
at-entry [] (suc k) c g = absurd (none-some c g)
at-entry (e ∷ es) (suc zero) c g = (e, refl, same_Some e.clause c g)
at-entry (e ∷ es) (suc (suc k)) c g = at-entry es (suc k) c g

-- no assignment meets the structure and the reasons
pub no-model : (s : Clauses) (lines : List Line) (ds : List ℕ) (v : ℕ → Bool) → AllClauses (clauses_of s.entries) → IsRefuted s lines
    → AreReasons s.entries lines ds → Meets (stands ds) v s.entries → ⊥
no-model s [] ds v a r q m = r.1.sound
no-model s (l ∷ ls) ds v a r q m =
    refutes-none v r.0 (clauses_of s.entries) 0 ls a r.1.sound.1 r.1.no_bit.1
    (last-tail l ls (λ u. head-unsat s.vars (length (clauses_of s.entries)) (length r.0) u.0 (sym r.1.sound.0 ∙ u.1)) r.1.last) used
  where
    counted : (id : ℕ) (e : Entry) → used_by ls id ≡ true → at_id s.entries id ≡ Some e → (k : Label) → e.label ≡ k
        → counts (stands ds) k ≡ true
    counted id e u g Structure p = refl
    counted id e u g (Demand d) p = (q.exact d).1 (
      id,
      e,
      g,
      p,
      (used-is s.vars (clauses_of s.entries) r.0 (l ∷ ls) r.1.sound id).0
          (or_left (used_by ls id) (is_user l (used_by ls) && stands (chain_of l) id) u),
    )

    used : UsedTrue v (clauses_of s.entries) ls
    used id c u g =
        let e = at-entry s.entries id c g in
        subst (λ x. clause_true v x ≡ true) e.2
        (met-true (stands ds) v e.0 (meets-at (stands ds) v s.entries id e.0 m e.1) (counted id e.0 u e.1 e.0.label refl))

-- nothing is right for the reasons alone
pub nothing-right : {G : Type 0} (is_right : (ℕ → Bool) → G → Bool) (s : Clauses) (lines : List Line) (ds : List ℕ)
    → IsCompleteFor is_right s → AllClauses (clauses_of s.entries) → IsRefuted s lines → AreReasons s.entries lines ds
    → (g : G) → is_right (stands ds) g ≡ true → ⊥
nothing-right is_right s lines ds e a r q g h = let m = e (stands ds) g h in no-model s lines ds m.0 a r q m.1
