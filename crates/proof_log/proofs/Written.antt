-- The lines of a sound log may be written.
use Rattle.std.proofs.Common.{◌≡◌, ℕ, zero, suc, ◌+◌, ◌-◌, ◌^◌, ◌<◌, Bool, true, not, List, [], ◌∷◌, length, Some, refl, ap, arith}
use Rattle.std.specs.Prelude.{◌==◌, nat_lt}
use Rattle.std.specs.List.{list_all}
use Rattle.std.proofs.lemmas.Bool.{and_from, ne_eqb, lt-ltb}
use Rattle.std.proofs.lemmas.Option.{none-some}
use Rattle.clause_store.specs.declared.Lit.{Lit}
use Rattle.clause_store.specs.Lits.{var_of, AllBelow}
use Rattle.clause_store.specs.Clauses.{at_id}
use Rattle.proof_log.specs.declared.line.Line.{Line}
use Rattle.proof_log.specs.declared.line.Line.TheVariants.{Header, Learnt, Zero, One, Unsat, Spent, End}
use Rattle.proof_log.specs.Derivations.{DerivesFrom, IsDerived}
use Rattle.proof_log.specs.Lines.{added, with_added, settles, AllLines, OfLearnt, EachLine}
use Rattle.proof_log.specs.Logs.{LineHolds, IsSound}
use Rattle.proof_log.specs.Certificates.{AreOver}
use Rattle.proof_log.specs.Texts.{is_chain, may_write}

abbrev no_zero : List ℕ → Bool
no_zero ids = list_all (λ id. not (id == 0)) ids

no-zero : (known : List (List Lit)) (id : ℕ) (c : List Lit) → at_id known id ≡ Some c → not (id == 0) ≡ true
no-zero known zero c e = absurd (none-some c e)
no-zero known (suc k) c e = ap not (ne_eqb (suc k) 0 (λ h. omega (arith, h)))

derives-ids : (known : List (List Lit)) (a : List Lit) (ids : List ℕ) (stated : List Lit) → DerivesFrom known a ids stated
    → no_zero ids ≡ true
derives-ids known a [] stated d = refl
derives-ids known a (id ∷ ids) stated d = and_from (not (id == 0)) (no_zero ids) (no-zero known id d.0 d.3)
    (derives-ids known d.1 ids stated d.5)

-- a chain that derives has an id, and no id 0
chain-written : (known : List (List Lit)) (chain : List ℕ) (stated : List Lit) → IsDerived known chain stated → is_chain chain ≡ true
chain-written known [] stated d = absurd d
chain-written known (id ∷ ids) stated d =
    and_from (not (length (id ∷ ids) == 0)) (no_zero (id ∷ ids)) (ap not (ne_eqb (length (id ∷ ids)) 0 (λ h. omega (arith, h))))
    (and_from (not (id == 0)) (no_zero ids) (no-zero known id d.0 d.1) (derives-ids known d.0 ids stated d.2))

lits-written : (n : ℕ) (c : List Lit) → n < 2 ^ 64 → AllBelow n c → list_all (λ l. nat_lt (var_of l) (2 ^ 64 - 1)) c ≡ true
lits-written n [] h b = refl
lits-written n (l ∷ c) h b =
    and_from (nat_lt (var_of l) (2 ^ 64 - 1)) (list_all (λ k. nat_lt (var_of k) (2 ^ 64 - 1)) c)
    (lt-ltb (var_of l) (2 ^ 64 - 1) (let x = b.0 in omega (arith, x, h))) (lits-written n c h b.1)

module _ (n : ℕ) (small : n < 2 ^ 64) (bits : List Lit) where
  line-written : (known : List (List Lit)) (k : ℕ) (l : Line) → LineHolds bits known k l → OfLearnt (AllBelow n) l → may_write l ≡ true
  line-written known k (Learnt id c chain) h b =
      and_from (list_all (λ l. nat_lt (var_of l) (2 ^ 64 - 1)) c) (is_chain chain) (lits-written n c small b)
      (chain-written known chain c h.2)
  line-written known k (One id b chain) h o = chain-written known chain (h.2 ∷ []) h.4
  line-written known k (Unsat chain) h o = chain-written known chain [] h
  line-written known k (Header x y z) h o = refl
  line-written known k (Zero id b) h o = refl
  line-written known k Spent h o = refl
  line-written known k End h o = refl

  lines-written : (known : List (List Lit)) (k : ℕ) (ls : List Line) → EachLine (LineHolds bits) bits known k ls → AreOver n ls
      → AllLines (λ l. may_write l ≡ true) ls
  lines-written known k [] h o = tt
  lines-written known k (l ∷ ls) h o =
      (line-written known k l h.0 o.0, lines-written (with_added known (added bits l)) (k + settles l) ls h.1 o.1)

pub sound-written : (vars : ℕ) (input : List (List Lit)) (bits : List Lit) (lines : List Line) → vars < 2 ^ 64
    → IsSound vars input bits lines → AreOver vars lines → AllLines (λ l. may_write l ≡ true) lines
sound-written vars input bits [] small s o = absurd s
sound-written vars input bits (l ∷ ls) small s o = (by-line l s.0, lines-written vars small bits input 0 ls s.1 o.1)
  where
    by-line : (l : Line) → l ≡ Header vars (length input) (length bits) → may_write l ≡ true
    by-line (Header x y z) e = refl
    by-line (Learnt id c chain) e = cc
    by-line (Zero id b) e = cc
    by-line (One id b chain) e = cc
    by-line (Unsat chain) e = cc
    by-line Spent e = cc
    by-line End e = cc
