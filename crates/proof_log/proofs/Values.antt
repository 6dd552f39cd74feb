-- The lines of a whole log, and the values of its bits.
use Rattle.std.proofs.Common.{◌≡◌, ℕ, ◌+◌, Bool, true, false, cond, not, ◌||◌, List, [], ◌∷◌, length, Some, refl, sym, ap, ◌∙◌, subst}
use Rattle.std.specs.Prelude.{slice_get}
use Rattle.std.specs.Option.{option_map}
use Rattle.std.proofs.lemmas.Option.{slice_get-map}
use Rattle.clause_store.specs.declared.Lit.{Lit}
use Rattle.clause_store.specs.Lits.{var_of, negation, lit_true, clause_true}
use Rattle.proof_log.specs.declared.line.Line.{Line}
use Rattle.proof_log.specs.declared.line.Line.TheVariants.{Header, Learnt, Zero, One, Unsat, Spent, End}
use Rattle.clause_store.specs.Clauses.{AllTrue}
use Rattle.proof_log.specs.Lines.{added, with_added, settles, known_after, EachLine, AllLines}
use Rattle.proof_log.specs.Logs.{LineHolds, IsSound}
use Rattle.proof_log.specs.Certificates.{bits_at, HasValue}
use Rattle.proof_log.proofs.Logs.{IfAdded, known-each}

-- the value of a bit
pub value-at : (v : ℕ → Bool) (bits : List Lit) (b : ℕ) (l : Lit) (t : Bool) → slice_get bits b ≡ Some l → lit_true v l ≡ t
    → slice_get (bits_at v bits) b ≡ Some t
value-at v bits b l t e f = slice_get-map (lit_true v) bits b ∙ ap (option_map (lit_true v)) e ∙ ap Some f

false-under : (p t : Bool) → (cond (not p) t (not t) || false) ≡ true → cond p t (not t) ≡ false
false-under true true h = sym h
false-under true false h = refl
false-under false true h = refl
false-under false false h = sym h

true-under : (t : Bool) → (t || false) ≡ true → t ≡ true
true-under true h = refl
true-under false h = h

module _ (v : ℕ → Bool) where
  abbrev pub Holds : List Lit → Type 0
  Holds c = clause_true v c ≡ true

  valued-from : (bits : List Lit) (known : List (List Lit)) (n : ℕ) (ls : List Line) → EachLine (LineHolds bits) bits known n ls
      → EachLine (λ k m l. IfAdded Holds (added bits l)) bits known n ls → AllLines (HasValue (bits_at v bits)) ls
  valued-from bits known n [] h a = tt
  valued-from bits known n (l ∷ ls) h a = (by-line l h.0 a.0, valued-from bits (with_added known (added bits l)) (n + settles l) ls h.1 a.1)
    where
      by-line : (l : Line) → LineHolds bits known n l → IfAdded Holds (added bits l) → HasValue (bits_at v bits) l
      by-line (Zero id b) h a =
          let e : slice_get bits b ≡ Some h.2 = ap (slice_get bits) h.1 ∙ h.3 in
          value-at v bits b h.2 false e (false-under h.2.positive (v (var_of h.2))
          (subst (λ o. IfAdded Holds (option_map (λ l. negation l ∷ []) o)) e a))
      by-line (One id b chain) h a =
          let e : slice_get bits b ≡ Some h.2 = ap (slice_get bits) h.1 ∙ h.3 in
          value-at v bits b h.2 true e (true-under (lit_true v h.2) (subst (λ o. IfAdded Holds (option_map (λ l. l ∷ []) o)) e a))
      by-line (Header x y z) h a = tt
      by-line (Learnt id c chain) h a = tt
      by-line (Unsat chain) h a = tt
      by-line Spent h a = tt
      by-line End h a = tt

  -- an assignment that meets all that is known in the end has the bits that the log settles
  pub known-valued : (vars : ℕ) (input : List (List Lit)) (bits : List Lit) (ls : List Line) → IsSound vars input bits ls
      → AllTrue v (known_after bits input ls) → AllTrue v input × AllLines (HasValue (bits_at v bits)) ls
  known-valued vars input bits [] s a = absurd s
  known-valued vars input bits (l ∷ ls) s a = by-line l s.0 a
    where
      by-line : (l : Line) → l ≡ Header vars (length input) (length bits) → AllTrue v (known_after bits input (l ∷ ls)) → AllTrue v input
          × AllLines (HasValue (bits_at v bits)) (l ∷ ls)
      by-line (Header x y z) e a = let k = known-each Holds bits input 0 ls a in (k.0, (tt, valued-from bits input 0 ls s.1 k.1))
      by-line (Learnt id c chain) e a = cc
      by-line (Zero id b) e a = cc
      by-line (One id b chain) e a = cc
      by-line (Unsat chain) e a = cc
      by-line Spent e a = cc
      by-line End e a = cc
