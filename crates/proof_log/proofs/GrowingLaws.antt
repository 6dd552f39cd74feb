-- A growing log that gets one more line, and one whose bits are all given.
use Rattle.std.proofs.Common.{◌≡◌, ℕ, ◌+◌, List, [], ◌∷◌, ◌++◌, length, take, drop, Option, Some, None, refl, sym, ap, ◌∙◌, subst, append_assoc}
use Rattle.std.specs.Prelude.{slice_get}
use Rattle.std.proofs.lemmas.List.{take-append-drop}
use Rattle.clause_store.specs.declared.Lit.{Lit}
use Rattle.proof_log.specs.declared.line.Line.{Line}
use Rattle.proof_log.specs.Usefulness.{IsUseful}
use Rattle.proof_log.specs.Lines.{added, with_added, settles, known_after, settled_after, OfLearnt, IsOpen}
use Rattle.proof_log.specs.Logs.{LineHolds, IsSound, AreUseful, IsGrowing}
use Rattle.proof_log.proofs.Logs.{EachLine-push, known_after-push, settled_after-push, IsSound-push}

rest-of : Option Lit → List Lit → List Lit
rest-of None more = more
rest-of (Some l) more = l ∷ more

rest-is : (lit : Option Lit) (given more : List Lit) → with_added given lit ++ more ≡ given ++ rest-of lit more
unfolding rest-of
rest-is None given more = refl
rest-is (Some l) given more = append_assoc given (l ∷ []) more

-- one more line, with the literal of the bit that it settles and the clause that it adds
module _ (vars : ℕ) (input : List (List Lit)) (count : ℕ) (given : List Lit) (known : List (List Lit)) (lines : List Line)
    (lit : Option Lit) (l : Line) (c : Option (List Lit))
    (g : IsGrowing vars input count given known lines) (open_log : IsOpen lines)
    (bit : length (with_added given lit) ≡ length given + settles l)
    (holds : (more : List Lit) → LineHolds (with_added given lit ++ more) known (length given) l)
    (useful : OfLearnt (IsUseful known) l)
    (adds : (more : List Lit) → added (with_added given lit ++ more) l ≡ c) where
  here : (more : List Lit) → LineHolds (given ++ rest-of lit more) (known_after (given ++ rest-of lit more) input lines)
      (settled_after 0 lines) l
  here more =
      let a = subst (λ bits. LineHolds bits known (length given) l) (rest-is lit given more) (holds more) in
      let b = subst (λ k. LineHolds (given ++ rest-of lit more) k (length given) l) (sym (g.knows (rest-of lit more))) a in
      subst (λ n. LineHolds (given ++ rest-of lit more) (known_after (given ++ rest-of lit more) input lines) n l) (sym g.settled) b

  of-use : (more : List Lit) → OfLearnt (IsUseful (known_after (given ++ rest-of lit more) input lines)) l
  of-use more = subst (λ k. OfLearnt (IsUseful k) l) (sym (g.knows (rest-of lit more))) useful

  pub IsGrowing-push : IsGrowing vars input count (with_added given lit) (with_added known c) (lines ++ l ∷ [])
  IsGrowing-push = record {
    settled = settled_after-push 0 lines l ∙ ap (λ n. n + settles l) g.settled ∙ sym bit;
    sound = λ more h.
        let e = rest-is lit given more in
        subst (λ bits. IsSound vars input bits (lines ++ l ∷ [])) (sym e)
        (IsSound-push vars input (given ++ rest-of lit more) lines l (g.sound (rest-of lit more) (ap length (sym e) ∙ h))
        open_log (here more));
    useful = λ more.
        subst (λ bits. AreUseful input bits (lines ++ l ∷ [])) (sym (rest-is lit given more))
        (EachLine-push (λ k n. OfLearnt (IsUseful k)) (given ++ rest-of lit more) input 0 lines l (g.useful (rest-of lit more))
        (of-use more));
    knows = λ more.
        let e = rest-is lit given more in
        subst (λ bits. known_after bits input (lines ++ l ∷ []) ≡ with_added known c) (sym e)
        (known_after-push (given ++ rest-of lit more) input lines l
        ∙ ap (λ k. with_added k (added (given ++ rest-of lit more) l)) (g.knows (rest-of lit more))
        ∙ ap (with_added known) (ap (λ bits. added bits l) (sym e) ∙ adds more));
  }

-- the literal of the next bit
pub get-given : (given more : List Lit) (l : Lit) → slice_get ((given ++ l ∷ []) ++ more) (length given) ≡ Some l
get-given [] more l = refl
get-given (k ∷ given) more l = get-given given more l

-- the log over all bits, once the given literals are the first of them
pub record IsOverBits (vars : ℕ) (input : List (List Lit)) (bits : List Lit) (known : List (List Lit)) (lines : List Line) : Type 0 where
  pub sound : IsSound vars input bits lines
  pub useful : AreUseful input bits lines
  pub knows : known_after bits input lines ≡ known

-- its clauses are over the variables, whatever bits come
pub growing-over : (vars : ℕ) (input : List (List Lit)) (count : ℕ) (given : List Lit) (known : List (List Lit)) (lines : List Line)
    (bits : List Lit) (n : ℕ) →
    IsGrowing vars input count given known lines → count ≡ length bits → given ≡ take n bits → IsOverBits vars input bits known lines
growing-over vars input count given known lines bits n g whole first =
    let e : given ++ drop n bits ≡ bits = ap (λ xs. xs ++ drop n bits) first ∙ take-append-drop n bits in
    record {
      sound = subst (λ xs. IsSound vars input xs lines) e (g.sound (drop n bits) (ap length e ∙ sym whole));
      useful = subst (λ xs. AreUseful input xs lines) e (g.useful (drop n bits));
      knows = subst (λ xs. known_after xs input lines ≡ known) e (g.knows (drop n bits));
    }
