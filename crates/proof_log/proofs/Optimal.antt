-- No assignment that meets the clauses has smaller bits than a certificate says, and none meets refuted ones.
use Rattle.std.proofs.Common.{◌≡◌, ℕ, zero, suc, ◌+◌, Bool, true, false, cond, not, ◌||◌, List, [], ◌∷◌, ◌++◌, Some, drop, inl, inr, refl, sym, ap, ◌∙◌, subst, arith}
use Rattle.std.specs.Prelude.{slice_get}
use Rattle.std.specs.Option.{option_map}
use Rattle.std.proofs.lemmas.Bool.{false≢true}
use Rattle.std.proofs.lemmas.List.{drop_all, length-map}
use Rattle.std.proofs.lemmas.Option.{none-some, same_Some, slice_get-map}
use Rattle.clause_store.specs.declared.Lit.{Lit}
use Rattle.clause_store.specs.Lits.{var_of, negation, lit_true, clause_true, IsClause}
use Rattle.proof_log.specs.declared.line.Line.{Line}
use Rattle.proof_log.specs.declared.line.Line.TheVariants.{Header, Learnt, Zero, One, Unsat, Spent, End}
use Rattle.clause_store.specs.Clauses.{AllTrue}
use Rattle.proof_log.specs.Known.{AllClauses}
use Rattle.proof_log.specs.Derivations.{IsDerived}
use Rattle.proof_log.specs.Lines.{EachLine, with_added, AllLines, LastIs, SettlesNone}
use Rattle.proof_log.specs.Logs.{LineHolds}
use Rattle.proof_log.specs.Certificates.{bits_at, IsBelow, HasValue, IsUnsat, IsCertificate, IsRefutation}
use Rattle.clause_store.proofs.Sets.{OneSign, one_sign}
use Rattle.proof_log.proofs.Resolvents.{AllOneSign, derived_holds}

one-sign : (c : List Lit) → IsClause c → OneSign c
one-sign c i x y h k e = one_sign c x y i h k e

AllOneSign-clauses : (cs : List (List Lit)) → AllClauses cs → AllOneSign cs
AllOneSign-clauses [] a = tt
AllOneSign-clauses (c ∷ cs) a = (one-sign c a.0, AllOneSign-clauses cs a.1)

AllTrue-push : (v : ℕ → Bool) (cs : List (List Lit)) (c : List Lit) → AllTrue v cs → clause_true v c ≡ true → AllTrue v (cs ++ c ∷ [])
AllTrue-push v [] c a t = (t, tt)
AllTrue-push v (d ∷ cs) c a t = (a.0, AllTrue-push v cs c a.1 t)

AllOneSign-push : (cs : List (List Lit)) (c : List Lit) → AllOneSign cs → OneSign c → AllOneSign (cs ++ c ∷ [])
AllOneSign-push [] c a t = (t, tt)
AllOneSign-push (d ∷ cs) c a t = (a.0, AllOneSign-push cs c a.1 t)

single : (l : Lit) → OneSign (l ∷ [])
single l = one-sign (l ∷ []) (tt, tt)

flipped : (p t : Bool) → cond (not p) t (not t) ≡ not (cond p t (not t))
flipped true t = refl
flipped false true = refl
flipped false false = refl

negated-true : (v : ℕ → Bool) (l : Lit) → lit_true v l ≡ false → clause_true v (negation l ∷ []) ≡ true
negated-true v l e = ap (λ y. y || false) (flipped l.positive (v (var_of l)) ∙ ap not e)

-- what is left of the lines ends so too
LastIs-rest : (P : Line → Type 0) (l : Line) (ls : List Line) → LastIs P (l ∷ ls) → (P l → ⊥) → LastIs P ls
LastIs-rest P l [] h n = n h
LastIs-rest P l (k ∷ ls) h n = h

drop-at : {A : Type 0} (n : ℕ) (xs : List A) (x : A) → slice_get xs n ≡ Some x → drop n xs ≡ x ∷ drop (n + 1) xs
drop-at n [] x e = absurd (none-some x e)
drop-at zero (y ∷ xs) x e = ap (λ z. z ∷ xs) (same_Some y x e)
drop-at (suc n) (y ∷ xs) x e = let q : n + 1 ≡ suc n = omega arith in drop-at n xs x e ∙ ap (λ k. x ∷ drop k xs) q
    ∙ ap (λ k. x ∷ drop k (y ∷ xs)) (let r : suc (suc n) ≡ suc n + 1 = omega arith in r)

below-head : (a b : Bool) (xs ys xt yt : List Bool) → xs ≡ a ∷ xt → ys ≡ b ∷ yt → IsBelow xs ys → IsBelow (a ∷ xt) (b ∷ yt)
below-head a b xs ys xt yt e f h = subst (λ z. IsBelow z (b ∷ yt)) e (subst (IsBelow xs) f h)

module _ (v : ℕ → Bool) (bits : List Lit) where
  at : (known : List (List Lit)) (n : ℕ) (ls : List Line) → EachLine (LineHolds bits) bits known (n + 0) ls
      → EachLine (LineHolds bits) bits known n ls
  at known n ls h = let q : n + 0 ≡ n = omega arith in subst (λ k. EachLine (LineHolds bits) bits known k ls) q h

  -- an assignment that meets the known clauses, over the lines that are left
  pub least-from : (values : List Bool) (known : List (List Lit)) (n : ℕ) (ls : List Line) → AllOneSign known → AllTrue v known
      → EachLine (LineHolds bits) bits known n ls →
      AllLines (HasValue values) ls → LastIs (λ l. l ≡ End) ls → IsBelow (drop n (bits_at v bits)) (drop n values) → ⊥
  least-from values known n [] o t h w e b = e
  least-from values known n (Header x y z ∷ ls) o t h w e b = h.0
  least-from values known n (Learnt id c chain ∷ ls) o t h w e b =
      least-from values (known ++ c ∷ []) n ls (AllOneSign-push known c o (one-sign c h.0.1))
      (AllTrue-push v known c t (derived_holds v known chain c o h.0.2 t)) (at _ n ls h.1) w.1 (LastIs-rest _ _ ls e (λ q. cc)) b
  least-from values known n (Zero id k ∷ ls) o t h w e b =
      let l = h.0.2 in
      elim (below-head (lit_true v l) false _ _ _ _
      (drop-at n (bits_at v bits) (lit_true v l) (slice_get-map (lit_true v) bits n ∙ ap (option_map (lit_true v)) h.0.3))
      (drop-at n values false (subst (λ x. slice_get values x ≡ Some false) h.0.1 w.0)) b) [
        | inl x ↦ false≢true x.1
        | inr x ↦ least-from values (known ++ (negation l ∷ []) ∷ []) (n + 1) ls (AllOneSign-push known _ o (single (negation l)))
            (AllTrue-push v known _ t (negated-true v l x.0))
            (subst (λ s. EachLine (LineHolds bits) bits (with_added known (option_map (λ l. negation l ∷ []) s)) (n + 1) ls)
            (ap (slice_get bits) h.0.1 ∙ h.0.3) h.1) w.1 (LastIs-rest _ _ ls e (λ q. cc)) x.1
      ]
  least-from values known n (One id k chain ∷ ls) o t h w e b =
      let l = h.0.2 in
      let y = derived_holds v known chain (l ∷ []) o h.0.4 t in
      elim (below-head (lit_true v l) true _ _ _ _
      (drop-at n (bits_at v bits) (lit_true v l) (slice_get-map (lit_true v) bits n ∙ ap (option_map (lit_true v)) h.0.3))
      (drop-at n values true (subst (λ x. slice_get values x ≡ Some true) h.0.1 w.0)) b) [
        | inl x ↦ false≢true (sym (ap (λ z. z || false) x.0) ∙ y)
        | inr x ↦ least-from values (known ++ (l ∷ []) ∷ []) (n + 1) ls (AllOneSign-push known _ o (single l)) (AllTrue-push v known _ t y)
            (subst (λ s. EachLine (LineHolds bits) bits (with_added known (option_map (λ l. l ∷ []) s)) (n + 1) ls)
            (ap (slice_get bits) h.0.1 ∙ h.0.3) h.1) w.1 (LastIs-rest _ _ ls e (λ q. cc)) x.1
      ]
  least-from values known n (Unsat chain ∷ ls) o t h w e b = false≢true (derived_holds v known chain [] o h.0 t)
  least-from values known n (Spent ∷ ls) o t h w e b =
      least-from values known n ls o t (at _ n ls h.1) w.1 (LastIs-rest _ _ ls e (λ q. cc)) b
  least-from values known n (End ∷ ls) o t h w e b =
      subst (λ xs. IsBelow xs (drop n values)) (drop_all n (bits_at v bits) (let q = length-map bits (lit_true v) in omega (arith, q, h.0)))
      b

  -- a refutation that settles no bit leaves no model
  pub refuted-from : (known : List (List Lit)) (n : ℕ) (ls : List Line) → AllOneSign known → AllTrue v known
      → EachLine (LineHolds bits) bits known n ls → AllLines SettlesNone ls → LastIs IsUnsat ls → ⊥
  refuted-from known n [] o t h w e = e
  refuted-from known n (Header x y z ∷ ls) o t h w e = h.0
  refuted-from known n (Learnt id c chain ∷ ls) o t h w e =
      refuted-from (known ++ c ∷ []) n ls (AllOneSign-push known c o (one-sign c h.0.1))
      (AllTrue-push v known c t (derived_holds v known chain c o h.0.2 t)) (at _ n ls h.1) w.1 (LastIs-rest IsUnsat _ ls e (λ q. cc))
  refuted-from known n (Zero id k ∷ ls) o t h w e = cc
  refuted-from known n (One id k chain ∷ ls) o t h w e = cc
  refuted-from known n (Unsat chain ∷ ls) o t h w e = false≢true (derived_holds v known chain [] o h.0 t)
  refuted-from known n (Spent ∷ ls) o t h w e = refuted-from known n ls o t (at _ n ls h.1) w.1 (LastIs-rest IsUnsat _ ls e (λ q. cc))
  refuted-from known n (End ∷ ls) o t h w e = refuted-from known n ls o t (at _ n ls h.1) w.1 (LastIs-rest IsUnsat _ ls e (λ q. cc))

no-end : (a b c : ℕ) → Header a b c ≡ End → ⊥
no-end a b c q = cc

no-unsat : (a b c : ℕ) → IsUnsat (Header a b c) → ⊥
no-unsat a b c q = let e = q.1 in cc

-- a derived clause holds wherever the known clauses do
pub derived-true : (known : List (List Lit)) (chain : List ℕ) (stated : List Lit) (v : ℕ → Bool) → AllClauses known
    → IsDerived known chain stated → AllTrue v known → clause_true v stated ≡ true
derived-true known chain stated v i d t = derived_holds v known chain stated (AllOneSign-clauses known i) d t

-- no assignment has smaller bits than a certificate says
pub certificate_least : (vars : ℕ) (input : List (List Lit)) (bits : List Lit) (values : List Bool) (lines : List Line) (v : ℕ → Bool) →
    AllClauses input → IsCertificate vars input bits values lines → AllTrue v input → IsBelow (bits_at v bits) values → ⊥
certificate_least vars input bits values [] v i c t b = c.last
certificate_least vars input bits values (l ∷ ls) v i c t b =
    least-from v bits values input 0 ls (AllOneSign-clauses input i) t c.sound.1 c.valued.1
    (LastIs-rest _ l ls c.last (λ q. no-end _ _ _ (sym c.sound.0 ∙ q))) b

-- a refuted list has no model
pub refutation_none : (vars : ℕ) (input : List (List Lit)) (bits : List Lit) (lines : List Line) (v : ℕ → Bool) → AllClauses input
    → IsRefutation vars input bits lines → AllTrue v input → ⊥
refutation_none vars input bits [] v i c t = c.last
refutation_none vars input bits (l ∷ ls) v i c t =
    refuted-from v bits input 0 ls (AllOneSign-clauses input i) t c.sound.1 c.no_bit.1
    (LastIs-rest IsUnsat l ls c.last (λ q. no-unsat _ _ _ (subst IsUnsat c.sound.0 q)))
