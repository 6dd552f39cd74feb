-- Which demand a model breaks.
use Rattle.std.proofs.Common.{◌≡◌, ℕ, ◌+◌, ◌<◌, Bool, true, false, ◌||◌, ◌&&◌, List, [], ◌∷◌, ◌++◌, take, length, Option, Some, None, refl, sym, ◌∙◌, subst, ap, eqb}
use Rattle.std.specs.Prelude.{not, IfSome}
use Rattle.std.proofs.lemmas.Bool.{and_parts, eq-eqb}
use Rattle.clause_store.specs.Lits.{clause_true}
use Rattle.clause_store.specs.declared.Label.{Label}
use Rattle.clause_store.specs.declared.Label.TheVariants.{Demand}
use Rattle.clause_store.specs.declared.list.Entry.{Entry}
use Rattle.clause_store.specs.Clauses.{Meets, counts, entry_met, at_id}
use Rattle.clause_store.proofs.Entries.{Meets-append}
use Rattle.reason_minimum.specs.Reductions.{all_but, but}
use Rattle.reason_minimum.proofs.Parting.{Meets-less, entry-there}

but-less : (asked : ℕ → Bool) (o : Option ℕ) (d : ℕ) → but asked o d ≡ true → asked d ≡ true
but-less asked None d h = h
but-less asked (Some b) d h = (and_parts (asked d) (not (eqb b d)) h).0

module _ (asked v : ℕ → Bool) (es : List Entry) (o : Option ℕ) (i : ℕ) (h : i < length es) (m : Meets (but asked o) v (take i es)) where
  more : (b : ℕ → Bool) (e : Entry) → take (i + 1) es ≡ take i es ++ e ∷ [] → Meets b v (take i es) → entry_met b v e ≡ true
      → Meets b v (take (i + 1) es)
  more b e q k t = subst (Meets b v) (sym q) (Meets-append b v (take i es) (e ∷ []) k (t, tt))

  -- the clause is met
  pub broken-pass : ((e : Entry) → at_id es (i + 1) ≡ Some e → entry_met asked v e ≡ true) → Meets (but asked o) v (take (i + 1) es)
  broken-pass k =
      let r = entry-there es i h in
      more (but asked o) r.0 r.2 m (Meets-less asked (but asked o) v (r.0 ∷ []) (but-less asked o) (k r.0 r.1, tt)).0

  -- it is one of the only demand that is broken
  pub broken-put : (l : Label) (d : ℕ) → ((e : Entry) → at_id es (i + 1) ≡ Some e → e.label ≡ l) → l ≡ Demand d → IfSome o (λ b. b ≡ d)
      → Meets (all_but asked d) v (take (i + 1) es)
  broken-put l d k q only =
      let r = entry-there es i h in
      more (all_but asked d) r.0 r.2 (Meets-less (but asked o) (all_but asked d) v (take i es) (less o only) m)
      (ap (λ w. not w || clause_true v r.0.clause) (ap (counts (all_but asked d)) (k r.0 r.1 ∙ q) ∙ out (asked d)))
    where
      less : (o : Option ℕ) → IfSome o (λ b. b ≡ d) → (e : ℕ) → all_but asked d e ≡ true → but asked o e ≡ true
      less None s e g = (and_parts (asked e) (not (eqb d e)) g).0
      less (Some b) s e g = subst (λ x. all_but asked x e ≡ true) (sym s) g

      out : (b : Bool) → (b && not (eqb d d)) ≡ false
      out true = ap not (eq-eqb d d refl)
      out false = refl
