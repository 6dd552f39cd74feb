-- Known clauses by their ids.
use Rattle.std.proofs.Common.{◌≡◌, ℕ, zero, suc, ◌<◌, List, [], ◌∷◌, ◌++◌, Bool, true, false, None, Some, length, refl, ◌∙◌, ap, arith, Option}
use Rattle.std.specs.Prelude.{slice_get, slice_index_or, unwrap_or, if◌then◌else◌}
use Rattle.std.specs.Option.{option_map}
use Rattle.clause_store.specs.declared.Lit.{Lit}
use Rattle.clause_store.specs.Lits.{negation}
use Rattle.proof_log.specs.declared.line.Line.{Line}
use Rattle.proof_log.specs.declared.line.Line.TheVariants.{Header, Learnt, Zero, One, Unsat, Spent, End}
use Rattle.proof_log.specs.Lines.{added, learnt, with_added}
use Rattle.log_checker.specs.declared.known.Known.{Known}
use Rattle.log_checker.specs.Known.{clauses_in, rivals_in, as_known, rival, of_bit}
use Rattle.log_checker.specs.Steps.{noted}

pub clause-in : (ks : List Known) (k : ℕ) (d : Known) → k < length ks
    → (slice_index_or ks k d).clause ≡ unwrap_or (slice_get (clauses_in ks) k) []
clause-in [] k d h = absurd (omega (arith, h))
clause-in (e ∷ ks) zero d h = refl
clause-in (e ∷ ks) (suc k) d h = clause-in ks k d (omega (arith, h))

pub clauses-length : (ks : List Known) → length (clauses_in ks) ≡ length ks
clauses-length [] = refl
clauses-length (k ∷ ks) = ap suc (clauses-length ks)

pub clauses-append : (ks ls : List Known) → clauses_in (ks ++ ls) ≡ clauses_in ks ++ clauses_in ls
clauses-append [] ls = refl
clauses-append (k ∷ ks) ls = ap (λ cs. k.clause ∷ cs) (clauses-append ks ls)

pub rivals-append : (ks ls : List Known) → rivals_in (ks ++ ls) ≡ rivals_in ks ++ rivals_in ls
rivals-append [] ls = refl
rivals-append (k ∷ ks) ls = by k.by_bit (rivals-append ks ls)
  where
    by : (b : Bool) → rivals_in (ks ++ ls) ≡ rivals_in ks ++ rivals_in ls
        → (if b then rivals_in (ks ++ ls) else k.clause ∷ rivals_in (ks ++ ls)) ≡ (if b then rivals_in ks else k.clause ∷ rivals_in ks)
        ++ rivals_in ls
    by true e = e
    by false e = ap (λ cs. k.clause ∷ cs) e

append-nothing : {T : Type 0} (xs : List T) → xs ++ [] ≡ xs
append-nothing [] = refl
append-nothing (x ∷ xs) = ap (λ ys. x ∷ ys) (append-nothing xs)

-- a line makes known what it adds, and a rival what it learns
pub clauses-noted : (bits : List Lit) (ks : List Known) (l : Line)
    → clauses_in (with_added ks (noted bits l)) ≡ with_added (clauses_in ks) (added bits l)
clauses-noted bits ks (Header vars clauses n) = refl
clauses-noted bits ks (Learnt id c chain) = clauses-append ks (rival c ∷ [])
clauses-noted bits ks (Zero id b) = by (slice_get bits b)
  where
    by : (o : Option Lit) → clauses_in (with_added ks (option_map (λ l. of_bit (negation l ∷ [])) o)) ≡ with_added (clauses_in ks)
        (option_map (λ l. negation l ∷ []) o)
    by None = refl
    by (Some l) = clauses-append ks (of_bit (negation l ∷ []) ∷ [])
clauses-noted bits ks (One id b chain) = by (slice_get bits b)
  where
    by : (o : Option Lit) → clauses_in (with_added ks (option_map (λ l. of_bit (l ∷ [])) o)) ≡ with_added (clauses_in ks)
        (option_map (λ l. l ∷ []) o)
    by None = refl
    by (Some l) = clauses-append ks (of_bit (l ∷ []) ∷ [])
clauses-noted bits ks (Unsat chain) = refl
clauses-noted bits ks Spent = refl
clauses-noted bits ks End = refl

pub rivals-noted : (bits : List Lit) (ks : List Known) (l : Line)
    → rivals_in (with_added ks (noted bits l)) ≡ with_added (rivals_in ks) (learnt l)
rivals-noted bits ks (Header vars clauses n) = refl
rivals-noted bits ks (Learnt id c chain) = rivals-append ks (rival c ∷ [])
rivals-noted bits ks (Zero id b) = by (slice_get bits b)
  where
    by : (o : Option Lit) → rivals_in (with_added ks (option_map (λ l. of_bit (negation l ∷ [])) o)) ≡ rivals_in ks
    by None = refl
    by (Some l) = rivals-append ks (of_bit (negation l ∷ []) ∷ []) ∙ append-nothing (rivals_in ks)
rivals-noted bits ks (One id b chain) = by (slice_get bits b)
  where
    by : (o : Option Lit) → rivals_in (with_added ks (option_map (λ l. of_bit (l ∷ [])) o)) ≡ rivals_in ks
    by None = refl
    by (Some l) = rivals-append ks (of_bit (l ∷ []) ∷ []) ∙ append-nothing (rivals_in ks)
rivals-noted bits ks (Unsat chain) = refl
rivals-noted bits ks Spent = refl
rivals-noted bits ks End = refl

pub clauses-known : (cs : List (List Lit)) → clauses_in (as_known cs) ≡ cs
clauses-known [] = refl
clauses-known (c ∷ cs) = ap (λ ds. c ∷ ds) (clauses-known cs)

pub rivals-known : (cs : List (List Lit)) → rivals_in (as_known cs) ≡ cs
rivals-known [] = refl
rivals-known (c ∷ cs) = ap (λ ds. c ∷ ds) (rivals-known cs)
