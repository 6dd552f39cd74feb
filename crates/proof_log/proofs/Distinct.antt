-- Useful clauses are distinct.
use Rattle.std.proofs.Common.{◌≡◌, ℕ, zero, suc, ◌+◌, List, [], ◌∷◌, ◌++◌, length, Option, Some, None, ◌⊎◌, inl, inr, refl, sym, ap, ◌∙◌, subst}
use Rattle.std.specs.Prelude.{slice_get}
use Rattle.std.proofs.lemmas.Option.{none-some, same_Some}
use Rattle.clause_store.specs.declared.Lit.{Lit}
use Rattle.clause_store.specs.Lits.{SameLits}
use Rattle.proof_log.specs.declared.line.Line.{Line}
use Rattle.proof_log.specs.declared.line.Line.TheVariants.{Header, Learnt, Zero, One, Unsat, Spent, End}
use Rattle.proof_log.specs.Usefulness.{IsUseful, IsNew}
use Rattle.proof_log.specs.Lines.{added, with_added, learnt, settles, OfLearnt, EachLine}
use Rattle.proof_log.specs.Logs.{IsDistinct, AreDistinct, AreUseful}
use Rattle.proof_log.proofs.Useful.{useful-new}
use Rattle.proof_log.proofs.Logs.{EachLine-map}

-- a new clause is none of the known ones
pub new-apart : (known : List (List Lit)) (c : List Lit) (k : ℕ) (d : List Lit) → IsNew known c → slice_get known k ≡ Some d
    → SameLits d c → ⊥
new-apart [] c k d w e s = none-some d e
new-apart (x ∷ known) c zero d w e s = w.0 (subst (λ y. SameLits y c) (sym (same_Some x d e)) s)
new-apart (x ∷ known) c (suc k) d w e s = new-apart known c k d w.1 e s

-- the known clauses stand before the new one
pub get-front : (known : List (List Lit)) (c : List Lit) (k : ℕ) (d : List Lit) → slice_get known k ≡ Some d
    → slice_get (known ++ c ∷ []) k ≡ Some d
get-front [] c k d e = absurd (none-some d e)
get-front (x ∷ known) c zero d e = e
get-front (x ∷ known) c (suc k) d e = get-front known c k d e

-- the new one stands last
pub get-last : (known : List (List Lit)) (c : List Lit) → slice_get (known ++ c ∷ []) (length known) ≡ Some c
get-last [] c = refl
get-last (x ∷ known) c = get-last known c

-- what was known stays known
pub get-kept : (known : List (List Lit)) (o : Option (List Lit)) (k : ℕ) (d : List Lit) → slice_get known k ≡ Some d
    → slice_get (with_added known o) k ≡ Some d
get-kept known None k d e = e
get-kept known (Some c) k d e = get-front known c k d e

-- a learnt clause is new among all that is known before it
pub useful-news : (input : List (List Lit)) (bits : List Lit) (ls : List Line) → AreUseful input bits ls
    → EachLine (λ k n. OfLearnt (IsNew k)) bits input 0 ls
useful-news input bits ls a = EachLine-map (λ k n. OfLearnt (IsUseful k)) (λ k n. OfLearnt (IsNew k)) bits each input 0 ls a
  where
    each : (known : List (List Lit)) (n : ℕ) (l : Line) → OfLearnt (IsUseful known) l → OfLearnt (IsNew known) l
    each known n (Learnt id c chain) u = useful-new known c u
    each known n (Header vars clauses m) u = tt
    each known n (Zero id b) u = tt
    each known n (One id b chain) u = tt
    each known n (Unsat chain) u = tt
    each known n Spent u = tt
    each known n End u = tt

-- each clause of the first list stands in the second
abbrev Within : List (List Lit) → List (List Lit) → Type 0
Within rivals known = (k : ℕ) (d : List Lit) → slice_get rivals k ≡ Some d → (j : ℕ) × (slice_get known j ≡ Some d)

new-within : (rivals known : List (List Lit)) (c : List Lit) → Within rivals known → IsNew known c → IsNew rivals c
new-within [] known c w n = tt
new-within (d ∷ ds) known c w n =
    ((λ s. let j = w zero d refl in new-apart known c j.0 d n j.1 s), new-within ds known c (λ k e q. w (suc k) e q) n)

get-added : (xs : List (List Lit)) (c : List Lit) (k : ℕ) (d : List Lit) → slice_get (xs ++ c ∷ []) k ≡ Some d
    → (slice_get xs k ≡ Some d) ⊎ (c ≡ d)
get-added [] c zero d e = inr (same_Some c d e)
get-added [] c (suc k) d e = absurd (none-some d e)
get-added (x ∷ xs) c zero d e = inl e
get-added (x ∷ xs) c (suc k) d e = get-added xs c k d e

module _ (bits : List Lit) (rivals known : List (List Lit)) (w : Within rivals known) where
  within-kept : (o : Option (List Lit)) → Within rivals (with_added known o)
  within-kept o = λ k d e. let j = w k d e in (j.0, get-kept known o j.0 d j.1)

  within-added : (l : Line) → Within (with_added rivals (learnt l)) (with_added known (added bits l))
  within-added (Learnt id c chain) = λ k d e. elim (get-added rivals c k d e) [
    | inl q ↦ within-kept (Some c) k d q
    | inr q ↦ (length known, get-last known c ∙ ap Some q)
  ]
  within-added (Header vars clauses m) = within-kept None
  within-added (Zero id b) = within-kept (added bits (Zero id b))
  within-added (One id b chain) = within-kept (added bits (One id b chain))
  within-added (Unsat chain) = within-kept None
  within-added Spent = within-kept None
  within-added End = within-kept None

distinct-from : (bits : List Lit) (rivals known : List (List Lit)) (n : ℕ) (ls : List Line) → Within rivals known
    → EachLine (λ k m. OfLearnt (IsNew k)) bits known n ls → AreDistinct rivals ls
distinct-from bits rivals known n [] w a = tt
distinct-from bits rivals known n (l ∷ ls) w a = (
  by-line l a.0,
  distinct-from bits (with_added rivals (learnt l)) (with_added known (added bits l)) (n + settles l) ls
      (within-added bits rivals known w l) a.1,
)
  where
    by-line : (l : Line) → OfLearnt (IsNew known) l → IsDistinct rivals (learnt l)
    by-line (Learnt id c chain) h = new-within rivals known c w h
    by-line (Header vars clauses m) h = tt
    by-line (Zero id b) h = tt
    by-line (One id b chain) h = tt
    by-line (Unsat chain) h = tt
    by-line Spent h = tt
    by-line End h = tt

-- useful clauses are distinct: each is new among the input clauses and the earlier learnt ones
pub useful-distinct : (input : List (List Lit)) (bits : List Lit) (ls : List Line) → AreUseful input bits ls → AreDistinct input ls
useful-distinct input bits ls u = distinct-from bits input input 0 ls (λ k d e. (k, e)) (useful-news input bits ls u)
