-- A clause does not depend on the order of its literals, so a head may be put in last.
use Rattle.std.proofs.Common.{◌≡◌, ℕ, ◌+◌, ◌<◌, ◌≤◌, ◌||◌, List, [], ◌∷◌, ◌++◌, length, drop, get_or, append_assoc, Option, Some, None, refl, sym, ap, ◌∙◌, subst, arith}
use Rattle.std.proofs.lemmas.List.{at_drop_more, map-append}
use Rattle.clause_store.specs.Kept.{code_of, codes_of}
use Rattle.clause_store.proofs.Order.{AllAbove-le}
use Rattle.std.specs.Prelude.{option_and_then}
use Rattle.clause_store.specs.declared.Lit.{Lit}
use Rattle.clause_store.specs.Lits.{var_of, AllBelow, IsClause, negation, lit_eq, has, with_lit, with_lits, clause_of, HasBothSigns, SameLits}
use Rattle.clause_store.proofs.Sets.{or-swap, one_sign, not-opposite, has-clause_of, IsClause-clause_of, none-both_signs, both_signs-none, same_clause}

both_signs-same : (ks ls : List Lit) → SameLits ks ls → HasBothSigns ks → HasBothSigns ls
both_signs-same ks ls s b = (b.0, sym (s b.0) ∙ b.1, sym (s (negation b.0)) ∙ b.2)

-- lists of the same literals have the same clause, whatever their order
pub clause_of-same : (ks ls : List Lit) → SameLits ks ls → clause_of ks ≡ clause_of ls
clause_of-same ks ls s = by-options (clause_of ks) (clause_of ls) refl refl
  where
    by-options : (o p : Option (List Lit)) → clause_of ks ≡ o → clause_of ls ≡ p → clause_of ks ≡ clause_of ls
    by-options None p e f = e ∙ sym (both_signs-none ls (both_signs-same ks ls s (none-both_signs ks e)))
    by-options (Some c) None e f = both_signs-none ks (both_signs-same ls ks (λ l. sym (s l)) (none-both_signs ls f)) ∙ sym f
    by-options (Some c) (Some d) e f =
        e ∙ ap Some (same_clause c d (IsClause-clause_of ks c e) (IsClause-clause_of ls d f)
        (λ l. has-clause_of ks c l e ∙ s l ∙ sym (has-clause_of ls d l f))) ∙ sym f

has-last : (m : Lit) (ls : List Lit) (l : Lit) → has (m ∷ ls) l ≡ has (ls ++ m ∷ []) l
has-last m [] l = refl
has-last m (k ∷ ls) l = or-swap (lit_eq m l) (lit_eq k l) (has ls l) ∙ ap (λ b. lit_eq k l || b) (has-last m ls l)

-- a literal in front may as well stand last
pub clause_of-last : (m : Lit) (ls : List Lit) → clause_of (m ∷ ls) ≡ clause_of (ls ++ m ∷ [])
clause_of-last m ls = clause_of-same (m ∷ ls) (ls ++ m ∷ []) (has-last m ls)

and_then-Some : (o : Option (List Lit)) → option_and_then (λ d. Some d) o ≡ o
and_then-Some None = refl
and_then-Some (Some d) = refl

with_lits-last : (c ls : List Lit) (m : Lit) → with_lits c (ls ++ m ∷ []) ≡ option_and_then (λ d. with_lit d m) (with_lits c ls)
with_lits-last c [] m = and_then-Some (with_lit c m)
with_lits-last c (l ∷ ls) m = by-option (with_lit c l) (λ d. with_lits-last d ls m)
  where
    by-option : (o : Option (List Lit))
        → ((d : List Lit) → with_lits d (ls ++ m ∷ []) ≡ option_and_then (λ d. with_lit d m) (with_lits d ls))
        → option_and_then (λ d. with_lits d (ls ++ m ∷ [])) o
        ≡ option_and_then (λ d. with_lit d m) (option_and_then (λ d. with_lits d ls) o)
    by-option None ih = refl
    by-option (Some d) ih = ih d

-- the clause of a head and others: the head put into the clause of the others
pub clause_of-headed : (m : Lit) (ls : List Lit) (o : Option (List Lit)) → with_lits [] ls ≡ o
    → clause_of (m ∷ ls) ≡ option_and_then (λ d. with_lit d m) o
clause_of-headed m ls o e = clause_of-last m ls ∙ with_lits-last [] ls m ∙ ap (option_and_then (λ d. with_lit d m)) e

-- literals in order are a clause as they stand
pub clause_of-rising : (ls : List Lit) → IsClause ls → clause_of ls ≡ Some ls
clause_of-rising ls i = by-option (clause_of ls) refl
  where
    by-option : (o : Option (List Lit)) → clause_of ls ≡ o → clause_of ls ≡ Some ls
    by-option None e =
        let b = none-both_signs ls e in absurd (not-opposite b.0 (one_sign ls b.0 (negation b.0) i b.1 b.2 refl))
    by-option (Some c) e = e ∙ ap Some (same_clause c ls (IsClause-clause_of ls c e) i (λ l. has-clause_of ls c l e))

-- so are those that are in order with the head behind them
pub clause_of-rises : (m : Lit) (ls : List Lit) → IsClause (ls ++ m ∷ []) → clause_of (m ∷ ls) ≡ Some (ls ++ m ∷ [])
clause_of-rises m ls i = clause_of-last m ls ∙ clause_of-rising (ls ++ m ∷ []) i

-- the variables are below a bound wherever the head stands
pub AllBelow-last : (n : ℕ) (m : Lit) (ls : List Lit) → AllBelow n (m ∷ ls) → AllBelow n (ls ++ m ∷ [])
AllBelow-last n m [] b = b
AllBelow-last n m (l ∷ ls) b = (b.1.0, AllBelow-last n m ls (b.0, b.1.1))

-- codes of literals, and of one more
pub codes-last : (codes fs gs : List ℕ) (m : Lit) (ls : List Lit) → fs ≡ codes ++ codes_of ls → gs ≡ fs ++ codes_of (m ∷ [])
    → gs ≡ codes ++ codes_of (ls ++ m ∷ [])
codes-last codes fs gs m ls e f =
    f ∙ ap (λ ks. ks ++ codes_of (m ∷ [])) e ∙ append_assoc codes (codes_of ls) (codes_of (m ∷ []))
    ∙ ap (λ ks. codes ++ ks) (sym (map-append code_of ls (m ∷ [])))

-- from the last literal on, one more in front
pub rises-step : (ls ks : List Lit) (m n k d : Lit) (i j : ℕ) → i ≡ j + 1 → i ≤ length ls → k ≡ get_or ls j d
    → drop i ls ++ m ∷ [] ≡ n ∷ ks → IsClause (n ∷ ks) → var_of k < var_of n
    → (hs : List Lit) × (drop j ls ++ m ∷ [] ≡ k ∷ hs) × IsClause (k ∷ hs)
rises-step ls ks m n k d i j s h g e c lt = (
  n ∷ ks,
  at_drop_more (λ xs. xs ++ m ∷ []) ls j d (omega (arith, s, h))
      ∙ ap (λ x. x ∷ drop (j + 1) ls ++ m ∷ []) (sym g) ∙ ap (λ t. k ∷ drop t ls ++ m ∷ []) (sym s) ∙ ap (λ xs. k ∷ xs) e,
  ((lt, AllAbove-le (var_of k) (var_of n) ks (omega (arith, lt)) c.0), c),
)

-- all were looked at
pub rises-end : (ls ks : List Lit) (m n : Lit) (i : ℕ) → i ≡ 0 → drop i ls ++ m ∷ [] ≡ n ∷ ks → IsClause (n ∷ ks) → IsClause (ls ++ m ∷ [])
rises-end ls ks m n i z e c = subst IsClause (sym (ap (λ j. drop j ls ++ m ∷ []) (sym z) ∙ e)) c
