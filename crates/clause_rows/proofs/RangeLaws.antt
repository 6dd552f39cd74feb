-- Lists of literals and terms in range, with one more.
use Rattle.std.proofs.Common.{ℕ, zero, suc, ◌<◌, ◌^◌, List, [], ◌∷◌, ◌++◌, length, get_or, arith}
use Rattle.std.specs.List.{All}
use Rattle.clause_store.specs.declared.Lit.{Lit}
use Rattle.clause_store.specs.Lits.{var_of, AllBelow}
use Rattle.clause_circuits.specs.Trees.{total, TermsBelow}
use Rattle.criteria_totals.specs.Totals.{AllTermsBelow, tops}
use Rattle.criteria_totals.specs.Spellings.{AllSmall}

pub lits-more : (n : ℕ) (ls : List Lit) (l : Lit) → AllBelow n ls → var_of l < n → AllBelow n (ls ++ l ∷ [])
lits-more n [] l b h = (h, tt)
lits-more n (k ∷ ls) l b h = (b.0, lits-more n ls l b.1 h)

pub terms-more : (n : ℕ) (ts : List (ℕ × Lit)) (t : ℕ × Lit) → TermsBelow n ts → var_of t.1 < n → TermsBelow n (ts ++ t ∷ [])
terms-more n [] t b h = (h, tt)
terms-more n (u ∷ ts) t b h = (b.0, terms-more n ts t b.1 h)

pub lit-at : (n k : ℕ) (ls : List Lit) (d : Lit) → AllBelow n ls → k < length ls → var_of (get_or ls k d) < n
lit-at n k [] d b h = absurd (omega (arith, h))
lit-at n zero (l ∷ ls) d b h = b.0
lit-at n (suc k) (l ∷ ls) d b h = lit-at n k ls d b.1 (omega (arith, h))

-- a list of literals in range, as std says it
pub lits-all : (n : ℕ) (ls : List Lit) → AllBelow n ls → All (λ l. var_of l < n) ls
lits-all n ls b = λ k d h. lit-at n k ls d b h

pub lists-more : (n : ℕ) (lists : List (List (ℕ × Lit))) (ts : List (ℕ × Lit)) → AllTermsBelow n lists → TermsBelow n ts
    → AllTermsBelow n (lists ++ ts ∷ [])
lists-more n [] ts b h = (h, tt)
lists-more n (us ∷ lists) ts b h = (b.0, lists-more n lists ts b.1 h)

pub small-more : (lists : List (List (ℕ × Lit))) (ts : List (ℕ × Lit)) → AllSmall (tops lists) → total ts < 2 ^ 63
    → AllSmall (tops (lists ++ ts ∷ []))
small-more [] ts b h = (h, tt)
small-more (us ∷ lists) ts b h = (b.0, small-more lists ts b.1 h)

pub ruleset nodes_in_range = (lits-all)
