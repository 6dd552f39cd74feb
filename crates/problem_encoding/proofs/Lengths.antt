-- No vector of another length is spelled.
use Rattle.std.proofs.Common.{◌≡◌, refl, ℕ, Bool, true, false, List, [], ◌∷◌, length, leb, None, arith}
use Rattle.std.proofs.lemmas.Bool.{and_parts}
use Rattle.criteria_totals.specs.Spellings.{within, bits_for}

as-long : (tops numbers : List ℕ) → within tops numbers ≡ true → length numbers ≡ length tops
as-long [] [] h = refl
as-long [] (n ∷ ns) h = absurd (cc)
as-long (t ∷ ts) [] h = absurd (cc)
as-long (t ∷ ts) (n ∷ ns) h = omega (arith, as-long ts ns (and_parts (leb n t) (within ts ns) h).1)

-- a vector of another length is not spelled
pub unspelled : (tops numbers : List ℕ) → (length numbers ≡ length tops → ⊥) → bits_for tops numbers ≡ None
unfolding bits_for
unspelled tops numbers other = unspelled-cases (within tops numbers) refl
  where
    unspelled-cases : (b : Bool) → within tops numbers ≡ b → bits_for tops numbers ≡ None
    unspelled-cases true is = absurd (other (as-long tops numbers is))
    unspelled-cases false is = rw is refl
