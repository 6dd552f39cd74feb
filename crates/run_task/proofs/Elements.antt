-- A fact of each element, from the last on.
use Rattle.std.proofs.Common.{◌≡◌, ℕ, ◌+◌, ◌<◌, List, drop, get_or, length, sym, subst, suc, arith, drop-cons}
use Rattle.std.specs.Prelude.{All}
use Rattle.std.proofs.lemmas.List.Elements.{All-cons}

-- each element
pub all_with : {X : Type 0} (P : X → Type 0) (xs : List X) (i : ℕ) (x : X) → i < length xs → x ≡ get_or xs i x → P x
    → All P (drop (i + 1) xs) → All P (drop i xs)
all_with {X = X} P xs i x inside is here rest =
    let e : i + 1 ≡ suc i = omega arith in
    subst (All P) (sym (drop-cons xs i x inside))
    (All-cons P (get_or xs i x) (drop (suc i) xs) (subst P is here) (subst (λ (n : ℕ). All P (drop n xs)) e rest))
