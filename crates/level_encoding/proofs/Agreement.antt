-- Assignments that agree on what is read give it the same values.
use Rattle.std.proofs.Common.{◌≡◌, ℕ, zero, suc, length, ◌+◌, ◌-◌, ◌<◌, Bool, true, false, not, cond, get_or, List, [], ◌∷◌, map, inl, inr, refl, sym, ap, ◌∙◌, arith}
use Rattle.std.specs.List.{All, filter, slice_get, range_with_len}
use Rattle.std.proofs.lemmas.List.Elements.{All-head, All-tail}
use Rattle.clause_store.specs.declared.Lit.{Lit}
use Rattle.clause_store.specs.Lits.{lit_true, var_of}
use Rattle.clause_circuits.specs.Gates.{lit_of}
use Rattle.clause_formulas.specs.Statements.{atom, or, eval}
use Rattle.level_encoding.specs.Input.{node, literal_at}
use Rattle.level_encoding.proofs.Lists.{In}

pub lit-agree : (v w : ℕ → Bool) (l : Lit) → v (var_of l) ≡ w (var_of l) → lit_true v l ≡ lit_true w l
lit-agree v w l e = ap (λ b. cond l.positive b (not b)) e

pub filter-agree : {A : Type 0} (f g : A → Bool) (xs : List A) → ((x : A) → In x xs → f x ≡ g x) → filter f xs ≡ filter g xs
filter-agree f g [] h = refl
filter-agree f g (x ∷ xs) h = rw (h x (inl refl), filter-agree f g xs (λ y i. h y (inr i))) refl

-- variables in a row, by their values
pub read-row : (v : ℕ → Bool) (a : ℕ) (bs : List Bool) → ((k : ℕ) → k < length bs → v (a + k) ≡ get_or bs k false)
    → map (eval v) (map (λ x. atom (lit_of x)) (range_with_len a (length bs))) ≡ bs
read-row v a [] h = refl
read-row v a (b ∷ bs) h =
    let e : a + 0 ≡ a = omega arith in
    let first : v a ≡ b = ap v (sym e) ∙ h 0 (omega arith) in
    rw (first, read-row v (a + 1) bs (λ k l. let d : a + 1 + k ≡ a + suc k = omega arith in ap v d ∙ h (suc k) (omega (arith, l)))) refl

pub nodes-agree : (n : ℕ) (v w : ℕ → Bool) → ((x : ℕ) → x < n → v x ≡ w x) → (ls : List Lit) → All (λ l. var_of l < n) ls → (i : ℕ)
    → eval v (literal_at (slice_get ls i)) ≡ eval w (literal_at (slice_get ls i))
nodes-agree n v w a [] b i = refl
nodes-agree n v w a (l ∷ ls) b zero = lit-agree v w l (a (var_of l) (All-head (λ m. var_of m < n) l ls b))
nodes-agree n v w a (l ∷ ls) b (suc i) = nodes-agree n v w a ls (All-tail (λ m. var_of m < n) l ls b) i
