-- Gates are found by their literals as numbers.
use Rattle.std.proofs.Common.{◌≡◌, ℕ, ◌+◌, ◌*◌, ◌/◌, ◌%◌, Bool, true, false, cond, eqb, ◌&&◌, List, [], ◌∷◌, ◌++◌, Some, Vec, refl, sym, ap, ◌∙◌, arith, if◌then◌else◌}
use Rattle.std.specs.declared.alloc.Global.{Global}
use Rattle.std.specs.Map.{lookup}
use Rattle.std.specs.Cmp.Lexicographic.{pointwise}
use Rattle.std.proofs.lemmas.Bool.{eq-eqb, eqb-true}
use Rattle.std.proofs.lemmas.Bool.Decides.{nat_tests}
use Rattle.clause_store.specs.declared.Lit.{Lit}
use Rattle.clause_store.specs.Lits.{var_of, lit_eq}
use Rattle.clause_store.specs.Kept.{code_of, codes_of, lit_of_code, lits_of_codes}
use Rattle.clause_store.proofs.Sets.{same_lit, lit_eq-refl}
use Rattle.clause_formulas.specs.Gated.{gate_of}
use Rattle.clause_formulas.specs.Kept.{gate_at, gates_of}

-- a code gives its literal back
lit-code : (x : ℕ) (b : Bool) → lit_of_code (x * 2 + (if b then 1 else 0)) ≡ record { var = record { 0 = x }; positive = b }
lit-code x true = rw (half, odd) refl
  where
    half : (x * 2 + 1) / 2 ≡ x
    half = omega arith

    odd : eqb ((x * 2 + 1) % 2) 1 ≡ true
    odd = grind (arith, nat_tests)
lit-code x false = rw (half, even) refl
  where
    half : (x * 2 + 0) / 2 ≡ x
    half = omega arith

    even : eqb ((x * 2 + 0) % 2) 1 ≡ false
    even = grind (arith, nat_tests)

-- literals come back from their numbers
pub lits-codes : (ls : List Lit) → lits_of_codes (codes_of ls) ≡ ls
lits-codes [] = refl
lits-codes (l ∷ ls) = λ i. lit-code (var_of l) l.positive i ∷ lits-codes ls i

-- and a literal its code
code-lit : (c : ℕ) → code_of (lit_of_code c) ≡ c
code-lit c = by-bool (eqb (c % 2) 1) refl
  where
    by-bool : (b : Bool) → eqb (c % 2) 1 ≡ b → c / 2 * 2 + (if b then 1 else 0) ≡ c
    by-bool true e = let r = eqb-true (c % 2) 1 e in omega (arith, r)
    by-bool false e = grind (arith, nat_tests, e)

same_bool : (a b : Bool) → (a ≡ true → b ≡ true) → (b ≡ true → a ≡ true) → a ≡ b
same_bool true b f g = sym (f refl)
same_bool false true f g = g refl
same_bool false false f g = refl

-- codes are equal where literals are
code-eq : (c d : ℕ) → lit_eq (lit_of_code c) (lit_of_code d) ≡ eqb c d
code-eq c d = same_bool (lit_eq (lit_of_code c) (lit_of_code d)) (eqb c d)
    (λ e. eq-eqb c d (sym (code-lit c) ∙ ap code_of (same_lit (lit_of_code c) (lit_of_code d) e) ∙ code-lit d))
    (λ e. ap (λ x. lit_eq (lit_of_code c) (lit_of_code x)) (sym (eqb-true c d e)) ∙ lit_eq-refl (lit_of_code c))

-- numbers are equal where literals are
pub codes-eq : (cs ds : List ℕ) → pointwise lit_eq (lits_of_codes cs) (lits_of_codes ds) ≡ pointwise eqb cs ds
codes-eq [] [] = refl
codes-eq [] (d ∷ ds) = refl
codes-eq (c ∷ cs) [] = refl
codes-eq (c ∷ cs) (d ∷ ds) = λ i. code-eq c d i && codes-eq cs ds i

-- what the table finds
pub gate-found : (es : List (Vec ℕ Global × Lit)) (cs : List ℕ)
    → lookup (λ (k : Vec ℕ Global). pointwise eqb cs k.items) es ≡ gate_of (gates_of es) (lits_of_codes cs)
gate-found [] cs = refl
gate-found (e ∷ es) cs = λ i. cond (sym (codes-eq cs e.0.items) i) (Some e.1) (gate-found es cs i)

-- and one more stands behind the others
pub gates-last : (es : List (Vec ℕ Global × Lit)) (k : Vec ℕ Global) (l : Lit)
    → gates_of (es ++ (k, l) ∷ []) ≡ gates_of es ++ (lits_of_codes k.items, l) ∷ []
gates-last [] k l = refl
gates-last (e ∷ es) k l = ap (λ gs. gate_at e ∷ gs) (gates-last es k l)
