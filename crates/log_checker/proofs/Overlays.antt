-- Signs of variables, literal by literal: the steps of the loops over a clause.
use Rattle.std.proofs.Common.{◌≡◌, ℕ, ◌+◌, ◌<◌, Bool, true, false, List, [], ◌∷◌, drop, Option, Some, None, inl, inr, length, sym, ◌∙◌, subst, ap}
use Rattle.std.specs.Prelude.{◌&&◌, eqb, if◌then◌else◌, slice_index_or}
use Rattle.std.proofs.lemmas.Bool.Decides.{eqb_tells}
use Rattle.std.proofs.lemmas.List.{drop_more}
use Rattle.clause_store.specs.declared.Lit.{Lit}
use Rattle.clause_store.specs.Lits.{var_of}
use Rattle.log_checker.specs.Steps.{is_bit_value}
use Rattle.log_checker.specs.Signs.{with_sign, opposed, clashes, overlay, strip}

pub overlay-same : (ls : List Lit) (f g : ℕ → Option Bool) → ((y : ℕ) → f y ≡ g y) → (x : ℕ) → overlay ls f x ≡ overlay ls g x
overlay-same [] f g e x = e x
overlay-same (l ∷ ls) f g e x = overlay-same ls (with_sign f (var_of l) (Some l.positive)) (with_sign g (var_of l) (Some l.positive))
    (λ y. ap (λ o. if eqb (var_of l) y then Some l.positive else o) (e y)) x

pub strip-same : (ls : List Lit) (f g : ℕ → Option Bool) → ((y : ℕ) → f y ≡ g y) → (x : ℕ) → strip ls f x ≡ strip ls g x
strip-same [] f g e x = e x
strip-same (l ∷ ls) f g e x = strip-same ls (λ y. if eqb (var_of l) y && is_bit_value (f y) l.positive then None else f y)
    (λ y. if eqb (var_of l) y && is_bit_value (g y) l.positive then None else g y)
    (λ y. ap (λ o. if eqb (var_of l) y && is_bit_value o l.positive then None else o) (e y)) x

-- the loops' steps
pub put-step : (xs : List Lit) (i : ℕ) (d : Lit) (f g : ℕ → Option Bool) → i < length xs
    → ((x : ℕ) → g x ≡ with_sign f (var_of (slice_index_or xs i d)) (Some (slice_index_or xs i d).positive) x) → (x : ℕ)
    → overlay (drop (i + 1) xs) g x ≡ overlay (drop i xs) f x
put-step xs i d f g h u x =
    let l = slice_index_or xs i d in
    overlay-same (drop (i + 1) xs) g (with_sign f (var_of l) (Some l.positive)) u x
    ∙ ap (λ ls. overlay ls f x) (sym (drop_more xs i d h))

pub strip-step : (xs : List Lit) (i : ℕ) (d : Lit) (f g : ℕ → Option Bool) → i < length xs
    → is_bit_value (f (var_of (slice_index_or xs i d))) (slice_index_or xs i d).positive ≡ true
    → ((x : ℕ) → g x ≡ with_sign f (var_of (slice_index_or xs i d)) None x) → (x : ℕ) → strip (drop (i + 1) xs) g x ≡ strip (drop i xs) f x
strip-step xs i d f g h v u x =
    strip-same (drop (i + 1) xs) g (λ y. if eqb (var_of l) y && is_bit_value (f y) l.positive then None else f y) each x
    ∙ ap (λ ls. strip ls f x) (sym (drop_more xs i d h))
  where
    l : Lit
    l = slice_index_or xs i d

    each : (y : ℕ) → g y ≡ if eqb (var_of l) y && is_bit_value (f y) l.positive then None else f y
    each y = elim (eqb_tells (var_of l) y) [
      | inl q ↦ u y ∙ ap (λ b. if b then None else f y) q.0
          ∙ sym (ap (λ b. if b && is_bit_value (f y) l.positive then None else f y) q.0
          ∙ ap (λ b. if b then None else f y) (subst (λ z. is_bit_value (f z) l.positive ≡ true) q.1 v))
      | inr q ↦ u y ∙ ap (λ b. if b then None else f y) q.0 ∙ sym (ap (λ b. if b && is_bit_value (f y) l.positive then None else f y) q.0)
    ]

pub strip-pass : (xs : List Lit) (i : ℕ) (d : Lit) (f : ℕ → Option Bool) → i < length xs
    → is_bit_value (f (var_of (slice_index_or xs i d))) (slice_index_or xs i d).positive ≡ false → (x : ℕ)
    → strip (drop (i + 1) xs) f x ≡ strip (drop i xs) f x
strip-pass xs i d f h v x =
    strip-same (drop (i + 1) xs) f (λ y. if eqb (var_of l) y && is_bit_value (f y) l.positive then None else f y) each x
    ∙ ap (λ ls. strip ls f x) (sym (drop_more xs i d h))
  where
    l : Lit
    l = slice_index_or xs i d

    each : (y : ℕ) → f y ≡ if eqb (var_of l) y && is_bit_value (f y) l.positive then None else f y
    each y = elim (eqb_tells (var_of l) y) [
      | inl q ↦ sym (ap (λ b. if b && is_bit_value (f y) l.positive then None else f y) q.0
          ∙ ap (λ b. if b then None else f y) (subst (λ z. is_bit_value (f z) l.positive ≡ false) q.1 v))
      | inr q ↦ sym (ap (λ b. if b && is_bit_value (f y) l.positive then None else f y) q.0)
    ]

pub clash-step : (xs : List Lit) (i : ℕ) (d : Lit) (f : ℕ → Option Bool) → i < length xs
    → clashes f (drop i xs) ≡ if opposed f (slice_index_or xs i d) then slice_index_or xs i d ∷ clashes f (drop (i + 1) xs) else clashes f
    (drop (i + 1) xs)
clash-step xs i d f h = ap (clashes f) (drop_more xs i d h)
