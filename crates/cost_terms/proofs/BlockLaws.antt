-- None of a list, by blocks, says that none of it is true.
use Prim.Native.Nat.{zero, suc}
use Rattle.std.proofs.Common.{◌≡◌, refl, sym, ap, ◌∙◌, ℕ, ◌-◌, ◌/◌, Bool, true, false, not, ◌||◌, ◌&&◌, List, [], ◌∷◌, ◌++◌, take, drop, length, nat_lt}
use Rattle.std.proofs.lemmas.List.{take-append-drop}
use Rattle.std.specs.Prelude.{if◌then◌else◌}
use Rattle.clause_formulas.specs.Statements.{Statement, eval, any_statement, SaidBelow}
use Rattle.clause_formulas.proofs.Words.{eval-all_of, all_of-below}
use Rattle.cost_terms.specs.Blocks.{any_gated, blocks_of, none_among}

and-true : (a : Bool) → (a && true) ≡ a
and-true true = refl
and-true false = refl

or-assoc : (a b c : Bool) → (a || (b || c)) ≡ ((a || b) || c)
or-assoc true b c = refl
or-assoc false b c = refl

or-swap : (a b : Bool) → (a || b) ≡ (b || a)
or-swap true true = refl
or-swap true false = refl
or-swap false true = refl
or-swap false false = refl

module _ (v : ℕ → Bool) where
  any-append : (fs gs : List Statement) → eval v (any_statement (fs ++ gs)) ≡ (eval v (any_statement fs) || eval v (any_statement gs))
  any-append [] gs = refl
  any-append (f ∷ fs) gs = rw (any-append fs gs) (or-assoc (eval v f) (eval v (any_statement fs)) (eval v (any_statement gs)))

  block-said : (fs : List Statement) → eval v (any_gated fs) ≡ eval v (any_statement fs)
  block-said fs = eval-all_of v (any_statement fs ∷ []) ∙ and-true (eval v (any_statement fs))

  blocks-said : (times size : ℕ) (fs : List Statement) → eval v (any_statement (blocks_of times size fs)) ≡ eval v (any_statement fs)
  unfolding blocks_of
  blocks-said zero size fs = refl
  blocks-said (suc times) size fs =
      let n = length fs - size in
      elim (nat_lt (length fs) size) as (λ b. eval v (any_statement (if b then blocks_of times (size / 2) fs
      else any_gated (drop n fs) ∷ blocks_of times (size / 2) (take n fs))) ≡ eval v (any_statement fs)) [
        | true ↦ blocks-said times (size / 2) fs
        | false ↦ rw (block-said (drop n fs), blocks-said times (size / 2) (take n fs))
            (or-swap (eval v (any_statement (drop n fs))) (eval v (any_statement (take n fs))))
            ∙ sym (any-append (take n fs) (drop n fs)) ∙ ap (λ gs. eval v (any_statement gs)) (take-append-drop n fs)
      ]

  -- none of a list by blocks is true exactly where none of it is
  pub none-said : (fs : List Statement) → eval v (none_among fs) ≡ not (eval v (any_statement fs))
  none-said fs = ap not (blocks-said 25 134217728 fs)

module _ (n : ℕ) where
  parts-below : (i : ℕ) (fs : List Statement) → SaidBelow n (any_statement fs) → SaidBelow n (any_statement (take i fs))
      × SaidBelow n (any_statement (drop i fs))
  parts-below zero fs h = (tt, h)
  parts-below (suc i) [] h = (tt, tt)
  parts-below (suc i) (f ∷ fs) h = let rest = parts-below i fs h.1 in ((h.0, rest.0), rest.1)

  blocks-below : (times size : ℕ) (fs : List Statement) → SaidBelow n (any_statement fs)
      → SaidBelow n (any_statement (blocks_of times size fs))
  unfolding blocks_of
  blocks-below zero size fs h = h
  blocks-below (suc times) size fs h =
      let i = length fs - size in
      let parts = parts-below i fs h in
      elim (nat_lt (length fs) size) as (λ b. SaidBelow n (any_statement (if b then blocks_of times (size / 2) fs
      else any_gated (drop i fs) ∷ blocks_of times (size / 2) (take i fs)))) [
        | true ↦ blocks-below times (size / 2) fs h
        | false ↦ (all_of-below n (any_statement (drop i fs) ∷ []) (parts.1, tt), blocks-below times (size / 2) (take i fs) parts.0)
      ]

  -- it is over the list's variables
  pub none-below : (fs : List Statement) → SaidBelow n (any_statement fs) → SaidBelow n (none_among fs)
  none-below fs h = blocks-below 25 134217728 fs h
