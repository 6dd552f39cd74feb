-- The last of a list by halves: the code's steps, lists of references, and formulas that agree.
use Prim.Native.Nat.{zero, suc}
use Rattle.std.proofs.Common.{◌≡◌, refl, ℕ, ◌-◌, ◌<◌, ◌≤◌, true, false, List, [], ◌∷◌, map, take, drop, length, nat_lt, arith}
use Rattle.std.proofs.lemmas.Bool.Decides.{nat_tests}
use Rattle.std.proofs.lemmas.List.{length-map, take-map}
use Rattle.std.specs.List.{drop-map}
use Rattle.std.specs.Prelude.{if◌then◌else◌}
use Rattle.clause_formulas.specs.Statements.{Statement, or, both_statements, opposite}
use Rattle.clause_formulas.specs.Rules.{Proposition, in_words}
use Rattle.graph_formulas.specs.Lists.{some, half_length, last_in_turn, last_of_halves, last_halved}
use Rattle.word_formulas.proofs.PathFree.{some-agree}

-- ---- the code's steps

module _ {W T : Type 0} (passes rule : T → Proposition W) where
  pub halved-none : (times : ℕ) (xs : List T) → times ≡ 0 → last_halved times passes rule xs ≡ last_in_turn passes rule xs
  unfolding last_halved
  halved-none times xs e = rw e refl

  pub halved-short : (times : ℕ) (xs : List T) → length xs ≤ 8 → last_halved times passes rule xs ≡ last_in_turn passes rule xs
  unfolding last_halved
  halved-short zero xs le = refl
  halved-short (suc times) xs le = let short : nat_lt 8 (length xs) ≡ false = grind (arith, nat_tests) in rw short refl

  pub halved-long : (times : ℕ) (xs : List T) → (times ≡ 0 → ⊥) → 8 < length xs → last_halved times passes rule xs
      ≡ last_of_halves passes (drop (half_length xs) xs) (last_halved (times - 1) passes rule (take (half_length xs) xs))
      (last_halved (times - 1) passes rule (drop (half_length xs) xs))
  unfolding last_halved
  halved-long zero xs some lt = absurd (some refl)
  halved-long (suc times) xs some lt =
      let long : nat_lt 8 (length xs) ≡ true = grind (arith, nat_tests) in
      let less : suc times - 1 ≡ times = omega arith in
      rw (long, less) refl

-- ---- over a list of what stands for its elements

module _ {W T U : Type 0} (passes rule : T → Proposition W) (h : U → T) where
  pub some-mapped : (xs : List U) → some (λ x. passes (h x)) xs ≡ some passes (map h xs)
  some-mapped [] = refl
  some-mapped (x ∷ xs) = rw (some-mapped xs) refl

  in-turn-mapped : (xs : List U) → last_in_turn (λ x. passes (h x)) (λ x. rule (h x)) xs ≡ last_in_turn passes rule (map h xs)
  in-turn-mapped [] = refl
  in-turn-mapped (x ∷ xs) = rw (some-mapped xs, in-turn-mapped xs) refl

  pub halved-mapped : (times : ℕ) (xs : List U)
      → last_halved times (λ x. passes (h x)) (λ x. rule (h x)) xs ≡ last_halved times passes rule (map h xs)
  unfolding last_halved
  halved-mapped zero xs = in-turn-mapped xs
  halved-mapped (suc times) xs = rw (
    length-map xs h,
    take-map h (half_length xs) xs,
    drop-map h (half_length xs) xs,
    halved-mapped times (take (half_length xs) xs),
    halved-mapped times (drop (half_length xs) xs),
    some-mapped (drop (half_length xs) xs),
    in-turn-mapped xs,
  ) refl

-- ---- where the words agree

turn-same : (a b m n c d e f : Statement) → a ≡ b → m ≡ n → c ≡ d → e ≡ f
    → or (both_statements (both_statements (opposite a) m) c) e ≡ or (both_statements (both_statements (opposite b) n) d) f
turn-same a b m n c d e f p q r s = rw (p, q, r, s) refl

module _ {W T : Type 0} (f g : W → Statement) (passes rule : T → Proposition W) (met : (x : T)
    → in_words f (passes x) ≡ in_words g (passes x))
    (kept : (x : T) → in_words f (rule x) ≡ in_words g (rule x)) where
  in-turn-agree : (xs : List T) → in_words f (last_in_turn passes rule xs) ≡ in_words g (last_in_turn passes rule xs)
  in-turn-agree [] = refl
  in-turn-agree (x ∷ xs) = turn-same _ _ _ _ _ _ _ _ (some-agree f g passes met xs) (met x) (kept x) (in-turn-agree xs)

  pub halved-agree : (times : ℕ) (xs : List T)
      → in_words f (last_halved times passes rule xs) ≡ in_words g (last_halved times passes rule xs)
  unfolding last_halved
  halved-agree zero xs = in-turn-agree xs
  halved-agree (suc times) xs =
      let front = take (half_length xs) xs in
      let back = drop (half_length xs) xs in
      elim (nat_lt 8 (length xs)) as (λ b. in_words f
      (if b then last_of_halves passes back (last_halved times passes rule front) (last_halved times passes rule back) else last_in_turn
      passes rule xs)
      ≡ in_words g (if b then last_of_halves passes back (last_halved times passes rule front) (last_halved times passes rule back) else
      last_in_turn passes rule xs)) [
        | true ↦ rw (some-agree f g passes met back, halved-agree times front, halved-agree times back) refl
        | false ↦ in-turn-agree xs
      ]
