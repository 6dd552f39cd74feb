-- Places in a list.
use Rattle.std.proofs.Common.{◌≡◌, refl, ◌+◌, ◌≤◌, ◌<◌, Bool, true, false, List, [], ◌∷◌, ◌++◌, length, arith}
use Rattle.std.specs.List.{list_any, position_or_len}

module _ {X : Type 0} where
  -- what passes stands no later than itself
  no-later : (p : X → Bool) (front rest : List X) (x : X) → p x ≡ true → position_or_len p (front ++ x ∷ rest) ≤ length front
  no-later p [] rest x is = rw is (omega arith)
  no-later p (f ∷ front) rest x is = go (p f) refl (no-later p front rest x is)
    where
      go : (b : Bool) → p f ≡ b → position_or_len p (front ++ x ∷ rest) ≤ length front
          → position_or_len p ((f ∷ front) ++ x ∷ rest) ≤ length (f ∷ front)
      go true e later = rw e (omega arith)
      go false e later = rw e (omega (arith, later))

  -- what passes neither before nor here stands behind
  behind : (q : X → Bool) (front rest : List X) (x : X) → list_any q front ≡ false → q x ≡ false
      → length front < position_or_len q (front ++ x ∷ rest)
  behind q [] rest x none other = rw other (omega arith)
  behind q (f ∷ front) rest x none other = go (q f) refl (λ fewer. behind q front rest x fewer other)
    where
      go : (b : Bool) → q f ≡ b → (list_any q front ≡ false → length front < position_or_len q (front ++ x ∷ rest))
          → length (f ∷ front) < position_or_len q ((f ∷ front) ++ x ∷ rest)
      go true e later = absurd (let bad : true ≡ false = rw e at none in cc)
      go false e later = rw e (let rest-is = later (rw e at none) in omega (arith, rest-is))

  -- so the place of the one is before that of the other
  pub earlier : (p q : X → Bool) (front rest : List X) (x : X) → p x ≡ true → list_any q front ≡ false → q x ≡ false
      → position_or_len p (front ++ x ∷ rest) < position_or_len q (front ++ x ∷ rest)
  earlier p q front rest x is none other =
      let first = no-later p front rest x is in
      let second = behind q front rest x none other in omega (arith, first, second)
