-- Values that an assignment has from a variable on.
use Rattle.std.proofs.Common.{◌≡◌, refl, subst, ◌∙◌, ℕ, zero, suc, ◌+◌, ◌-◌, ◌<◌, ◌≤◌, Bool, List, [], ◌∷◌, ◌++◌, length, get_or, arith}
use Rattle.std.proofs.lemmas.Bool.{lt-ltb, le-ltb}
use Rattle.std.proofs.lemmas.List.{get_or_past}
use Rattle.table_plan.specs.Spellings.{with_bits}

abbrev pub Reads : (ℕ → Bool) → ℕ → List Bool → Type 0
Reads v n [] = Unit {0}
Reads v n (b ∷ bs) = (v n ≡ b) × Reads v (n + 1) bs

-- bits behind one another are read part by part
pub reads_parts : (v : ℕ → Bool) (n : ℕ) (bs cs : List Bool) → Reads v n (bs ++ cs) → Reads v n bs × Reads v (n + length bs) cs
reads_parts v n [] cs r = (tt, let e : n ≡ n + 0 = omega arith in subst (λ m. Reads v m cs) e r)
reads_parts v n (b ∷ bs) cs r =
    let parts = reads_parts v (n + 1) bs cs r.1 in
    let e : n + 1 + length bs ≡ n + length (b ∷ bs) = omega arith in
    ((r.0, parts.0), subst (λ m. Reads v m cs) e parts.1)

reads_from : (v : ℕ → Bool) (n : ℕ) (bs : List Bool) → ((k : ℕ) → k < length bs → v (n + k) ≡ get_or bs k (v (n + k))) → Reads v n bs
reads_from v n [] f = tt
reads_from v n (b ∷ bs) f =
    let first : n + 0 ≡ n = omega arith in (
      subst (λ m. v m ≡ b) first (f 0 (omega arith)),
      reads_from v (n + 1) bs (λ k lt.
          let at : n + suc k ≡ n + 1 + k = omega arith in
          subst (λ m. v m ≡ get_or bs k (v m)) at (f (suc k) (omega arith))),
    )

module _ (n : ℕ) (bits : List Bool) (v : ℕ → Bool) where
  -- variables before the bits stay
  pub bits_before : (k : ℕ) → k < n → with_bits n bits v k ≡ v k
  bits_before k lt = rw (lt-ltb k n lt) refl

  -- so do those behind
  pub bits_after : (k : ℕ) → n + length bits ≤ k → with_bits n bits v k ≡ v k
  bits_after k le = rw (le-ltb k n (omega arith)) (get_or_past bits (k - n) (v k) (omega arith))

  at_bit : (k : ℕ) → with_bits n bits v (n + k) ≡ get_or bits k (v (n + k))
  at_bit k =
      let back : n + k - n ≡ k = omega arith in
      rw (le-ltb (n + k) n (omega arith), back) refl

  -- bits that are written are read
  pub reads_bits : Reads (with_bits n bits v) n bits
  reads_bits = reads_from (with_bits n bits v) n bits (λ k lt. at_bit k ∙ within bits k (v (n + k)) (with_bits n bits v (n + k)) lt)
    where
      within : (bs : List Bool) (k : ℕ) (c d : Bool) → k < length bs → get_or bs k c ≡ get_or bs k d
      within [] k c d lt = absurd (omega (arith, lt))
      within (b ∷ bs) zero c d lt = refl
      within (b ∷ bs) (suc k) c d lt = within bs k c d (omega arith)
