-- Numbers spelled as truth values that compare as the numbers do.
use Prim.Native.Nat.{suc, zero}
use Rattle.std.specs.Prelude.{◌≡◌, ℕ, ◌-◌, ◌^◌, ◌<◌, ◌≤◌, Bool, true, false, ◌&&◌, List, [], ◌∷◌, ◌++◌, Option, Some, None, length, nat_le, ◌⊎◌, if◌then◌else◌}
use Rattle.std.specs.declared.cmp.Ordering.{Ordering}
use Rattle.std.specs.Ordering.{nat_cmp, bool_cmp}
use Rattle.std.specs.Cmp.Lexicographic.{slice_cmp}
use Rattle.clause_circuits.specs.Binary.{size}

-- the first place where two lists differ decides
abbrev pub compare_bits : List Bool → List Bool → Ordering
compare_bits xs ys = slice_cmp bool_cmp xs ys

-- the first list is smaller at the first place where they differ
abbrev pub IsBelow : List Bool → List Bool → Type 0
IsBelow (a ∷ xs) (b ∷ ys) = ((a ≡ false) × (b ≡ true)) ⊎ ((a ≡ b) × IsBelow xs ys)
IsBelow _ ys = ⊥

abbrev pub compare_numbers : List ℕ → List ℕ → Ordering
compare_numbers ms ns = slice_cmp nat_cmp ms ns

abbrev pub AllSmall : List ℕ → Type 0
AllSmall [] = Unit {0}
AllSmall (t ∷ ts) = (t < 2 ^ 63) × AllSmall ts

-- numbers up to a top spelled in one width, in their order
pub record IsSpelling (top : ℕ) (spell : ℕ → List Bool) : Type 0 where
  pub width : (m n : ℕ) → length (spell m) ≡ length (spell n)
  pub order : (m n : ℕ) → m ≤ top → n ≤ top → compare_bits (spell m) (spell n) ≡ nat_cmp m n

-- "at least top", and so on down to "at least 1"
abbrev pub unary : ℕ → ℕ → List Bool
unary zero n = []
unary (suc top) n = nat_le (suc top) n ∷ unary top n

-- so many binary digits, the highest first
abbrev pub binary : ℕ → ℕ → List Bool
binary zero n = []
binary (suc w) n = nat_le (2 ^ w) n ∷ binary w (if nat_le (2 ^ w) n then n - 2 ^ w else n)

-- the spelling of numbers up to a top
unfoldable pub spelling_of : ℕ → ℕ → List Bool
spelling_of top = if nat_le top 64 then unary top else binary (size top)

-- a vector of numbers, each below its top
abbrev pub spell_all : List ℕ → List ℕ → List Bool
spell_all (t ∷ ts) (n ∷ ns) = spelling_of t n ++ spell_all ts ns
spell_all _ ns = []

abbrev pub within : List ℕ → List ℕ → Bool
within [] [] = true
within (t ∷ ts) (n ∷ ns) = nat_le n t && within ts ns
within ts ns = false

-- the bits of a vector, where each number is within its top
unfoldable pub bits_for : List ℕ → List ℕ → Option (List Bool)
bits_for ts ns = if within ts ns then Some (spell_all ts ns) else None
