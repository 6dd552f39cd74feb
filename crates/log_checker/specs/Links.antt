-- Where the clauses that a learnt clause may not equal stand: of each bucket the last place, and of each place the one before it in its bucket.
use Prim.Native.Nat.{suc}
use Rattle.std.specs.Prelude.{◌≡◌, ℕ, ◌+◌, ◌*◌, ◌%◌, ◌^◌, ◌<◌, ◌≤◌, List, [], ◌∷◌, ◌++◌, take, Option, Some, None, length, slice_get, slice_index, if◌then◌else◌}
use Rattle.clause_store.specs.declared.Lit.{Lit}
use Rattle.clause_store.specs.Lits.{var_of}
use Rattle.log_checker.specs.declared.known.Known.{Known}

-- a number of a clause, by some factor: clauses with different numbers differ
abbrev pub mix : ℕ → ℕ → Lit → ℕ
mix factor n l = (n * factor % 2 ^ 64 + (var_of l * 2 % 2 ^ 64 + (if l.positive then 1 else 0)) % 2 ^ 64) % 2 ^ 64

abbrev pub mixed : ℕ → ℕ → List Lit → ℕ
mixed factor n [] = n
mixed factor n (l ∷ ls) = mixed factor (mix factor n l) ls

abbrev pub bucket_of : ℕ → ℕ → List Lit → ℕ
bucket_of factor count c = mixed factor 0 c % count

-- the bucket of the clause at a place; none where there is no clause, or a bit's
abbrev pub slot_of : (List Lit → ℕ) → Option Known → Option ℕ
slot_of h None = None
slot_of h (Some k) = if k.by_bit then None else Some (h k.clause)

-- the last place of a bucket below an end is the one below `at`; there is none where `at` is 0
abbrev pub IsLast : (List Lit → ℕ) → List Known → ℕ → ℕ → ℕ → Type 0
IsLast h ks b end at = (at ≤ end) × ((p : ℕ) → at ≡ suc p → slot_of h (slice_get ks p) ≡ Some b)
    × ((q : ℕ) → at ≤ q → q < end → slot_of h (slice_get ks q) ≡ Some b → ⊥)

-- the last place of each bucket, and of each place the one before it in its bucket
abbrev pub AreLinked : (List Lit → ℕ) → List ℕ → List ℕ → List Known → Type 0
AreLinked h heads links ks = ((b : ℕ) → b < length heads → IsLast h ks b (length ks) (slice_index heads b)) × (length links ≡ length ks)
    × ((p b : ℕ) → slot_of h (slice_get ks p) ≡ Some b → IsLast h ks b p (slice_index links p))

-- the same of the first clauses, as many as there are links
abbrev pub AreIndexed : ℕ → List ℕ → List ℕ → List Known → Type 0
AreIndexed factor heads links ks = (length links ≤ length ks)
    × AreLinked (bucket_of factor (length heads)) heads links (take (length links) ks)

-- one more clause was noted
abbrev pub Notes : ℕ → List ℕ → List ℕ → List ℕ → List ℕ → Known → Type 0
Notes factor heads links heads_new links_new k = (ks : List Known) → AreLinked (bucket_of factor (length heads)) heads links ks
    → AreLinked (bucket_of factor (length heads)) heads_new links_new (ks ++ k ∷ [])
