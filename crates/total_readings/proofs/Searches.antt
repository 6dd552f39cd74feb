-- The first record that has the hash of one before it, or none.
use Rattle.std.proofs.Common.{◌≡◌, refl, sym, ap, subst, ◌∙◌, ◌⊎◌, inl, inr, ℕ, zero, suc, ◌<◌, Bool, true, false, List, [], ◌∷◌, length, take, get_or, Contains, arith}
use Rattle.std.specs.List.{list_any}
use Rattle.std.specs.Str.{bytes_eq}
use Rattle.std.specs.Cmp.Lexicographic.{bytes_decides, nat_list_eq_equiv}
use Rattle.std.proofs.lemmas.Map.Views.{Contains-from_any, list_any-from_Contains}
use Rattle.graph_core.specs.Graphs.{Text}
use Rattle.reuse_db.specs.Databases.{HasNoTwice, IsFirstTwice, IsTwice, hashes_of}
use Rattle.reuse_db.specs.declared.record.Record.{Record}
use Rattle.std.proofs.lemmas.List.{get_or_default}
use Rattle.reuse_db.proofs.PlaceLaws.{twice, not_twice}

below-or-last : (k end : ℕ) → k < suc end → (k < end) ⊎ (k ≡ end)
below-or-last zero zero lt = inr refl
below-or-last zero (suc end) lt = inl (omega arith)
below-or-last (suc k) zero lt = absurd (omega (arith, lt))
below-or-last (suc k) (suc end) lt = elim (below-or-last k end (omega (arith, lt))) [
  | inl lower ↦ inl (omega (arith, lower))
  | inr same ↦ inr (ap suc same)
]

-- a fact that is one of two at each place below an end has a first place there, or none
first_below : (P : ℕ → Type 0) (end : ℕ) → ((k : ℕ) → k < end → P k ⊎ (P k → ⊥))
    → ((n : ℕ) × (n < end) × P n × ((k : ℕ) → k < n → P k → ⊥)) ⊎ ((k : ℕ) → k < end → P k → ⊥)
first_below P zero decide = inr (λ k lt p. omega (arith, lt))
first_below P (suc end) decide = elim (first_below P end (λ k lt. decide k (omega (arith, lt)))) [
  | inl (n, lt, here, none) ↦ inl (n, omega (arith, lt), here, none)
  | inr none ↦ elim (decide end (omega arith)) [
    | inl here ↦ inl (end, omega arith, here, none)
    | inr never ↦ inr (λ k lt p. elim (below-or-last k end lt) [
      | inl lower ↦ none k lower p
      | inr same ↦ never (subst P same p)
    ])
  ]
]

-- ---- hashes

element : {A : Type 0} (xs : List A) (i : ℕ) → i < length xs → (x : A) × (x ≡ get_or xs i x)
element [] i lt = absurd (omega (arith, lt))
element (x ∷ xs) zero lt = (x, refl)
element (x ∷ xs) (suc i) lt = element xs i (omega (arith, lt))

stands_or_not : (hashes : List Text) (hash : Text) → Contains hashes hash ⊎ (Contains hashes hash → ⊥)
stands_or_not hashes hash = go (list_any (bytes_eq hash) hashes) refl
  where
    go : (b : Bool) → list_any (bytes_eq hash) hashes ≡ b → Contains hashes hash ⊎ (Contains hashes hash → ⊥)
    go true e = inl (Contains-from_any (λ x y same. (bytes_decides x y).0 same) hash hashes e)
    go false e = inr (λ there. let bad : true ≡ false = sym (list_any-from_Contains nat_list_eq_equiv hash hashes there) ∙ e in cc)

twice_or_not : (records : List Record) (k : ℕ) → k < length records → IsTwice records k ⊎ (IsTwice records k → ⊥)
twice_or_not records k lt =
    let entry = element records k lt in
    elim (stands_or_not (take k (hashes_of records)) entry.0.hash) [
      | inl there ↦ inl (twice records k entry.0 lt entry.1 there)
      | inr lacks ↦ inr (not_twice records k entry.0 lt entry.1 lacks)
    ]

pub first_twice : (records : List Record) → ((hash : Text) × IsFirstTwice records hash) ⊎ HasNoTwice records
first_twice records = elim (first_below (IsTwice records) (length records) (twice_or_not records)) [
  | inl (n, lt, here, none) ↦
      let entry = element records n lt in
      inl (entry.0.hash, (n, here, none, λ d. sym (ap (λ (e : Record). e.hash) (entry.1 ∙ get_or_default records n entry.0 d lt))))
  | inr none ↦ inr (λ place is. none place is.0 is)
]
