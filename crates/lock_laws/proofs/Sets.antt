-- Texts that are put together into a set.
use Rattle.std.proofs.Common.{◌≡◌, refl, ap, List, [], ◌∷◌, ℕ, map, Contains, ◌⊎◌, inl, inr}
use Rattle.std.specs.List.Sorted.{IsStrictlySortedBy}
use Rattle.variant_values.specs.Texts.{IsInByteOrder, Texts, with_text, with_texts}
use Rattle.variant_values.proofs.Texts.{adds_text, with_text_in_order}
use Rattle.graph_rules.proofs.Lists.{In, contains-In}

nothing-in-order : IsInByteOrder []
unfolding IsStrictlySortedBy
nothing-in-order = tt

in-order : (texts words : Texts) → IsInByteOrder texts → IsInByteOrder (with_texts texts words)
unfolding with_texts
in-order texts [] order = order
in-order texts (word ∷ words) order = in-order (with_text texts word) words (with_text_in_order texts word order)

-- a set of texts is in byte order
pub set-in-order : (words : Texts) → IsInByteOrder (with_texts [] words)
set-in-order words = in-order [] words nothing-in-order

from-texts : (texts words : Texts) (q : List ℕ) → Contains (with_texts texts words) q → Contains texts q ⊎ In q words
unfolding with_texts
from-texts texts [] q there = inl there
from-texts texts (word ∷ words) q there = elim (from-texts (with_text texts word) words q there) [
  | inl put ↦ elim ((adds_text texts word q).0 put) [
    | inl same ↦ inr (inl same)
    | inr old ↦ inl old
  ]
  | inr later ↦ inr (inr later)
]

-- what stands in a set of texts is one of them
pub from-set : (words : Texts) (q : List ℕ) → Contains (with_texts [] words) q → In q words
from-set words q there = elim (from-texts [] words q there) [
  | inl none ↦ absurd (contains-In [] q none)
  | inr word ↦ word
]

-- pairs have the names that they were made of
pub names-of-pairs : {V : Type 0} (f : List ℕ → V) (names : Texts)
    → map (λ (v : List ℕ × V). v.0) (map (λ name. (name, f name)) names) ≡ names
names-of-pairs f [] = refl
names-of-pairs f (name ∷ names) = ap (λ rest. name ∷ rest) (names-of-pairs f names)
