-- Sets of texts, as lists of them in byte order.
use Rattle.std.specs.Prelude.{◌≡◌, ◌⊎◌, ◌↔◌, ℕ, List, [], ◌∷◌, ◌≤◌, length, Contains}
use Rattle.std.specs.List.Sorted.{IsStrictlySortedBy, IsPartitionPoint}
use Rattle.std.specs.Ordering.{nat_cmp}
use Rattle.std.specs.declared.cmp.Ordering.{Ordering}
use Rattle.std.specs.declared.cmp.Ordering.TheVariants.{Less, Greater}
use Rattle.std.specs.Cmp.Lexicographic.{slice_cmp}
use Rattle.std.specs.BTreeSet.{insert_key}

-- texts, each as its bytes
abbrev pub Texts : Type 0
Texts = List (List ℕ)

-- the byte order
abbrev pub byte_cmp : List ℕ → List ℕ → Ordering
byte_cmp = slice_cmp nat_cmp

-- each text is below those after it
abbrev pub IsInByteOrder : Texts → Type 0
IsInByteOrder = IsStrictlySortedBy byte_cmp

-- a text is in both or in neither
abbrev pub HaveSameTexts : Texts → Texts → Type 0
HaveSameTexts a b = (q : List ℕ) → Contains a q ↔ Contains b q

-- the new texts are the old ones and this one
abbrev pub AddsText : Texts → List ℕ → Texts → Type 0
AddsText old text new = (q : List ℕ) → Contains new q ↔ ((q ≡ text) ⊎ Contains old q)

-- the texts, with this one at its place in the order unless it is there
abbrev pub with_text : Texts → List ℕ → Texts
with_text = insert_key byte_cmp

-- the texts and these, put to them one after another
unfoldable pub with_texts : Texts → Texts → Texts
with_texts texts [] = texts
with_texts texts (word ∷ words) = with_texts (with_text texts word) words

-- the text would stand at the place: those before are below it, and those from there on above
pub record IsGapFor (texts : Texts) (text : List ℕ) (place : ℕ) : Type 0 where
  pub within : place ≤ length texts
  pub parted : IsPartitionPoint (λ u. byte_cmp u text ≡ Less) (λ u. byte_cmp u text ≡ Greater) texts place
