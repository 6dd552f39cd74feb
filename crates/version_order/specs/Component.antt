-- The rank of a component.
use Rattle.std.specs.Prelude.{ℕ, ◌+◌, ◌-◌, ◌*◌, ◌&&◌, nat_le, nat_lt, Bool, List, length, fold, if◌then◌else◌, codes, Option, Some, None}
use Rattle.std.specs.Char.{is_ascii_digit}
use Rattle.std.specs.List.{list_all}
use Rattle.std.specs.Str.{bytes_eq}
use Rattle.std.specs.Ordering.{nat_cmp}
use Rattle.std.specs.Cmp.Lexicographic.{slice_cmp}
use Rattle.std.specs.declared.cmp.Ordering.{Ordering}
use Rattle.std.specs.declared.cmp.Ordering.TheVariants.{Less, Greater}

-- the six words above all other components, 6 for the greatest
unfoldable pub word_of : List ℕ → Option ℕ
word_of piece =
    if bytes_eq piece (codes "develop") then Some 6
    else if bytes_eq piece (codes "main") then Some 5
    else if bytes_eq piece (codes "master") then Some 4
    else if bytes_eq piece (codes "head") then Some 3
    else if bytes_eq piece (codes "trunk") then Some 2
    else if bytes_eq piece (codes "stable") then Some 1
    else None

-- 1 to 18 digits
abbrev pub is_number : List ℕ → Bool
is_number piece = nat_lt 0 (length piece) && nat_le (length piece) 18 && list_all is_ascii_digit piece

-- the number that digits write
abbrev pub value_of : List ℕ → ℕ
value_of digits = fold (λ n b. n * 10 + (b - 48)) 0 digits

-- the number that a piece writes; a longer run of digits is none
unfoldable pub number_of : List ℕ → Option ℕ
number_of piece = if is_number piece then Some (value_of piece) else None

-- one of the six words, a number, or the bytes of any other piece
pub data Rank : Type 0 where
  Word : ℕ → Rank
  Number : ℕ → Rank
  Other : List ℕ → Rank

abbrev pub rank_by : Option ℕ → Option ℕ → List ℕ → Rank
rank_by (Some word) number piece = Word word
rank_by None (Some number) piece = Number number
rank_by None None piece = Other piece

unfoldable pub rank_of : List ℕ → Rank
rank_of piece = rank_by (word_of piece) (number_of piece) piece

-- words are above numbers, and these above the rest
abbrev pub rank_cmp : Rank → Rank → Ordering
rank_cmp (Word a) (Word b) = nat_cmp a b
rank_cmp (Word a) (Number b) = Greater
rank_cmp (Word a) (Other b) = Greater
rank_cmp (Number a) (Word b) = Less
rank_cmp (Number a) (Number b) = nat_cmp a b
rank_cmp (Number a) (Other b) = Greater
rank_cmp (Other a) (Word b) = Less
rank_cmp (Other a) (Number b) = Less
rank_cmp (Other a) (Other b) = slice_cmp nat_cmp a b

-- components compare by their ranks
abbrev pub component_cmp : List ℕ → List ℕ → Ordering
component_cmp a b = rank_cmp (rank_of a) (rank_of b)
