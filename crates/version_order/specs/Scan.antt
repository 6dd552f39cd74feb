-- The machine that reads a LIST.
use Rattle.std.specs.Prelude.{◌≡◌, ◌<◌, ◌≤◌, ℕ, ◌==◌, Bool, true, false, List, length, take, slice_index, Option, Some, None, if◌then◌else◌}
use Rattle.version_order.specs.Signs.{is_start, is_version_byte}
use Rattle.version_order.specs.Machine.{run}
use Rattle.version_order.specs.declared.scan.Sign.{Sign}
use Rattle.version_order.specs.declared.scan.Sign.TheVariants.{Start, Inner, Equals, Colon, Comma, Other}
use Rattle.version_order.specs.declared.scan.Place.{Place}
use Rattle.version_order.specs.declared.scan.Place.TheVariants.{Item, Exact, InExact, InLow, High, InHigh}

abbrev pub sign_of : ℕ → Sign
sign_of b =
    if is_start b then Start
    else if is_version_byte b then Inner
    else if b == 61 then Equals
    else if b == 58 then Colon
    else if b == 44 then Comma
    else Other

abbrev pub after : Place → Sign → Option Place
after Item Start = Some InLow
after Item Inner = None
after Item Equals = Some Exact
after Item Colon = Some High
after Item Comma = None
after Item Other = None
after Exact Start = Some InExact
after Exact Inner = None
after Exact Equals = None
after Exact Colon = None
after Exact Comma = None
after Exact Other = None
after InExact Start = Some InExact
after InExact Inner = Some InExact
after InExact Equals = None
after InExact Colon = None
after InExact Comma = Some Item
after InExact Other = None
after InLow Start = Some InLow
after InLow Inner = Some InLow
after InLow Equals = None
after InLow Colon = Some High
after InLow Comma = Some Item
after InLow Other = None
after High Start = Some InHigh
after High Inner = None
after High Equals = None
after High Colon = None
after High Comma = Some Item
after High Other = None
after InHigh Start = Some InHigh
after InHigh Inner = Some InHigh
after InHigh Equals = None
after InHigh Colon = None
after InHigh Comma = Some Item
after InHigh Other = None

-- a LIST may end here
abbrev pub is_final : Place → Bool
is_final Item = false
is_final Exact = false
is_final InExact = true
is_final InLow = true
is_final High = true
is_final InHigh = true

unfoldable pub step : Place → ℕ → Option Place
step place b = after place (sign_of b)

-- the machine goes to `place` over the first n bytes, and no further
pub record Stops (text : List ℕ) (place : Place) (n : ℕ) : Type 0 where
  pub within : n ≤ length text
  pub reached : run step Item (take n text) ≡ Some place
  pub stuck : n < length text → step place (slice_index text n) ≡ None

-- n is how far the machine goes, and whole says whether a LIST may end there
pub record IsListFront (text : List ℕ) (n : ℕ) (whole : Bool) : Type 0 where
  pub place : Place
  pub stops : Stops text place n
  pub final : whole ≡ is_final place
