-- Lines of the section `devices`.
use Rattle.std.specs.Prelude.{ℕ, ◌+◌, ◌-◌, ◌*◌, List, [], ◌∷◌, drop, length, Bool, true, false, ◌&&◌, ◌==◌, nat_lt, if◌then◌else◌, Option, Some, None, codes}
use Rattle.std.specs.Char.{is_ascii_digit}
use Rattle.std.specs.List.{list_any}
use Rattle.std.specs.Str.{bytes_eq}
use Rattle.scenario_reader.specs.Marks.{has_front}
use Rattle.scenario_reader.specs.declared.device.Device.{Device}
use Rattle.scenario_reader.specs.declared.device.Device.TheVariants.{Fail, FailOut, FailErr, Pieces, EveryCall}

-- the number that digits write behind those of a value
abbrev pub number_from : ℕ → List ℕ → Option ℕ
number_from value [] = Some value
number_from value (b ∷ bs) = if is_ascii_digit b && nat_lt value 100000000 then number_from (value * 10 + (b - 48)) bs else None

-- a number of one to nine digits
abbrev pub number_of : List ℕ → Option ℕ
number_of digits = if length digits == 0 then None else number_from 0 digits

abbrev pub number_behind : List ℕ → List ℕ → Option ℕ
number_behind front line = if has_front front line then number_of (drop (length front) line) else None

abbrev pub with_pieces : Option ℕ → Option Device
with_pieces (Some bytes) = if nat_lt 0 bytes then Some (Pieces bytes) else None
with_pieces None = None

-- the first of these that there is
abbrev pub or_else : {A : Type 0} → (ℕ → A) → Option ℕ → Option A → Option A
or_else make (Some n) other = Some (make n)
or_else make None other = other

unfoldable pub device_of : List ℕ → Option Device
device_of line =
    if bytes_eq line (codes "every call") then Some EveryCall
    else or_else Fail (number_behind (codes "fail ") line)
    (or_else FailOut (number_behind (codes "fail-out ") line)
    (or_else FailErr (number_behind (codes "fail-err ") line)
    (with_pieces (number_behind (codes "pieces ") line))))

abbrev pub fails : Device → Bool
fails (Fail n) = true
fails (FailOut n) = true
fails (FailErr n) = true
fails (Pieces n) = false
fails EveryCall = false

abbrev pub is_every : Device → Bool
is_every EveryCall = true
is_every _ = false

abbrev pub is_clash : List Device → Bool
is_clash devices = list_any is_every devices && list_any fails devices
