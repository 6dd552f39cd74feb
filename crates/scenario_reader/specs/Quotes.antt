-- Quoted lines: parts with a blank between each two, of which each is `"TEXT"` or `"TEXT" * NUMBER`.
use Rattle.std.specs.Prelude.{ℕ, ◌+◌, ◌-◌, ◌*◌, ◌%◌, ◌==◌, nat_le, nat_lt, ◌&&◌, if◌then◌else◌, List, [], ◌∷◌, ◌++◌, Option, Some, None}
use Rattle.std.specs.Option.{option_map, option_and_then}
use Rattle.std.specs.Char.{is_ascii_digit}
use Rattle.std.specs.List.{repeat}
use Rattle.scenario_reader.specs.declared.quote_step.Mode.{Mode}
use Rattle.scenario_reader.specs.declared.quote_step.Mode.TheVariants.{Start, Inside, Escape, First, Second, Closed, Gap, Star, Number, Count}
use Rattle.scenario_reader.specs.declared.quote_step.Act.{Act}
use Rattle.scenario_reader.specs.declared.quote_step.Act.TheVariants.{Nothing, Byte, Times}

-- `\n`, `\t`, `\r`, `\"` and `\\`
abbrev pub escape_of : ℕ → Option ℕ
escape_of b =
    if b == 110 then Some 10
    else if b == 116 then Some 9
    else if b == 114 then Some 13
    else if b == 34 then Some 34
    else if b == 92 then Some 92
    else None

-- a digit of `\xHH`
abbrev pub hex_of : ℕ → Option ℕ
hex_of b =
    if nat_le 48 b && nat_le b 57 then Some (b - 48)
    else if nat_le 97 b && nat_le b 102 then Some (b - 97 + 10)
    else None

abbrev pub next : Mode → ℕ → Option (Mode × Act)
next Start b = if b == 34 then Some (Inside, Nothing) else None
next Inside b =
    if b == 34 then Some (Closed, Nothing)
    else if b == 92 then Some (Escape, Nothing)
    else Some (Inside, Byte b)
next Escape b = if b == 120 then Some (First, Nothing) else option_map (λ c. (Inside, Byte c)) (escape_of b)
next First b = option_map (λ high. (Second high, Nothing)) (hex_of b)
next (Second high) b = option_map (λ low. (Inside, Byte (high % 16 * 16 + low))) (hex_of b)
next Closed b = if b == 32 then Some (Gap, Nothing) else None
next Gap b =
    if b == 34 then Some (Inside, Times 1)
    else if b == 42 then Some (Star, Nothing)
    else None
next Star b = if b == 32 then Some (Number, Nothing) else None
next Number b = if nat_le 48 b && nat_le b 57 then Some (Count (b - 48), Nothing) else None
next (Count n) b =
    if b == 32 then Some (Start, Times n)
    else if is_ascii_digit b && nat_lt n 1000000 then Some (Count (n * 10 + (b - 48)), Nothing)
    else None

-- how often the last part counts
abbrev pub at_end : Mode → Option ℕ
at_end Closed = Some 1
at_end (Count n) = Some n
at_end _ = None

-- the parts that are over, and the one at hand, after a byte
abbrev pub acted : Act → List ℕ × List ℕ → List ℕ × List ℕ
acted Nothing text = text
acted (Byte b) text = (text.0, text.1 ++ b ∷ [])
acted (Times n) text = (text.0 ++ repeat n text.1, [])

-- what the rest of a quoted line makes of the parts that are over and the one at hand
abbrev pub unquoted : Mode → List ℕ × List ℕ → List ℕ → Option (List ℕ)
unquoted mode text [] = option_map (λ n. text.0 ++ repeat n text.1) (at_end mode)
unquoted mode text (b ∷ bs) = option_and_then (λ found. unquoted found.0 (acted found.1 text) bs) (next mode b)

-- the bytes that a quoted line stands for
unfoldable pub unquote : List ℕ → Option (List ℕ)
unquote line = unquoted Start ([], []) line
