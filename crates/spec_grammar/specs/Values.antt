-- The machine that reads the values behind `NAME=`.
use Rattle.std.specs.Prelude.{◌≡◌, ◌<◌, ◌≤◌, ℕ, ◌==◌, ◌&&◌, Bool, true, false, List, length, take, slice_index, Option, Some, None, if◌then◌else◌}
use Rattle.version_order.specs.Machine.{run}
use Rattle.spec_grammar.specs.Signs.{is_value_byte}
use Rattle.spec_grammar.specs.declared.key.KeyKind.{KeyKind}
use Rattle.spec_grammar.specs.declared.key.KeyKind.TheVariants as key
use Rattle.spec_grammar.specs.declared.values.Run.{Run}
use Rattle.spec_grammar.specs.declared.values.Run.TheVariants.{One, Many, Target, First, Second, Third}

abbrev pub start_run : KeyKind → Option Run
start_run key.Platform = Some (One false)
start_run key.Os = Some (One false)
start_run key.Arch = Some (First false)
start_run key.Target = Some (Target false false)
start_run key.Flags = None
start_run key.Variant = Some (Many false)

abbrev pub after : Run → ℕ → Option Run
after (One some) b = if is_value_byte b then Some (One true) else None
after (Many some) b = if is_value_byte b then Some (Many true) else if b == 44 && some then Some (Many false) else None
after (Target some colon) b =
    if b == 58 then (if colon then None else Some (Target true true))
    else if is_value_byte b then Some (Target true colon)
    else if b == 44 && some then Some (Target false false)
    else None
after (First some) b = if b == 45 then (if some then Some (Second false) else None) else if is_value_byte b then Some (First true) else None
after (Second some) b = if b == 45 then (if some then Some (Third false false) else None) else if is_value_byte b then Some
    (Second true) else None
after (Third some colon) b =
    if b == 45 then None
    else if b == 58 then (if colon then None else Some (Third true true))
    else if is_value_byte b then Some (Third true colon)
    else None

-- the values may end here
abbrev pub is_whole : Run → Bool
is_whole (One some) = some
is_whole (Many some) = some
is_whole (Target some colon) = some
is_whole (First some) = false
is_whole (Second some) = false
is_whole (Third some colon) = some

-- a machine goes from s to t over the first n bytes, and no further
pub record Stops {S : Type 0} (step : S → ℕ → Option S) (s : S) (text : List ℕ) (t : S) (n : ℕ) : Type 0 where
  pub within : n ≤ length text
  pub reached : run step s (take n text) ≡ Some t
  pub stuck : n < length text → step t (slice_index text n) ≡ None
