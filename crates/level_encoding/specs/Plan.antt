-- What is known of an input before its formulas are written.
use Rattle.std.specs.Prelude.{◌≡◌, ℕ, ◌+◌, ◌<◌, ◌≤◌, List, [], Option, None, length, slice_index, slice_index_or}
use Rattle.reachability.specs.Places.{PathMarks, IsPathTable}
use Rattle.clause_store.specs.declared.Lit.{Lit}
use Rattle.level_encoding.specs.declared.input.Arc.{Arc}
use Rattle.level_encoding.specs.Input.{LevelData, numbers, possible}
use Rattle.level_encoding.specs.declared.plan.Plan.{Plan}
use Rattle.level_encoding.specs.Encoding.{level_width, level_start, way, arriving, arcs_leaving, turn_start}

-- a table says which number reaches which
abbrev pub IsReached : LevelData → PathMarks → Type 0
IsReached s table = IsPathTable (numbers s) (possible s) table

-- the width of each number's level
pub record AreWidths (s : LevelData) (widths : List ℕ) : Type 0 where
  pub each_number : length widths ≡ numbers s
  pub widths_right : (i : ℕ) → i < numbers s → slice_index widths i ≡ level_width s i

-- the first variable of each number's level, and of what follows them
pub record AreStarts (s : LevelData) (starts : List ℕ) : Type 0 where
  pub each_number : length starts ≡ numbers s + 1
  pub starts_right : (i : ℕ) → i ≤ numbers s → slice_index starts i ≡ level_start s i

-- the literal of each way to each number
pub record AreWays (s : LevelData) (rows : List (List (Option Lit))) : Type 0 where
  pub each_target : length rows ≡ numbers s
  pub ways_right : (q p : ℕ) → q < numbers s → p < numbers s → slice_index_or (slice_index_or rows q []) p None ≡ way s q p

-- the arcs at each number, by the given end
pub record AreGroups (s : LevelData) (at : LevelData → ℕ → List Arc) (groups : List (List Arc)) : Type 0 where
  pub each_number : length groups ≡ numbers s
  pub groups_right : (i : ℕ) → i < numbers s → slice_index_or groups i [] ≡ at s i

pub record IsPlan (s : LevelData) (plan : Plan) : Type 0 where
  pub reached : IsReached s plan.reached
  pub widths : AreWidths s plan.widths.items
  pub starts : AreStarts s plan.starts.items
  pub ways : AreWays s plan.ways.items
  pub turns : plan.turns ≡ turn_start s
  pub arriving : AreGroups s arriving plan.arriving.items
  pub leaving : AreGroups s arcs_leaving plan.leaving.items
