-- The recipes of a made input, by their numbers.
use Rattle.std.specs.Prelude.{ℕ, zero, suc, Bool, ◌+◌, ◌-◌, ◌==◌, nat_lt, List, [], ◌++◌, codes, decimal, if◌then◌else◌}
use Rattle.trial_input.specs.Draws.{next_state, drawn}

-- a text with the state of the draws behind it
pub record Drawn : Type 0 where
  pub text : List ℕ
  pub state : ℕ

unfoldable pub version_line : ℕ → List ℕ
version_line number = codes "    version(\"1." ++ (decimal number ++ codes "\")\n")

-- so many versions, from 1.`from` on
abbrev pub version_lines : ℕ → ℕ → List ℕ
version_lines from zero = []
version_lines from (suc count) = version_line from ++ version_lines (from + 1) count

unfoldable pub depend_line : ℕ → Bool → List ℕ
depend_line child conditional =
    codes "    depends_on(\"p" ++ (decimal child ++ (if conditional then codes "@1.0:\", when=\"+a\")\n" else codes "@1.0:\")\n"))

-- one dependency of package `own` of so many, on a later one, with or without a condition
unfoldable pub dependency : ℕ → ℕ → ℕ → Drawn
dependency packages own state =
    record {
      text = depend_line (own + 1 + drawn (packages - 1 - own) state) (drawn 2 (next_state state) == 1);
      state = next_state (next_state state);
    }

-- so many dependencies
abbrev pub dependencies : ℕ → ℕ → ℕ → ℕ → Drawn
dependencies packages own zero state = record { text = []; state = state }
dependencies packages own (suc count) state =
    let first = dependency packages own state in
    let rest = dependencies packages own count first.state in
    record { text = first.text ++ rest.text; state = rest.state }

-- one to three dependencies, of all packages but the last
unfoldable pub all_dependencies : ℕ → ℕ → ℕ → Drawn
all_dependencies packages own state =
    if nat_lt (own + 1) packages then dependencies packages own (1 + drawn 3 state) (next_state state)
    else record { text = []; state = state }

unfoldable pub conflict_line : List ℕ
conflict_line = codes "    conflicts(\"@=1.0\")\n"

-- of packages with two versions or more one in four has a conflict with its first
unfoldable pub conflict : ℕ → ℕ → Drawn
conflict versions state =
    if nat_lt 1 versions then record { text = if drawn 4 state == 0 then conflict_line else []; state = next_state state }
    else record { text = []; state = state }

unfoldable pub head_line : List ℕ
head_line = codes "class P(Package):\n"

unfoldable pub variant_line : List ℕ
variant_line = codes "    variant(\"a\", default=True)\n"

-- the class, one to four versions and the variant
unfoldable pub declared : ℕ → List ℕ
declared versions = head_line ++ (version_lines 0 versions ++ variant_line)

-- the recipe of package `own` of so many
unfoldable pub recipe : ℕ → ℕ → ℕ → Drawn
recipe packages own state =
    let versions = 1 + drawn 4 state in
    let needs = all_dependencies packages own (next_state state) in
    let refused = conflict versions needs.state in
    record { text = declared versions ++ (needs.text ++ refused.text); state = refused.state }
