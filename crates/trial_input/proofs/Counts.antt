-- Loops over a count, one step on.
use Rattle.std.proofs.Common.{◌≡◌, ℕ, suc, ◌+◌, ◌-◌, ◌<◌, ◌≤◌, ◌++◌, List, refl, ap, sym, ◌∙◌, append_assoc, arith}
use Rattle.std.proofs.lemmas.List.{append-nil}
use Rattle.outside_desk.specs.Files.{Files}
use Rattle.std.specs.FinMap.{insert}
use Rattle.trial_input.specs.Recipes.{version_line, version_lines, dependency, dependencies, recipe}
use Rattle.trial_input.specs.Inputs.{trial_recipe_path, with_recipes}

all_left : (n : ℕ) → n - 0 ≡ n
all_left n = omega arith

none_left : (i n : ℕ) → n ≤ i → n - i ≡ 0
none_left i n le = omega (arith, le)

one_left : (i n : ℕ) → i < n → n - i ≡ suc (n - (i + 1))
one_left i n lt = omega (arith, lt)

at_start : (from : ℕ) → from + 0 ≡ from
at_start from = omega arith

one_on : (from i : ℕ) → from + (i + 1) ≡ (from + i) + 1
one_on from i = omega arith

-- what is left after so many steps
abbrev pub versions_left : ℕ → ℕ → ℕ → List ℕ
versions_left from i n = version_lines (from + i) (n - i)

-- at the begin all lines are left
pub versions_start : (from n : ℕ) → versions_left from 0 n ≡ version_lines from n
versions_start from n = rw (all_left n, at_start from) refl

-- a line more
pub more_versions : (out : List ℕ) (from i n : ℕ) → i < n → (out ++ version_line (from + i)) ++ versions_left from (i + 1) n ≡ out
    ++ versions_left from i n
more_versions out from i n lt =
    append_assoc out (version_line (from + i)) (versions_left from (i + 1) n)
    ∙ ap (λ s. out ++ (version_line (from + i) ++ version_lines s (n - (i + 1)))) (one_on from i)
    ∙ ap (λ m. out ++ version_lines (from + i) m) (sym (one_left i n lt))

-- at the end no line is left
pub versions_done : (out : List ℕ) (from i n : ℕ) → n ≤ i → out ++ versions_left from i n ≡ out
versions_done out from i n le = ap (λ m. out ++ version_lines (from + i) m) (none_left i n le) ∙ append-nil out

-- the text of the dependencies that are left, and the state behind them
abbrev pub needs_left : ℕ → ℕ → ℕ → ℕ → ℕ → List ℕ
needs_left packages own i n state = (dependencies packages own (n - i) state).text

-- the state of the generator behind the dependencies that are left
abbrev pub state_left : ℕ → ℕ → ℕ → ℕ → ℕ → ℕ
state_left packages own i n state = (dependencies packages own (n - i) state).state

-- at the begin all dependencies are left
pub needs_start : (packages own n state : ℕ) → needs_left packages own 0 n state ≡ (dependencies packages own n state).text
needs_start packages own n state = ap (λ m. (dependencies packages own m state).text) (all_left n)

-- and the state behind them
pub state_start : (packages own n state : ℕ) → state_left packages own 0 n state ≡ (dependencies packages own n state).state
state_start packages own n state = ap (λ m. (dependencies packages own m state).state) (all_left n)

more_needs : (out : List ℕ) (packages own i n state : ℕ) → i < n
    → (out ++ (dependency packages own state).text) ++ needs_left packages own (i + 1) n (dependency packages own state).state
    ≡ out ++ needs_left packages own i n state
more_needs out packages own i n state lt =
    append_assoc out (dependency packages own state).text (needs_left packages own (i + 1) n (dependency packages own state).state)
    ∙ ap (λ m. out ++ (dependencies packages own m state).text) (sym (one_left i n lt))

needs_state : (packages own i n state : ℕ) → i < n
    → state_left packages own (i + 1) n (dependency packages own state).state ≡ state_left packages own i n state
needs_state packages own i n state lt = ap (λ m. (dependencies packages own m state).state) (sym (one_left i n lt))

-- a dependency more
pub needs_step : (before after whole : List ℕ) (packages own i n state next last : ℕ) → i < n
    → after ≡ before ++ (dependency packages own state).text
    → next ≡ (dependency packages own state).state → before ++ needs_left packages own i n state ≡ whole
    → state_left packages own i n state ≡ last
    → (after ++ needs_left packages own (i + 1) n next ≡ whole) × (state_left packages own (i + 1) n next ≡ last)
needs_step before after whole packages own i n state next last lt text is done ends = (
  ap (λ o. o ++ needs_left packages own (i + 1) n next) text
      ∙ ap (λ s. (before ++ (dependency packages own state).text) ++ needs_left packages own (i + 1) n s) is
      ∙ more_needs before packages own i n state lt ∙ done,
  ap (λ s. state_left packages own (i + 1) n s) is ∙ needs_state packages own i n state lt ∙ ends,
)

-- at the end none is left
pub needs_done : (out : List ℕ) (packages own i n state : ℕ) → n ≤ i → out ++ needs_left packages own i n state ≡ out
needs_done out packages own i n state le = ap (λ m. out ++ (dependencies packages own m state).text) (none_left i n le) ∙ append-nil out

-- and the state is that behind all
pub state_done : (packages own i n state : ℕ) → n ≤ i → state_left packages own i n state ≡ state
state_done packages own i n state le = ap (λ m. (dependencies packages own m state).state) (none_left i n le)

-- the files with those recipes that are left
abbrev pub recipes_left : ℕ → ℕ → ℕ → ℕ → ℕ → Files → Files
recipes_left packages own i n state files = with_recipes packages (own + i) (n - i) state files

-- at the begin all recipes are left
pub recipes_start : (packages own n state : ℕ) (files : Files)
    → recipes_left packages own 0 n state files ≡ with_recipes packages own n state files
recipes_start packages own n state files = rw (all_left n, at_start own) refl

-- a recipe more
pub more_recipes : (packages own i n state : ℕ) (files : Files) → i < n
    → recipes_left packages own (i + 1) n (recipe packages (own + i) state).state
    (insert files (trial_recipe_path (own + i)) (recipe packages (own + i) state).text)
    ≡ recipes_left packages own i n state files
more_recipes packages own i n state files lt =
    ap (λ s. with_recipes packages s (n - (i + 1)) (recipe packages (own + i) state).state
    (insert files (trial_recipe_path (own + i)) (recipe packages (own + i) state).text)) (one_on own i)
    ∙ ap (λ m. with_recipes packages (own + i) m state files) (sym (one_left i n lt))

-- at the end none is left
pub recipes_done : (packages own i n state : ℕ) (files : Files) → n ≤ i → recipes_left packages own i n state files ≡ files
recipes_done packages own i n state files le = ap (λ m. with_recipes packages (own + i) m state files) (none_left i n le)
