-- The lines of demands.
use Rattle.std.specs.Prelude.{ℕ, ◌==◌, List, [], ◌++◌, Option, Some, None, slice_get, codes, decimal, if◌then◌else◌}
use Rattle.std.specs.List.{list_any, flat_map}
use Rattle.problem.specs.OfGraphCore.Graphs.{Text}
use Rattle.spec_grammar.specs.Canonical.{spec_text}
use Rattle.spec_grammar.specs.declared.part.Spec.{Spec}
use Rattle.problem.specs.Problems.{Problem, depends_at, conflicts_at}
use Rattle.problem.specs.Demands.{demands}
use Rattle.problem.specs.declared.demand.Demand.{Demand}
use Rattle.problem.specs.declared.demand.Demand.TheVariants as demand

-- the canonical text of a root
abbrev pub text_of_root : Option Spec → List ℕ
text_of_root None = []
text_of_root (Some spec) = spec_text spec

-- a root by its place and its canonical text
unfoldable pub root_line : Problem → ℕ → List ℕ
root_line problem place = codes "root " ++ (decimal place ++ (codes " " ++ (text_of_root (slice_get problem.roots place) ++ codes "\n")))

-- which directive of the owner has the number
unfoldable pub directive_word : Problem → Text → ℕ → List ℕ
directive_word problem owner number =
    if list_any (λ row. row.number == number) (depends_at problem owner) then codes "depends_on"
    else if list_any (λ row. row.number == number) (conflicts_at problem owner) then codes "conflicts"
    else codes "requires"

-- a directive by its owner, its word and its number
unfoldable pub directive_line : Problem → Text → ℕ → List ℕ
directive_line problem owner number =
    owner ++ (codes " " ++ (directive_word problem owner number ++ (codes " " ++ (decimal number ++ codes "\n"))))

-- a requirement of the settings by its package and its place
unfoldable pub setting_line : Text → ℕ → List ℕ
setting_line owner place = owner ++ (codes " require " ++ (decimal place ++ codes "\n"))

abbrev pub line_of_demand : Problem → Demand → List ℕ
line_of_demand problem (demand.Root place) = root_line problem place
line_of_demand problem (demand.Directive owner number) = directive_line problem owner number
line_of_demand problem (demand.Setting owner place) = setting_line owner place

abbrev pub line_for : Problem → Option Demand → List ℕ
line_for problem None = []
line_for problem (Some asked) = line_of_demand problem asked

-- a line for each demand, by its number among those of the problem
abbrev pub reasons_text : Problem → List ℕ → List ℕ
reasons_text problem ids = flat_map (λ id. line_for problem (slice_get (demands problem) id)) ids
