-- Bits behind the clauses of a problem, which compare as numbers of graphs do.
use Rattle.std.specs.Prelude.{◌≡◌, ℕ, Bool, List}
use Rattle.clause_store.specs.declared.Lit.{Lit}
use Rattle.clause_store.specs.Clauses.{Clauses, Meets}
use Rattle.clause_circuits.specs.Growth.{MeetsSince, Defines}
use Rattle.clause_formulas.specs.Statements.{Statement}
use Rattle.clause_formulas.specs.Drafts.{statement_at}
use Rattle.clause_formulas.specs.declared.defined.Defined.{Defined}
use Rattle.clause_formulas.specs.Gated.{bare}
use Rattle.clause_formulas.specs.Built.{define_all_in}
use Rattle.criteria_totals.specs.Spellings.{compare_bits, compare_numbers}
use Rattle.criteria_totals.specs.Totals.{values_at}
use Rattle.graph_core.specs.Graphs.{Text, Content}
use Rattle.problem.specs.Problems.{Problem}
use Rattle.literal_table.specs.Tables.{Table}
use Rattle.literal_table.specs.Spells.{Spells}
use Rattle.graph_levels.specs.Stages.{Decodes}
use Rattle.graph_levels.specs.Bits.{IsLeastModel, IsBest}
use Rattle.graph_levels.specs.Edges.{EdgesSay}
use Rattle.graph_encoding.specs.Formulas.{Formulas, PathFormulas, PathsTold, ConditionsTold}
use Rattle.graph_encoding.specs.Encodings.{edges_made, levels_made, path_of, told_in}

-- the formulas of paths and conditions of an encoding
abbrev pub path_for : Problem → Table → ℕ → Formulas → List Text → PathFormulas
path_for problem t n f targets = path_of t targets (levels_made problem t n f targets).answer

-- what is defined for each condition
abbrev pub values_for : Problem → Table → ℕ → Formulas → List Text → List Defined
values_for problem t n f targets =
    (define_all_in (bare (levels_made problem t n f targets).list) (f.conditions (path_for problem t n f targets))).answer

abbrev pub met_for : Problem → Table → ℕ → Formulas → List Text → ℕ → Statement
met_for problem t n f targets = statement_at (values_for problem t n f targets)

-- all that an assignment says of a graph where it meets the clauses
pub record SaysAll (problem : Problem) (t : Table) (n : ℕ) (f : Formulas) (targets : List Text) (holds : ℕ → Content → Bool) (v : ℕ → Bool)
    (g : Content) : Type 0 where
  pub spells : Spells v t g
  pub edges : EdgesSay t.edges (edges_made t n f).answer v g
  pub paths : PathsTold (told_in t targets) (path_for problem t n f targets) v g
  pub conditions : ConditionsTold holds (met_for problem t n f targets) v g

-- bits that a longer list defines, and that compare as sums do
pub record OrdersBits (old new : Clauses) (bits : List Lit) (sums : (ℕ → Bool) → List ℕ) : Type 0 where
  pub defines : Defines old new
  pub order : (asked v w : ℕ → Bool) → MeetsSince asked v old new → MeetsSince asked w old new
      → compare_bits (values_at v bits) (values_at w bits) ≡ compare_numbers (sums v) (sums w)
  pub equal : (asked v w : ℕ → Bool) → MeetsSince asked v old new → MeetsSince asked w old new → values_at v bits ≡ values_at w bits
      → sums v ≡ sums w

-- models decode to just the right graphs; their bits compare as the graphs' numbers, and a model with the least bits decodes to a best graph
pub record RanksGraphs (list : Clauses) (decode : (ℕ → Bool) → Content) (Right : (ℕ → Bool) → Content → Type 0) (bits : List Lit)
    (numbers : Content → List ℕ) : Type 0 where
  pub decodes : Decodes list decode Right
  pub order : (asked v w : ℕ → Bool) → Meets asked v list.entries → Meets asked w list.entries
      → compare_bits (values_at v bits) (values_at w bits) ≡ compare_numbers (numbers (decode v)) (numbers (decode w))
  pub equal : (asked v w : ℕ → Bool) → Meets asked v list.entries → Meets asked w list.entries → values_at v bits ≡ values_at w bits
      → numbers (decode v) ≡ numbers (decode w)
  pub best : (asked v : ℕ → Bool) → Meets asked v list.entries → IsLeastModel list bits asked v → IsBest Right numbers asked (decode v)
