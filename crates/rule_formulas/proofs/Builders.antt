-- Builders of specs that stand for others.
use Rattle.std.proofs.Common.{◌≡◌, refl}
use Rattle.clause_formulas.specs.Rules.{Proposition}
use Rattle.condition_rules.specs.Worlds.{World}
use Rattle.literal_table.specs.Tables.{Table}
use Rattle.graph_levels.specs.Levels.{PathTable}
use Rattle.graph_formulas.specs.Facts.{GraphWord}
use Rattle.graph_formulas.specs.Words.{names_for, rule_said}
use Rattle.rule_formulas.specs.Paths.{path_by}
use Rattle.rule_formulas.specs.Says.{Names}

-- equal tables, worlds and paths give the same formula
pub said-same : (t u : Table) (w v : World) (p q : PathTable) (rule : World → Names → Proposition GraphWord) → t ≡ u → w ≡ v → p ≡ q
    → rule_said (path_by t p) t (rule w (names_for t)) ≡ rule_said (path_by u q) u (rule v (names_for u))
said-same t u w v p q rule tables worlds paths = rw (tables, worlds, paths) refl
