use Rattle.std.proofs.Common.{◌≡◌, ◌++◌, map, drop}
use Rattle.clause_formulas.specs.Statements.{Statement}
use Rattle.graph_core.specs.Graphs.{Text}
use Rattle.word_formulas.specs.Builders.{Builds}
use Rattle.node_formulas.proofs.names.name_parts.Given as goal

abbrev pub invariant-loop-block : goal.invariant-loop-block
invariant-loop-block g l = (formula : Text → Statement) → Builds g.F.Fn formula l.fn.part
    → l.parts.items ++ map (λ b. formula b.name) (drop l.block-index l.fn.blocks) ≡ map (λ b. formula b.name) l.fn.blocks
