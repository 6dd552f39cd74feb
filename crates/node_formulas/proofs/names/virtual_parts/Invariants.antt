use Rattle.std.proofs.Common.{◌≡◌, ◌++◌, map, drop}
use Rattle.clause_formulas.specs.Statements.{Statement}
use Rattle.graph_core.specs.Graphs.{Text}
use Rattle.word_formulas.specs.Builders.{Builds}
use Rattle.node_formulas.proofs.names.virtual_parts.Given as goal

abbrev pub invariant-loop-provider : goal.invariant-loop-provider
invariant-loop-provider g l = (formula : Text → Statement) → Builds g.F.Fn formula l.fn.part
    → l.parts.items ++ map (λ p. formula p.name) (drop l.provider-index l.fn.providers) ≡ map (λ p. formula p.name) l.fn.providers
