use Rattle.std.proofs.Common.{◌≡◌, ◌++◌, Bool, map, filter, drop}
use Rattle.clause_formulas.specs.Statements.{Statement}
use Rattle.literal_table.specs.Choices.{IsTest}
use Rattle.word_formulas.specs.Builders.{Builds}
use Rattle.word_formulas.proofs.loops.parts_where.Given as goal

abbrev pub invariant-loop-item : goal.invariant-loop-item
invariant-loop-item g l = (p : _ → Bool) (formula : _ → Statement) → IsTest g.P.Fn p l.fn.test → Builds g.F.Fn formula l.fn.part
    → l.parts.items ++ map formula (filter p (drop l.item-index l.fn.items)) ≡ map formula (filter p l.fn.items)
