use Rattle.std.proofs.Common.{◌≡◌, ◌++◌, drop}
use Rattle.rule_formulas.specs.Governing.{last_parts}
use Rattle.rule_formulas.proofs.variants.VariantBuilder.push_last.Given as goal

abbrev pub invariant-loop-i : goal.invariant-loop-i
invariant-loop-i g l =
    l.parts.items ++ last_parts l.fn.self.scribe.table.now (g.C.MetConditions.condition_of l.fn.self.conditions.now) l.fn.self.name.now l.fn.self.variant.now (drop l.i l.rows)
    ≡ l.fn.parts.items ++ last_parts l.fn.self.scribe.table.now (g.C.MetConditions.condition_of l.fn.self.conditions.now) l.fn.self.name.now l.fn.self.variant.now l.fn.rows
