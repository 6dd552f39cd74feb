use Rattle.std.proofs.Common.{◌≡◌, ◌++◌, map, drop}
use Rattle.graph_formulas.specs.Lists.{apart_rules}
use Rattle.graph_formulas.specs.Parts.{holds_rule}
use Rattle.graph_formulas.specs.Words.{names_for, rule_said}
use Rattle.rule_formulas.specs.Paths.{path_by}
use Rattle.rule_formulas.proofs.spec_builder.SpecBuilder.push_apart.Given as goal

abbrev pub invariant-loop-i : goal.invariant-loop-i
invariant-loop-i l =
    l.parts.items ++ map (rule_said (path_by l.fn.self.scribe.table.now l.fn.self.paths.now) l.fn.self.scribe.table.now)
    (apart_rules (holds_rule l.fn.self.world.now (names_for l.fn.self.scribe.table.now) l.fn.name) (drop l.i l.specs))
    ≡ l.fn.parts.items ++ map (rule_said (path_by l.fn.self.scribe.table.now l.fn.self.paths.now) l.fn.self.scribe.table.now)
    (apart_rules (holds_rule l.fn.self.world.now (names_for l.fn.self.scribe.table.now) l.fn.name) l.fn.specs)
