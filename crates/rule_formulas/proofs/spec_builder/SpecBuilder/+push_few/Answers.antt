use Rattle.std.proofs.Common.{◌≡◌, [], ◌∷◌, ◌++◌, ◌-◌, sym, subst, List, map, take, drop, length, OnOk}
use Rattle.std.proofs.lemmas.List.{take_rest}
use Rattle.clause_formulas.specs.Rules.{Proposition}
use Rattle.graph_formulas.specs.Facts.{GraphWord}
use Rattle.graph_formulas.specs.Lists.{half_length, halves_rule, few_rules}
use Rattle.graph_formulas.specs.Parts.{holds_rule}
use Rattle.graph_formulas.specs.Words.{names_for, rule_said}
use Rattle.rule_formulas.specs.Paths.{path_by}
use Rattle.rule_formulas.proofs.Few.{few-none, few-short, few-joined}
use Rattle.rule_formulas.proofs.spec_builder.SpecBuilder.+push_few.Goals as goal

pub returns-then-times-eq0 : goal.returns-then-times-eq0
returns-then-times-eq0 t c =
    let table = c.args.self.now.scribe.table.now in
    let path = path_by table c.args.self.now.paths.now in
    let holds = holds_rule c.args.self.now.world.now (names_for table) c.args.name.now in
    subst (λ (rs : List (Proposition GraphWord)). OnOk c.push_apart.result (c.push_apart.new.parts.items ≡ c.args.parts.now.items
    ++ map (rule_said path table) rs))
    (sym (few-none path table holds c.args.times c.args.specs.now c.if-times-eq0.true)) c.push_apart.ensures

pub returns-then-specs-le-SHORT : goal.returns-then-specs-le-SHORT
returns-then-specs-le-SHORT t c =
    let table = c.args.self.now.scribe.table.now in
    let path = path_by table c.args.self.now.paths.now in
    let holds = holds_rule c.args.self.now.world.now (names_for table) c.args.name.now in
    subst (λ (rs : List (Proposition GraphWord)). OnOk c.push_apart-then-specs-le-SHORT.result
    (c.push_apart-then-specs-le-SHORT.new.parts.items ≡ c.args.parts.now.items ++ map (rule_said path table) rs))
    (sym (few-short path table holds c.args.times c.args.specs.now c.if-specs-le-SHORT.true)) c.push_apart-then-specs-le-SHORT.ensures

pub returns : goal.returns
returns t c =
    let table = c.args.self.now.scribe.table.now in
    let path = path_by table c.args.self.now.paths.now in
    let holds = holds_rule c.args.self.now.world.now (names_for table) c.args.name.now in
    let xs = c.args.specs.now in
    let pushed : c.push.new.self.items ≡ c.args.parts.now.items ++ c.in_ok-halves_formula.field-0 ∷ [] = c.in_ok-push.ensures.items in
    let halves : c.in_ok-halves_formula.field-0 ≡ rule_said path table
    (halves_rule holds (take (half_length xs) xs) (take (length xs - half_length xs) (drop (half_length xs) xs))) =
    c.in_ok-halves_formula.ensures in
    let front : c.push_few.new.parts.items ≡ c.push.new.self.items
    ++ map (rule_said path table) (few_rules (c.args.times - 1) holds (take (half_length xs) xs)) = c.in_ok-push_few.ensures in
    let back : c.push_few-2.new.parts.items ≡ c.push_few.new.parts.items
    ++ map (rule_said path table) (few_rules (c.args.times - 1) holds (take (length xs - half_length xs) (drop (half_length xs) xs))) =
    c.in_ok-push_few-2.ensures in
    few-joined path table holds c.args.parts.now.items c.push.new.self.items c.push_few.new.parts.items c.push_few-2.new.parts.items
    c.args.times xs
    c.in_ok-halves_formula.field-0 c.if-times-eq0.false c.if-specs-le-SHORT.false pushed
    (rw (take_rest xs (half_length xs)) at halves) front
    (rw (take_rest xs (half_length xs)) at back)
