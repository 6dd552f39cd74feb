use Rattle.std.proofs.Common.{rules, ◌∙◌}
use Rattle.condition_rules.specs.Words.{is_some_and}
use Rattle.problem.specs.Problems.{same_compiler}
use Rattle.graph_formulas.specs.Facts.{has_compiler}
use Rattle.graph_formulas.specs.Built.{entry_rule}
use Rattle.word_formulas.specs.Builders.{node_said, plain_said}
use Rattle.word_formulas.proofs.Steps.{ok-same, ok-is, both-same}
use Rattle.word_formulas.proofs.scribe.Scribe.entry_formula.Goals as goal

pub returns : goal.returns
returns c =
    let table = c.args.self.now.table.now in
    let name = c.args.name.now in
    let entry = c.args.entry.now in
    let compiler = ok-is c.compiler_passes.result c.in_ok-compiler.compiler
    (node_said table name (has_compiler (λ x. is_some_and x (same_compiler entry.compiler)))) c.in_ok-compiler.was
    (c.compiler_passes.ensures (λ x. is_some_and x (same_compiler entry.compiler)) (λ x b says. search rules)) in
    let os = ok-is c.os_listed.result c.in_ok-os.os _ c.in_ok-os.was (c.os_listed.ensures) in
    let targets = ok-is c.target_listed.result c.in_ok-targets.targets _ c.in_ok-targets.was (c.target_listed.ensures) in
    let machine = c.in_ok-machine.ensures ∙ both-same _ _ _ _ os targets in
    ok-same c.both-2.result _ (plain_said table (entry_rule c.args.problem.now name entry)) (both-same _ _ _ _ compiler machine)
    c.both-2.ensures
