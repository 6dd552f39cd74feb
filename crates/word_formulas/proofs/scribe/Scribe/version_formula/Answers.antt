use Rattle.std.proofs.Common.{rules, ap}
use Rattle.std.specs.List.{list_any}
use Rattle.std.specs.Str.{bytes_eq}
use Rattle.graph_formulas.specs.Facts.{has_version}
use Rattle.graph_formulas.specs.Built.{version_rule}
use Rattle.word_formulas.specs.Builders.{node_said, plain_said}
use Rattle.word_formulas.proofs.Steps.{ok-same}
use Rattle.word_formulas.proofs.scribe.Scribe.version_formula.Goals as goal

pub returns : goal.returns
returns c =
    let made = c.version_passes.ensures (λ version. list_any (λ row. bytes_eq row.version version) c.versions_at-rows.result.now)
    (λ x b says. search rules) in
    ok-same c.version_passes.result _ (plain_said c.args.self.now.table.now (version_rule c.args.problem.now c.args.name.now))
    (ap (λ (rows : _). node_said c.args.self.now.table.now c.args.name.now
    (has_version (λ version. list_any (λ row. bytes_eq row.version version) rows))) c.versions_at-rows.ensures) made
