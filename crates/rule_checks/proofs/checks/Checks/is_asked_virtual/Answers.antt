use Rattle.std.proofs.Common.{◌≡◌, ◌&&◌, ◌∙◌, ap, subst, Bool, List, map}
use Rattle.std.specs.Prelude.{IfOk}
use Rattle.std.specs.List.{list_any}
use Rattle.graph_core.specs.Graphs.{Text}
use Rattle.recipe_data.specs.declared.recipe.DependRow.{DependRow}
use Rattle.problem.specs.Problems.{depends_at}
use Rattle.graph_rules.specs.Built.{asks, names_virtual}
use Rattle.rule_checks.proofs.Filters.{any-filter_last}
use Rattle.rule_checks.proofs.AskedTexts.{any-lent, any-named}
use Rattle.rule_checks.proofs.checks.Checks.is_asked_virtual.Goals as goal

pub returns : goal.returns
returns c =
    let problem = c.args.self.now.problem in
    let name = c.args.name.now in
    let test = names_virtual problem name in
    let holds = asks problem c.args.self.now.graph c.args.node.now c.args.child.now in
    let both = λ (row : DependRow). test row && holds row in
    let all = depends_at problem c.args.node.now.name in
    let run = rw c.as_str.ensures at c.of.ensures in
    subst (λ (b : Bool). IfOk c.some_asks.result (λ answer. answer ≡ b))
    (any-lent both c.of.result.now
    ∙ ap (λ (es : List (Text × DependRow)). list_any both (map (λ (e : Text × DependRow). e.1) es)) run
    ∙ ap (list_any both) (c.requires name)
    ∙ any-named problem name holds all
    ∙ any-filter_last holds test all) c.some_asks.ensures
