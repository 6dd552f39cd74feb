use Rattle.std.proofs.Common.{sym, ap, ◌∙◌, map}
use Rattle.std.proofs.lemmas.Result.{IfOk-weaker}
use Rattle.std.specs.Borrow.{Bor}
use Rattle.graph_core.specs.Graphs.{Text}
use Rattle.condition_rules.specs.Worlds.{World}
use Rattle.virtuals.specs.Virtuals.{is_virtual}
use Rattle.recipe_data.specs.declared.recipe.DependRow.{DependRow}
use Rattle.problem.specs.Problems.{depends_at}
use Rattle.rule_formulas.proofs.Named.{virtual-kept, virtual-none}
use Rattle.rule_formulas.proofs.named_rows.NamedRows.asking.Goals as goal

pub returns-then-is_virtual : goal.returns-then-is_virtual
returns-then-is_virtual c =
    let problem = c.self.inside.problem.now in
    let text = c.args.virtual_name.now in
    let rows = depends_at problem c.self.inside.name.now in
    let known = ap (λ (w : World). is_virtual w.recipes text) (sym c.world-world.ensures) ∙ sym c.is_virtual.ensures ∙ c.if-is_virtual.true in
    rw (← c.self.view_is)
    (IfOk-weaker c.rows_in.result _ _ (λ found are. are ∙ ap (map (λ (e : Text × DependRow). e.1)) c.of.ensures
    ∙ c.self.invariant text ∙ virtual-kept problem text rows known)
    c.rows_in.ensures)

pub returns-else-is_virtual : goal.returns-else-is_virtual
returns-else-is_virtual c =
    let problem = c.self.inside.problem.now in
    let text = c.args.virtual_name.now in
    let rows = depends_at problem c.self.inside.name.now in
    let known = ap (λ (w : World). is_virtual w.recipes text) (sym c.world-world.ensures) ∙ sym c.is_virtual.ensures ∙ c.if-is_virtual.false in
    rw (← c.self.view_is) (ap (map (λ (row : Bor DependRow). row.now)) c.new.ensures.items ∙ virtual-none problem text rows known)
