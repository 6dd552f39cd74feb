use Rattle.std.proofs.Common.{◌≡◌, ap, sym, ◌∙◌, map}
use Rattle.clause_formulas.specs.Statements.{any_statement}
use Rattle.literal_table.specs.Tables.{packages_of}
use Rattle.virtuals.specs.Virtuals.{is_virtual}
use Rattle.word_formulas.specs.Asked.{keeping_said}
use Rattle.word_formulas.proofs.AskedSteps.{ok-at, asked-virtual}
use Rattle.word_formulas.proofs.scribe.Scribe.asked_formula.Goals as goal

pub returns-in_ok-parts : goal.returns-in_ok-parts
returns-in_ok-parts g c = λ keeps builds.
    let table = c.args.self.now.table.now in
    let asked = c.args.asked.now in
    let made = ok-at c.keeping_providers.result c.in_ok-parts.parts
    (λ parts. parts.items ≡ map (keeping_said table asked keeps) c.packages-packages.result.now) c.in_ok-parts.was
    (c.keeping_providers.ensures keeps builds) in
    c.any.ensures
    ∙ ap any_statement (made ∙ ap (map (keeping_said table asked keeps)) (c.packages-packages.ensures
    ∙ ap (packages_of table) c.as_str-then-is_virtual.ensures))
    ∙ asked-virtual table c.args.world.now asked keeps (sym (ap (is_virtual c.args.world.now.recipes) c.as_str.ensures)
    ∙ sym c.is_virtual.ensures ∙ c.if-is_virtual.true)
