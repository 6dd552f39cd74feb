use Rattle.std.proofs.Common.{◌≡◌, refl, ap, ◌∙◌, ◌&&◌, Bool, false}
use Rattle.std.specs.List.{list_any, list_all}
use Rattle.std.specs.Option.{option_copied}
use Rattle.std.specs.Str.{bytes_eq}
use Rattle.virtuals.specs.OfGraphCore.Graphs.{Text}
use Rattle.virtuals.specs.OfConditions.ProvideRow.{ProvideRow}
use Rattle.condition_rules.specs.Meets.{provides, row_provides, meets, lists_overlap}
use Rattle.condition_rules.specs.Worlds.{recipe_of, rows}
use Rattle.condition_rules.proofs.ProvidedLaws.{any_kept, of_found}
use Rattle.condition_rules.proofs.at_node.provides.Goals as goal

fails : (a b d : Bool) → a ≡ false → (a && b && d) ≡ false
fails a b d e = rw e refl

pub returns : goal.returns
unfolding provides
returns c =
    let world = c.args.world.now in
    let node = c.args.node.now in
    let name = c.args.name.now in
    let wanted = option_copied c.args.wanted in
    let test = row_provides world node name wanted in
    c.some_provides.ensures
    ∙ ap (list_any test) (c.provided-rows.ensures ∙ ap (λ (n : Text). of_found name (recipe_of world n)) c.as_str.ensures)
    ∙ any_kept (λ (row : ProvideRow). bytes_eq row.name name) test
    (λ row. fails (bytes_eq row.name name) (list_all (λ spec. meets world spec.top node) row.when.specs) (lists_overlap row.versions wanted))
    (rows (λ recipe. recipe.provides) (recipe_of world node.name))
