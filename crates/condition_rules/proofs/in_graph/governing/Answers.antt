use Rattle.std.proofs.Common.{◌≡◌, ap, sym, ◌∙◌, map, filter}
use Rattle.std.proofs.lemmas.Result.{IfOk-weaker}
use Rattle.std.specs.Borrow.{Bor}
use Rattle.std.specs.Str.{bytes_eq}
use Rattle.virtuals.specs.OfGraphCore.Graphs.{Text}
use Rattle.virtuals.specs.OfConditions.VariantRow.{VariantRow}
use Rattle.condition_rules.specs.Worlds.{World, recipe_of, rows}
use Rattle.condition_rules.specs.Words.{find_last}
use Rattle.condition_rules.specs.Holds.{all_hold, governing}
use Rattle.condition_rules.proofs.Last.{find_last-filtered}
use Rattle.condition_rules.proofs.in_graph.governing.Goals as goal

pub returns : goal.returns
unfolding governing
returns g c =
    let at : World × Text = c.args.definitions.now in
    let graph = g.P.Paths.graph_of c.args.graph.now in
    let own = λ (row : Bor VariantRow). row.now in
    let is_defined = λ (row : VariantRow). bytes_eq row.name c.args.variant.now in
    let holds = λ (row : VariantRow). all_hold at.0 row.when graph at.1 in
    let found = c.as_slice.result.now in
    let same : map own found ≡ filter is_defined (rows (λ recipe. recipe.variants) (recipe_of at.0 at.1)) =
    ap (map own) c.as_slice.ensures.value ∙ c.in_ok-rows.ensures in
    IfOk-weaker c.last_holding.result _ _ (λ last is. is
    ∙ ap (λ (w : World). find_last (λ row. all_hold w row.when graph c.name.result.now) (map own found)) c.world.ensures
    ∙ ap (λ (n : Text). find_last (λ row. all_hold at.0 row.when graph n) (map own found)) c.name.ensures
    ∙ ap (find_last holds) same
    ∙ sym (find_last-filtered holds is_defined (rows (λ recipe. recipe.variants) (recipe_of at.0 at.1))))
    c.last_holding.ensures
