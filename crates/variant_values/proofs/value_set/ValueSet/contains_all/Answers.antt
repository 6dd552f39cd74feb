use Rattle.std.proofs.Common.{◌≡◌, ◌∙◌, sym, ap, subst, refl, All, Contains, get_or}
use mathlib.Core.Bool.{true≢false}
use Rattle.std.proofs.lemmas.List.{take_all}
use Rattle.std.proofs.lemmas.List.Elements.{All-more}
use Rattle.variant_values.proofs.value_set.ValueSet.contains_all.Goals as goal

-- a text of the other set that this one lacks
pub returns-then-not-contains : goal.returns-then-not-contains
returns-then-not-contains c =
    let is : c.as_str.result.now ≡ get_or c.args.other.now c.loop-value.value-index c.value-item.result = c.as_str.ensures ∙ c.value-item.is
    ∙ ap (λ l. get_or l c.loop-value.value-index c.value-item.result) c.values-value-items.ensures.texts in (
      λ t. absurd (true≢false (sym t)),
      λ all. sym c.if-not-contains.true
          ∙ c.contains.ensures.1 (subst (Contains c.args.self.now) (sym is)
          (all _ _ (rw (← c.values-value-items.ensures.texts) c.loop-value-test.true))),
    )

-- one more text of the other set
pub loop-value-preserved : goal.loop-value-preserved
loop-value-preserved c =
    All-more (Contains c.args.self.now) _ _ c.value-item.result c.loop-value-test.true c.loop-value.invariant
    (subst (Contains c.args.self.now) (c.as_str.ensures ∙ c.value-item.is) (c.contains.ensures.0 c.if-not-contains.false))

pub returns : goal.returns
returns c = (
  λ t. subst (All (Contains c.args.self.now)) (take_all _ _ c.loop-value-test.false ∙ c.values-value-items.ensures.texts)
      c.loop-value.invariant,
  λ all. refl,
)
