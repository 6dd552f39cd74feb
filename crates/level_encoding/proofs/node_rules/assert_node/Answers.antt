use Rattle.std.proofs.Common.{ap, subst, ◌∙◌, arith}
use Rattle.level_encoding.specs.Asserted.{assert_all}
use Rattle.clause_formulas.specs.Allowed.{Allows}
use Rattle.clause_formulas.proofs.AllowLaws.{Allows-refl}
use Rattle.level_encoding.specs.Composed.{Meets}
use Rattle.level_encoding.proofs.AssertedLaws.{made-is, made-below}
use Rattle.level_encoding.specs.Encoding.{end}
use Rattle.level_encoding.proofs.Range.{node_rules-below}
use Rattle.level_encoding.proofs.node_rules.assert_node.Goals as goal

pub assert_each-requires : goal.assert_each-requires
assert_each-requires c =
    made-below (end c.args.input.now) c.args.clauses.now.vars _ _ (omega arith)
    (node_rules-below c.args.input.now c.requires.right c.args.i)
    (made-is _ _ _ _ c.as_slice.ensures.value c.in_ok-add_rules.ensures c.new-rules.ensures.items)

pub returns-clause-built : goal.returns-clause-built
returns-clause-built c = c.in_ok-assert_each.ensures.built
    ∙ ap (assert_all c.args.clauses.now) (made-is _ _ _ _ c.as_slice.ensures.value c.in_ok-add_rules.ensures c.new-rules.ensures.items)

pub returns-in_err-add_rules-clause-allows : goal.returns-in_err-add_rules-clause-allows
returns-in_err-add_rules-clause-allows c = Allows-refl c.args.clauses.now _

pub returns-in_err-assert_each-clause-allows : goal.returns-in_err-assert_each-clause-allows
returns-in_err-assert_each-clause-allows c =
    subst (λ fs. Allows c.args.clauses.now c.assert_each.new.clauses (λ asked v. Meets v fs))
    (made-is _ _ _ _ c.as_slice.ensures.value c.in_ok-add_rules.ensures c.new-rules.ensures.items) c.assert_each.ensures.allows

pub returns-clause-allows : goal.returns-clause-allows
returns-clause-allows c =
    subst (λ fs. Allows c.args.clauses.now c.assert_each.new.clauses (λ asked v. Meets v fs))
    (made-is _ _ _ _ c.as_slice.ensures.value c.in_ok-add_rules.ensures c.new-rules.ensures.items) c.assert_each.ensures.allows
