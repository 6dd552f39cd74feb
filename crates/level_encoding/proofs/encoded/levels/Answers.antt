use Rattle.std.proofs.Common.{ap, subst, refl, ◌∙◌}
use Rattle.clause_formulas.specs.Allowed.{Allows}
use Rattle.clause_formulas.proofs.AllowLaws.{Allows-refl}
use Rattle.level_encoding.specs.Input.{input_of}
use Rattle.level_encoding.specs.Laws.{IsSound}
use Rattle.level_encoding.proofs.Told.{levels-kept}
use Rattle.level_encoding.proofs.encoded.levels.Goals as goal

pub returns-clause-levels : goal.returns-clause-levels
returns-clause-levels c =
    let s = input_of c.args.nodes.now c.args.roots.now c.args.arcs.now c.args.asked.now c.args.clauses.now.vars in
    levels-kept s c.new-input.result c.args.clauses.now c.assert_input.new.clauses c.in_ok-paths.paths.items c.requires.right refl
    (c.new-input.ensures ∙ ap (input_of c.args.nodes.now c.args.roots.now c.args.arcs.now c.args.asked.now) c.vars.ensures.value)
    c.in_ok-assert_input.ensures.built c.in_ok-paths.ensures

pub returns-then-not-has_room-clause-allows : goal.returns-then-not-has_room-clause-allows
returns-then-not-has_room-clause-allows c = Allows-refl c.args.clauses.now _

pub returns-in_err-plan-clause-allows : goal.returns-in_err-plan-clause-allows
returns-in_err-plan-clause-allows c = Allows-refl c.args.clauses.now _

pub returns-in_err-paths-clause-allows : goal.returns-in_err-paths-clause-allows
returns-in_err-paths-clause-allows c = Allows-refl c.args.clauses.now _

pub returns-in_err-assert_input-clause-allows : goal.returns-in_err-assert_input-clause-allows
returns-in_err-assert_input-clause-allows c =
    subst (λ s. Allows c.args.clauses.now c.assert_input.new.clauses (λ asked v. IsSound s v))
    (c.new-input.ensures ∙ ap (input_of c.args.nodes.now c.args.roots.now c.args.arcs.now c.args.asked.now) c.vars.ensures.value)
    c.assert_input.ensures.allows

pub returns-clause-allows : goal.returns-clause-allows
returns-clause-allows c =
    subst (λ s. Allows c.args.clauses.now c.assert_input.new.clauses (λ asked v. IsSound s v))
    (c.new-input.ensures ∙ ap (input_of c.args.nodes.now c.args.roots.now c.args.arcs.now c.args.asked.now) c.vars.ensures.value)
    c.assert_input.ensures.allows
