use Rattle.std.proofs.Common.{◌≡◌, ℕ, Bool, true, false, cond, List, [], ◌++◌, ap, sym, subst, ◌∙◌, arith}
use Rattle.clause_store.specs.Clauses.{Clauses}
use Rattle.clause_formulas.specs.Statements.{Statement}
use Rattle.level_encoding.specs.declared.input.Arc.{Arc}
use Rattle.level_encoding.specs.Asserted.{assert_all}
use Rattle.level_encoding.specs.Encoding.{end, way_rules}
use Rattle.level_encoding.specs.Input.{LevelData}
use Rattle.level_encoding.specs.Towards.{arcs_towards, way_rules_over}
use Rattle.clause_formulas.specs.Allowed.{Allows}
use Rattle.clause_formulas.proofs.AllowLaws.{Allows-refl}
use Rattle.level_encoding.specs.Composed.{Meets}
use Rattle.level_encoding.proofs.AssertedLaws.{made-is, made-below, assert_all-none}
use Rattle.level_encoding.proofs.Range.{towards-below}
use Rattle.level_encoding.proofs.Towards.{way-few, meets-few}
use Rattle.level_encoding.proofs.path_rules.assert_way.Goals as goal

chosen-if : (s t : Clauses) (b : Bool) (rules : List Statement) → b ≡ true → t ≡ assert_all s rules → t ≡ assert_all s (cond b rules [])
chosen-if s t b rules e h = h ∙ ap (λ x. assert_all s (cond x rules [])) (sym e)

none-if : (s : Clauses) (b : Bool) (rules : List Statement) → b ≡ false → s ≡ assert_all s (cond b rules [])
none-if s b rules e = sym (assert_all-none s) ∙ ap (λ x. assert_all s (cond x rules [])) (sym e)

-- the rules that were made
made-few : (d : LevelData) (q p : ℕ) (was now all : List Statement) (slice arcs : List Arc) → all ≡ now
    → now ≡ was ++ way_rules_over d q p slice → was ≡ [] → slice ≡ arcs → arcs ≡ arcs_towards d q p
    → all ≡ way_rules_over d q p (arcs_towards d q p)
made-few d q p was now all slice arcs e f g h k =
    made-is was now all (way_rules_over d q p slice) e f g ∙ ap (way_rules_over d q p) (h ∙ k)

pub returns-then-not-has_way-clause-built : goal.returns-then-not-has_way-clause-built
returns-then-not-has_way-clause-built c = none-if c.args.clauses.now _ _ (sym c.has_way.ensures ∙ c.if-not-has_way.true)

pub assert_each-requires : goal.assert_each-requires
assert_each-requires c =
    made-below (end c.args.input.now) c.args.clauses.now.vars _ _ (omega arith)
    (towards-below c.args.input.now c.requires.right c.args.q c.args.p)
    (made-few c.args.input.now c.args.q c.args.p _ _ _ _ _ c.as_slice-2.ensures.value c.in_ok-add_way_rules.ensures
    c.new-rules.ensures.items c.as_slice.ensures.value c.in_ok-arcs.ensures.arcs)

pub returns-clause-built : goal.returns-clause-built
returns-clause-built c =
    chosen-if c.args.clauses.now _ _ _ (sym c.has_way.ensures ∙ c.if-not-has_way.false) (c.in_ok-assert_each.ensures.built
    ∙ ap (assert_all c.args.clauses.now)
    (made-few c.args.input.now c.args.q c.args.p _ _ _ _ _ c.as_slice-2.ensures.value c.in_ok-add_way_rules.ensures
    c.new-rules.ensures.items c.as_slice.ensures.value c.in_ok-arcs.ensures.arcs)
    ∙ way-few c.args.input.now c.args.q c.args.p c.args.clauses.now)

allowed-if : (d : LevelData) (q p : ℕ) (s t : Clauses) (b : Bool) (all : List Statement) → b ≡ true
    → all ≡ way_rules_over d q p (arcs_towards d q p) → Allows s t (λ asked v. Meets v all)
    → Allows s t (λ asked v. Meets v (cond b (way_rules d q p) []))
allowed-if d q p s t b all e f a =
    subst (λ x. Allows s t (λ asked v. Meets v (cond x (way_rules d q p) []))) (sym e)
    (subst (λ (met : (ℕ → Bool) → Bool). Allows s t (λ asked v. met v ≡ true)) (λ i v. meets-few d q p v i)
    (subst (λ fs. Allows s t (λ asked v. Meets v fs)) f a))

pub returns-then-not-has_way-clause-allows : goal.returns-then-not-has_way-clause-allows
returns-then-not-has_way-clause-allows c = Allows-refl c.args.clauses.now _

pub returns-in_err-arcs-clause-allows : goal.returns-in_err-arcs-clause-allows
returns-in_err-arcs-clause-allows c = Allows-refl c.args.clauses.now _

pub returns-in_err-add_way_rules-clause-allows : goal.returns-in_err-add_way_rules-clause-allows
returns-in_err-add_way_rules-clause-allows c = Allows-refl c.args.clauses.now _

pub returns-in_err-assert_each-clause-allows : goal.returns-in_err-assert_each-clause-allows
returns-in_err-assert_each-clause-allows c =
    allowed-if c.args.input.now c.args.q c.args.p c.args.clauses.now c.assert_each.new.clauses _ _
    (sym c.has_way.ensures ∙ c.if-not-has_way.false)
    (made-few c.args.input.now c.args.q c.args.p _ _ _ _ _ c.as_slice-2.ensures.value c.in_ok-add_way_rules.ensures
    c.new-rules.ensures.items c.as_slice.ensures.value c.in_ok-arcs.ensures.arcs) c.assert_each.ensures.allows

pub returns-clause-allows : goal.returns-clause-allows
returns-clause-allows c =
    allowed-if c.args.input.now c.args.q c.args.p c.args.clauses.now c.assert_each.new.clauses _ _
    (sym c.has_way.ensures ∙ c.if-not-has_way.false)
    (made-few c.args.input.now c.args.q c.args.p _ _ _ _ _ c.as_slice-2.ensures.value c.in_ok-add_way_rules.ensures
    c.new-rules.ensures.items c.as_slice.ensures.value c.in_ok-arcs.ensures.arcs) c.assert_each.ensures.allows
