use Rattle.std.proofs.Common.{◌≡◌, ℕ, ◌≤◌, ◌+◌, ◌-◌, ◌++◌, sym, ap, ◌∙◌, arith}
use Rattle.std.specs.List.{flat_map}
use Rattle.clause_store.specs.Clauses.{Clauses}
use Rattle.level_encoding.specs.Asserted.{assert_all, with_vars, levels_on}
use Rattle.level_encoding.specs.Input.{LevelData, IsRight, numbers}
use Rattle.level_encoding.specs.Encoding.{numbers_below, turn_start, arcs_rules, node_rules, path_rules, constraints, end}
use Rattle.clause_formulas.specs.Allowed.{Allows}
use Rattle.clause_formulas.proofs.AllowLaws.{Allows-then}
use Rattle.level_encoding.proofs.AssertedLaws.{assert_all-append}
use Rattle.level_encoding.proofs.OpenLaws.{keeping, same-kept, more-open, input-open}
use Rattle.level_encoding.proofs.Range.{first-le}
use Rattle.level_encoding.proofs.encoded.assert_input.Goals as goal

-- the three parts are all rules
all-parts : (s : LevelData) (old a b c : Clauses) → a ≡ assert_all old (arcs_rules s (turn_start s) s.arcs)
    → b ≡ assert_all a (flat_map (node_rules s) (numbers_below (numbers s)))
    → c ≡ assert_all b (flat_map (path_rules s) (numbers_below (numbers s)))
    → c ≡ assert_all old (constraints s)
unfolding constraints
all-parts s old a b c e f g =
    let xs = arcs_rules s (turn_start s) s.arcs in
    let ys = flat_map (node_rules s) (numbers_below (numbers s)) in
    let zs = flat_map (path_rules s) (numbers_below (numbers s)) in
    g ∙ ap (λ t. assert_all t zs) (f ∙ ap (λ t. assert_all t ys) e)
    ∙ ap (λ t. assert_all t zs) (sym (assert_all-append old xs ys))
    ∙ sym (assert_all-append old (xs ++ ys) zs)

pub overflow_sub-end_of : goal.overflow_sub-end_of
overflow_sub-end_of c = rw (c.vars.ensures.value, c.end_of.ensures, ← c.requires.first) (first-le c.args.input.now c.requires.right)

-- so many more variables make as many as the input needs
made : (old new : Clauses) (end vars upto first : ℕ) → vars ≡ old.vars → upto ≡ end → first ≡ old.vars → first ≤ end
    → new ≡ with_vars old (old.vars + (upto - vars)) → new ≡ with_vars old end
made old new end vars upto first e f g h q = let k : old.vars + (upto - vars) ≡ end = omega arith in q ∙ ap (with_vars old) k

pub returns-clause-built : goal.returns-clause-built
unfolding levels_on
returns-clause-built c =
    all-parts c.args.input.now (with_vars c.args.clauses.now (end c.args.input.now)) c.assert_arcs.new.clauses c.assert_nodes.new.clauses
    c.assert_paths.new.clauses
    (c.in_ok-assert_arcs.ensures.built
    ∙ ap (λ t. assert_all t (arcs_rules c.args.input.now (turn_start c.args.input.now) c.args.input.now.arcs))
    (made c.args.clauses.now c.add_vars.new.clauses (end c.args.input.now) c.vars.result c.end_of.result c.args.input.now.first
    c.vars.ensures.value c.end_of.ensures c.requires.first (first-le c.args.input.now c.requires.right) c.in_ok-add_vars.ensures.made))
    c.in_ok-assert_nodes.ensures.built c.in_ok-assert_paths.ensures.built

-- one part more
further : (s : LevelData) (old m a b : Clauses) → IsRight s → m ≡ with_vars old (end s) → Allows m a (keeping s) → Allows a b (keeping s)
    → Allows m b (keeping s)
further s old m a b right e x y =
    let h : end s ≤ m.vars = omega (arith, ap (λ l. l.vars) e) in Allows-then m a b (keeping s) (keeping s) x y (same-kept s m.vars right h)

pub returns-in_err-add_vars-clause-allows : goal.returns-in_err-add_vars-clause-allows
returns-in_err-add_vars-clause-allows c = more-open c.args.clauses.now _ _ c.add_vars.ensures.kept c.add_vars.ensures.more

pub returns-in_err-assert_arcs-clause-allows : goal.returns-in_err-assert_arcs-clause-allows
returns-in_err-assert_arcs-clause-allows c =
    let s = c.args.input.now in
    let m =
    made c.args.clauses.now c.add_vars.new.clauses (end s) c.vars.result c.end_of.result s.first c.vars.ensures.value c.end_of.ensures
    c.requires.first (first-le s c.requires.right) c.in_ok-add_vars.ensures.made in
    input-open s c.args.clauses.now c.add_vars.new.clauses _ c.requires.right c.requires.first m c.assert_arcs.ensures.allows

pub returns-in_err-assert_nodes-clause-allows : goal.returns-in_err-assert_nodes-clause-allows
returns-in_err-assert_nodes-clause-allows c =
    let s = c.args.input.now in
    let m =
    made c.args.clauses.now c.add_vars.new.clauses (end s) c.vars.result c.end_of.result s.first c.vars.ensures.value c.end_of.ensures
    c.requires.first (first-le s c.requires.right) c.in_ok-add_vars.ensures.made in
    input-open s c.args.clauses.now c.add_vars.new.clauses _ c.requires.right c.requires.first m
    (further s c.args.clauses.now _ _ _ c.requires.right m c.assert_arcs.ensures.allows c.assert_nodes.ensures.allows)

pub returns-in_err-assert_paths-clause-allows : goal.returns-in_err-assert_paths-clause-allows
returns-in_err-assert_paths-clause-allows c =
    let s = c.args.input.now in
    let m =
    made c.args.clauses.now c.add_vars.new.clauses (end s) c.vars.result c.end_of.result s.first c.vars.ensures.value c.end_of.ensures
    c.requires.first (first-le s c.requires.right) c.in_ok-add_vars.ensures.made in
    input-open s c.args.clauses.now c.add_vars.new.clauses _ c.requires.right c.requires.first m
    (further s c.args.clauses.now _ _ _ c.requires.right m
    (further s c.args.clauses.now _ _ _ c.requires.right m c.assert_arcs.ensures.allows c.assert_nodes.ensures.allows)
    c.assert_paths.ensures.allows)

pub returns-clause-allows : goal.returns-clause-allows
returns-clause-allows c =
    let s = c.args.input.now in
    let m =
    made c.args.clauses.now c.add_vars.new.clauses (end s) c.vars.result c.end_of.result s.first c.vars.ensures.value c.end_of.ensures
    c.requires.first (first-le s c.requires.right) c.in_ok-add_vars.ensures.made in
    input-open s c.args.clauses.now c.add_vars.new.clauses _ c.requires.right c.requires.first m
    (further s c.args.clauses.now _ _ _ c.requires.right m
    (further s c.args.clauses.now _ _ _ c.requires.right m c.assert_arcs.ensures.allows c.assert_nodes.ensures.allows)
    c.assert_paths.ensures.allows)
