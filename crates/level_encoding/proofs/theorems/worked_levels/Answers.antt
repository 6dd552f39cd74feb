use Rattle.std.proofs.Common.{◌≡◌, Bool, true, false, not, ◌||◌, [], ◌∷◌, inl, inr, refl}
use Rattle.std.proofs.lemmas.Bool.{false≢true}
use Rattle.level_encoding.proofs.Lists.{all-at}
use Rattle.reachability.specs.Paths.{spread, reached, reaches, joined}
use Rattle.level_encoding.specs.Counts.{total_below, count_below}
use Rattle.clause_formulas.specs.Statements.{eval, any_statement, opposite}
use Rattle.level_encoding.specs.Composed.{rising}
use Rattle.level_encoding.specs.Input.{possible, node, is_root_number, is_asked_target}
use Rattle.level_encoding.specs.Encoding.{width, level_width, level_start, level, leads, ways, path_start, way, turn_start, is_inside, turns, arcs_rules, arc_rules, node_rules, begins_path, way_rules, path_rules, constraints, end}
use Rattle.level_encoding.specs.Rows.{holds, loop_and_tail}
use Rattle.level_encoding.proofs.theorems.worked_levels.Goals as goal

pub returns-clause-loop_and_tail : goal.returns-clause-loop_and_tail
unfolding spread reached reaches joined total_below count_below possible node is_root_number is_asked_target width level_width level_start
    level leads ways
    path_start way turn_start is_inside turns arc_rules arcs_rules node_rules begins_path way_rules path_rules constraints rising
returns-clause-loop_and_tail c = refl

pub returns-clause-last : goal.returns-clause-last
unfolding spread reached reaches joined total_below count_below possible node is_root_number is_asked_target width level_width level_start
    level leads ways
    path_start way turn_start is_inside turns end
returns-clause-last c = refl

pub returns-clause-own : goal.returns-clause-own
unfolding spread reached reaches joined total_below count_below possible node is_root_number is_asked_target width level_width level_start
    level leads ways
    path_start way turn_start is_inside turns arc_rules arcs_rules node_rules begins_path way_rules path_rules constraints rising
returns-clause-own c = refl

pub returns-clause-taken : goal.returns-clause-taken
unfolding spread reached reaches joined total_below count_below possible node is_root_number is_asked_target width level_width level_start
    level leads ways
    path_start way turn_start is_inside turns arc_rules arcs_rules node_rules begins_path way_rules path_rules constraints rising
returns-clause-taken c = refl

-- the first clause of one arc and the second of the other
one_way : (a b x : Bool) → (not a || (not x || false)) ≡ true → (not b || (x || false)) ≡ true → a ≡ true → b ≡ false
one_way false b x h k t = absurd (false≢true t)
one_way true false x h k t = refl
one_way true true true h k t = absurd (false≢true h)
one_way true true false h k t = absurd (false≢true k)

pub returns-clause-broken : goal.returns-clause-broken
unfolding spread reached reaches joined total_below count_below possible node is_root_number is_asked_target width level_width level_start
    level leads ways
    path_start way turn_start is_inside turns arc_rules arcs_rules node_rules begins_path way_rules path_rules constraints rising
returns-clause-broken c = λ v m. one_way (v 3) (v 4) (v 6)
    (all-at (eval v) (any_statement (opposite (holds 3) ∷ opposite (holds 6) ∷ [])) (constraints loop_and_tail) m (inl refl))
    (all-at (eval v) (any_statement (opposite (holds 4) ∷ holds 6 ∷ [])) (constraints loop_and_tail) m (inr (inr (inr (inl refl)))))
