-- Rules so far, one number further.
use Rattle.std.proofs.Common.{◌≡◌, ℕ, zero, suc, ◌+◌, ◌<◌, ◌≤◌, Bool, true, false, cond, eqb, List, [], ◌∷◌, ◌++◌, length, get_or, drop, drop-cons, refl, sym, ap, ◌∙◌, subst, arith, add-one, zero-add, Some, None}
use Rattle.std.specs.Prelude.{is_some}
use Rattle.std.specs.List.{All, filter, flat_map, range_with_len, sum_by}
use Rattle.std.proofs.lemmas.List.{append-nil, drop_all}
use Rattle.std.proofs.lemmas.List.Sums.{sum_by-drop_more}
use Rattle.std.proofs.lemmas.List.Concat.{flat_map-append}
use Rattle.std.proofs.lemmas.List.Elements.{All-filter, All-weaker, filter-append}
use Rattle.clause_store.specs.declared.Lit.{Lit}
use Rattle.clause_formulas.specs.Statements.{Statement}
use Rattle.clause_store.specs.Clauses.{Clauses}
use Rattle.level_encoding.specs.Asserted.{assert_all}
use Rattle.level_encoding.specs.Laws.{AllSaidBelow}
use Rattle.level_encoding.proofs.AssertedLaws.{assert_all-none, assert_all-append, AllSaidBelow-le}
use Rattle.level_encoding.proofs.Lists.{In, In-at}
use Rattle.level_encoding.proofs.Range.{arc_rules-below}
use Rattle.level_encoding.specs.declared.input.Arc.{Arc}
use Rattle.level_encoding.specs.Input.{LevelData, IsRight, numbers}
use Rattle.level_encoding.specs.Encoding.{numbers_below, leads, arcs_leaving, way, turns, turn_start, arc_rules, arcs_rules, node_rules, way_rules, path_rules, end}

-- arcs that leave lead to numbers
pub leaving-child : (s : LevelData) (p : ℕ) → IsRight s → All (λ a. a.child < numbers s) (arcs_leaving s p)
leaving-child s p right = All-weaker (λ a. (a.parent < numbers s) × (a.child < numbers s)) (λ a. a.child < numbers s) (λ a h. h.1)
    (arcs_leaving s p) (All-filter (λ a. eqb a.parent p) (λ a. (a.parent < numbers s) × (a.child < numbers s)) s.arcs right.ends)

-- a path has a literal where arcs could lead
pub way-is_some : (s : LevelData) (q p : ℕ) → is_some (way s q p) ≡ leads s q p
unfolding way
way-is_some s q p = by-bool (leads s q p) _
  where
    by-bool : (b : Bool) (l : Lit) → is_some (cond b (Some l) None) ≡ b
    by-bool true l = refl
    by-bool false l = refl

range-more : (a n : ℕ) → range_with_len a (suc n) ≡ range_with_len a n ++ (a + n) ∷ []
range-more a zero = let e : a + 0 ≡ a = omega arith in rw e refl
range-more a (suc n) = let e : a + suc n ≡ a + 1 + n = omega arith in rw e (ap (λ xs. a ∷ xs) (range-more (a + 1) n))

-- the rules of the ways to q from the numbers below n
unfoldable pub path_rules_to : LevelData → ℕ → ℕ → List Statement
path_rules_to s q n = flat_map (way_rules s q) (filter (leads s q) (numbers_below n))

pub path_rules-none : (s : LevelData) (q : ℕ) → path_rules_to s q 0 ≡ []
unfolding path_rules_to
path_rules-none s q = refl

pub path_rules-more : (s : LevelData) (q n : ℕ) → path_rules_to s q (n + 1) ≡ path_rules_to s q n ++ cond (leads s q n) (way_rules s q n) []
unfolding path_rules_to
path_rules-more s q n =
    rw add-one (ap (λ xs. flat_map (way_rules s q) (filter (leads s q) xs)) (range-more 0 n
    ∙ ap (λ k. numbers_below n ++ k ∷ []) (zero-add n))
    ∙ ap (flat_map (way_rules s q)) (filter-append (leads s q) (numbers_below n) (n ∷ []))
    ∙ flat_map-append (way_rules s q) (filter (leads s q) (numbers_below n)) (filter (leads s q) (n ∷ []))
    ∙ ap (λ xs. path_rules_to s q n ++ xs) (last (leads s q n)))
  where
    last : (b : Bool) → flat_map (way_rules s q) (cond b (n ∷ []) []) ≡ cond b (way_rules s q n) []
    last true = append-nil (way_rules s q n)
    last false = refl

pub path_rules-all : (s : LevelData) (q n : ℕ) → n ≡ numbers s → path_rules_to s q n ≡ path_rules s q
unfolding path_rules path_rules_to
path_rules-all s q n e = rw e refl

pub ruleset way_or_none = (way-is_some, append-nil)

pub ruleset path_rules_so_far = (path_rules-none, path_rules-more, path_rules-all, assert_all-none, assert_all-append)

pub ruleset arcs_from_one = (leaving-child)

-- the rules of the numbers below n
below-more : (g : ℕ → List Statement) (n : ℕ) → flat_map g (numbers_below (n + 1)) ≡ flat_map g (numbers_below n) ++ g n
below-more g n =
    rw add-one (ap (flat_map g) (range-more 0 n ∙ ap (λ k. numbers_below n ++ k ∷ []) (zero-add n))
    ∙ flat_map-append g (numbers_below n) (n ∷ [])
    ∙ ap (λ xs. flat_map g (numbers_below n) ++ xs) (append-nil (g n)))

unfoldable pub node_rules_to : LevelData → ℕ → List Statement
node_rules_to s n = flat_map (node_rules s) (numbers_below n)

pub node_rules-none : (s : LevelData) → node_rules_to s 0 ≡ []
unfolding node_rules_to
node_rules-none s = refl

pub node_rules-more : (s : LevelData) (n : ℕ) → node_rules_to s (n + 1) ≡ node_rules_to s n ++ node_rules s n
unfolding node_rules_to
node_rules-more s n = below-more (node_rules s) n

pub node_rules-all : (s : LevelData) (n : ℕ) → n ≡ numbers s → node_rules_to s n ≡ flat_map (node_rules s) (numbers_below (numbers s))
unfolding node_rules_to
node_rules-all s n e = rw e refl

pub ruleset node_rules_so_far = (node_rules-none, node_rules-more, node_rules-all, assert_all-none, assert_all-append)

unfoldable pub target_rules_to : LevelData → ℕ → List Statement
target_rules_to s n = flat_map (path_rules s) (numbers_below n)

pub target_rules-none : (s : LevelData) → target_rules_to s 0 ≡ []
unfolding target_rules_to
target_rules-none s = refl

pub target_rules-more : (s : LevelData) (n : ℕ) → target_rules_to s (n + 1) ≡ target_rules_to s n ++ path_rules s n
unfolding target_rules_to
target_rules-more s n = below-more (path_rules s) n

pub target_rules-all : (s : LevelData) (n : ℕ) → n ≡ numbers s → target_rules_to s n ≡ flat_map (path_rules s) (numbers_below (numbers s))
unfolding target_rules_to
target_rules-all s n e = rw e refl

pub ruleset target_rules_so_far = (target_rules-none, target_rules-more, target_rules-all, assert_all-none, assert_all-append)

-- the rules so far with those of the arcs that are left are all of them
pub arcs_rules-all : (s : LevelData) (x n : ℕ) (arcs : List Arc) (now all : Clauses) → length arcs ≤ n
    → assert_all now (arcs_rules s x (drop n arcs)) ≡ all → now ≡ all
unfolding arcs_rules assert_all
arcs_rules-all s x n arcs now all h e = sym (ap (λ xs. assert_all now (arcs_rules s x xs)) (drop_all n arcs h)) ∙ e

-- the rules of one more arc
pub arcs_rules-step : (s : LevelData) (x t n : ℕ) (arcs : List Arc) (d : Arc) (old new all : Clauses) → n < length arcs
    → new ≡ assert_all old (arc_rules s x (get_or arcs n d)) → t ≡ turns s (get_or arcs n d)
    → assert_all old (arcs_rules s x (drop n arcs)) ≡ all → assert_all new (arcs_rules s (x + t) (drop (n + 1) arcs)) ≡ all
unfolding arcs_rules
arcs_rules-step s x t n arcs d old new all h e f g =
    ap (λ y. assert_all y (arcs_rules s (x + t) (drop (n + 1) arcs))) e
    ∙ sym (assert_all-append old (arc_rules s x (get_or arcs n d)) (arcs_rules s (x + t) (drop (n + 1) arcs)))
    ∙ ap (λ y. assert_all old (arc_rules s x (get_or arcs n d) ++ arcs_rules s (x + y) (drop (n + 1) arcs))) f
    ∙ sym (ap (λ xs. assert_all old (arcs_rules s x xs)) (drop-cons arcs n d h ∙ ap (λ k. get_or arcs n d ∷ drop k arcs) (sym (add-one n))))
    ∙ g

-- the turns of an arc lie below the end
pub turns-fit : (s : LevelData) (x n : ℕ) (arcs : List Arc) (d : Arc) → n < length arcs → x + sum_by (turns s) (drop n arcs) ≡ end s
    → x + turns s (get_or arcs n d) ≤ end s
turns-fit s x n arcs d h g = omega (arith, g, sum_by-drop_more (turns s) arcs n d h)

-- an arc's rules are over variables that are there
pub arc-below-at : (s : LevelData) → IsRight s → (x n : ℕ) (arcs : List Arc) (d : Arc) (vars : ℕ) → arcs ≡ s.arcs → n < length arcs
    → x + sum_by (turns s) (drop n arcs) ≡ end s → end s ≤ vars → AllSaidBelow vars (arc_rules s x (get_or arcs n d))
arc-below-at s right x n arcs d vars e h t m =
    AllSaidBelow-le (end s) vars (arc_rules s x (get_or arcs n d)) m
    (arc_rules-below s right x (get_or arcs n d) (subst (In (get_or arcs n d)) e (In-at arcs n d h)) (turns-fit s x n arcs d h t))

-- the turns of one more arc
pub turns-step : (s : LevelData) (x t n : ℕ) (arcs : List Arc) (d : Arc) → n < length arcs → t ≡ turns s (get_or arcs n d)
    → x + sum_by (turns s) (drop n arcs) ≡ end s → x + t + sum_by (turns s) (drop (n + 1) arcs) ≡ end s
turns-step s x t n arcs d h f g = omega (arith, f, g, sum_by-drop_more (turns s) arcs n d h)

-- the turns are the last variables
pub end-is : (s : LevelData) → turn_start s + sum_by (turns s) s.arcs ≡ end s
unfolding end
end-is s = refl

pub ruleset arc_rules_so_far = (end-is, turns-fit)
