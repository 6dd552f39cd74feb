-- The formulas' variables are below the end.
use Rattle.std.proofs.Common.{ℕ, zero, suc, ◌+◌, ◌<◌, ◌≤◌, eqb, List, [], ◌∷◌, ◌++◌, map, inl, inr, refl, arith}
use Rattle.std.specs.List.{All, filter, flat_map, slice_get, range_with_len, sum_by}
use Rattle.std.proofs.lemmas.Bool.{cases_Bool}
use Rattle.std.proofs.lemmas.List.Elements.{All-head, All-tail}
use Rattle.std.proofs.lemmas.List.Sums.{sum_by-cons}
use Rattle.clause_store.specs.declared.Lit.{Lit}
use Rattle.level_encoding.specs.declared.input.Arc.{Arc}
use Rattle.clause_store.specs.Lits.{var_of}
use Rattle.clause_circuits.specs.Gates.{lit_of}
use Rattle.clause_formulas.specs.Statements.{Statement, atom, never, or, no, opposite, any_statement, SaidBelow, both_statements, implication_of}
use Rattle.level_encoding.specs.Composed.{rising, digit_row}
use Rattle.level_encoding.specs.Input.{LevelData, numbers, possible, node, literal_at, is_root_number, IsRight}
use Rattle.level_encoding.specs.Encoding.{numbers_below, level_width, level_start, level, leads, path_start, way, path, turn_start, is_inside, turns, arc_rules, arcs_rules, node_rules, arcs_leaving, begins_path, way_rules, path_rules, constraints, end}
use Rattle.level_encoding.specs.Towards.{may_begin, arcs_towards, way_rules_over}
use Rattle.level_encoding.specs.Laws.{AllSaidBelow}
use Rattle.level_encoding.proofs.Lists.{In, all-in, range-In, filter-In}
use Rattle.level_encoding.proofs.Room.{level-fits, path-fits, turn_start-le}
use Rattle.level_encoding.proofs.Choices.{IsWithin, possible-from, leads-within, within-from}

opposite-below : (n : ℕ) (f : Statement) → SaidBelow n f → SaidBelow n (opposite f)
opposite-below n (atom l) h = h
opposite-below n never h = h
opposite-below n (or f g) h = h
opposite-below n (no f) h = h

both-below : (n : ℕ) (f g : Statement) → SaidBelow n f → SaidBelow n g → SaidBelow n (both_statements f g)
both-below n f g a b = (opposite-below n f a, (opposite-below n g b, tt))

implies-below : (n : ℕ) (f g : Statement) → SaidBelow n f → SaidBelow n g → SaidBelow n (implication_of f g)
implies-below n f g a b = (opposite-below n f a, (b, tt))

rising-below : (n : ℕ) (r : Statement) (fs gs ts : List Statement) → SaidBelow n r → AllSaidBelow n fs → AllSaidBelow n gs
    → AllSaidBelow n ts → AllSaidBelow n (rising r fs gs ts)
unfolding rising
rising-below n r [] gs ts h a b c = (opposite-below n r h, tt)
rising-below n r (f ∷ fs) [] ts h a b c = (opposite-below n r h, tt)
rising-below n r (f ∷ fs) (g ∷ gs) [] h a b c =
    ((opposite-below n r h, (opposite-below n f a.0, tt)), ((opposite-below n r h, (b.0, tt)), tt))
rising-below n r (f ∷ fs) (g ∷ gs) (t ∷ ts) h a b c = (
  (opposite-below n r h, (opposite-below n f a.0, (b.0, tt))),
  (
    (opposite-below n r h, (opposite-below n f a.0, (c.0, tt))),
    ((opposite-below n r h, (b.0, (c.0, tt))), rising-below n t fs gs ts c.0 a.1 b.1 c.1),
  ),
)

all-append : (n : ℕ) (fs gs : List Statement) → AllSaidBelow n fs → AllSaidBelow n gs → AllSaidBelow n (fs ++ gs)
all-append n [] gs a b = b
all-append n (f ∷ fs) gs a b = (a.0, all-append n fs gs a.1 b)

all-flat : {A : Type 0} (n : ℕ) (g : A → List Statement) (xs : List A) → ((x : A) → In x xs → AllSaidBelow n (g x))
    → AllSaidBelow n (flat_map g xs)
all-flat n g [] h = tt
all-flat n g (x ∷ xs) h = all-append n (g x) (flat_map g xs) (h x (inl refl)) (all-flat n g xs (λ y i. h y (inr i)))

all-map : {A : Type 0} (n : ℕ) (h : A → Statement) (xs : List A) → ((x : A) → In x xs → SaidBelow n (h x)) → AllSaidBelow n (map h xs)
all-map n h [] s = tt
all-map n h (x ∷ xs) s = (s x (inl refl), all-map n h xs (λ y i. s y (inr i)))

any-below : (n : ℕ) (fs : List Statement) → AllSaidBelow n fs → SaidBelow n (any_statement fs)
any-below n [] a = tt
any-below n (f ∷ fs) a = (a.0, any-below n fs a.1)

module _ (s : LevelData) (right : IsRight s) where
  within : IsWithin (numbers s) (possible s)
  within = within-from s right

  pub first-le : s.first ≤ end s
  unfolding end turn_start path_start level_start
  first-le = omega arith

  arc-below : (a : Arc) → In a s.arcs → var_of a.lit < end s
  arc-below a i = omega (arith, first-le, all-in (λ (b : Arc). var_of b.lit < s.first) a s.arcs right.arcs_old i)

  node-below : (i : ℕ) → SaidBelow (end s) (node s i)
  unfolding node
  node-below i = along s.nodes i right.nodes_old
    where
      along : (ls : List Lit) (i : ℕ) → All (λ l. var_of l < s.first) ls → SaidBelow (end s) (literal_at (slice_get ls i))
      along [] i b = tt
      along (l ∷ ls) zero b = omega (arith, first-le, All-head (λ m. var_of m < s.first) l ls b)
      along (l ∷ ls) (suc i) b = along ls i (All-tail (λ m. var_of m < s.first) l ls b)

  row-below : (x m : ℕ) → x + m ≤ end s → AllSaidBelow (end s) (digit_row x m)
  row-below x m h = all-map (end s) (λ y. atom (lit_of y)) (range_with_len x m) (λ y i. let l = range-In x m y i in omega (arith, l, h))

  level-below : (i : ℕ) → i < numbers s → AllSaidBelow (end s) (level s i)
  unfolding level
  level-below i h = row-below (level_start s i) (level_width s i) (level-fits s i h)

  pub path-below : (p q : ℕ) → SaidBelow (end s) (path s p q)
  unfolding way
  path-below p q = elim (cases_Bool (leads s q p)) [
    | inl t ↦ let n = leads-within s within p q t in rw (way, t) (omega (arith, path-fits s q p n.1 n.0 t, turn_start-le s))
    | inr f ↦ rw (way, f) tt
  ]

  step-below : (q : ℕ) (a : Arc) → In a s.arcs → SaidBelow (end s) (begins_path s q a)
  unfolding begins_path
  step-below q a i = elim (cases_Bool (eqb a.child q)) [
    | inl t ↦ rw (begins_path, t) (arc-below a i)
    | inr f ↦ rw (begins_path, f) (both-below (end s) (atom a.lit) (path s a.child q) (arc-below a i) (path-below a.child q))
  ]

  pub arc_rules-below : (x : ℕ) (a : Arc) → In a s.arcs → x + turns s a ≤ end s → AllSaidBelow (end s) (arc_rules s x a)
  unfolding arc_rules
  arc_rules-below x a i h = elim (cases_Bool (is_inside s a)) [
    | inl t ↦ let d = within a.parent a.child (possible-from s a i) in
        rw (arc_rules, t) (rising-below (end s) (atom a.lit) (level s a.parent) (level s a.child) (digit_row x (turns s a)) (arc-below a i)
        (level-below a.parent d.0) (level-below a.child d.1) (row-below x (turns s a) h))
    | inr f ↦ elim (cases_Bool (eqb a.parent a.child)) [
      | inl e ↦ rw (arc_rules, f, e) (opposite-below (end s) (atom a.lit) (arc-below a i), tt)
      | inr g ↦ rw (arc_rules, f, g) tt
    ]
  ]

  arcs_rules-below : (x : ℕ) (arcs : List Arc) → ((a : Arc) → In a arcs → In a s.arcs) → x + sum_by (turns s) arcs ≤ end s
      → AllSaidBelow (end s) (arcs_rules s x arcs)
  unfolding arcs_rules
  arcs_rules-below x [] part h = tt
  arcs_rules-below x (a ∷ arcs) part h =
      let e = sum_by-cons (turns s) a arcs in
      all-append (end s) (arc_rules s x a) (arcs_rules s (x + turns s a) arcs)
      (arc_rules-below x a (part a (inl refl)) (omega (arith, h, e)))
      (arcs_rules-below (x + turns s a) arcs (λ b i. part b (inr i)) (omega (arith, h, e)))

  turns-fit : turn_start s + sum_by (turns s) s.arcs ≤ end s
  unfolding end
  turns-fit = omega arith

  pub node_rules-below : (i : ℕ) → AllSaidBelow (end s) (node_rules s i)
  unfolding node_rules
  node_rules-below i = elim (cases_Bool (is_root_number s i)) [
    | inl t ↦ rw (node_rules, t) tt
    | inr f ↦ rw (node_rules, f) (
      (
        opposite-below (end s) (node s i) (node-below i),
        any-below (end s) (map (λ a. atom a.lit) (filter (λ a. eqb a.child i) s.arcs))
            (all-map (end s) (λ a. atom a.lit) (filter (λ a. eqb a.child i) s.arcs)
            (λ a m. arc-below a (filter-In (λ a. eqb a.child i) a s.arcs m).0)),
      ),
      tt,
    )
  ]

  way_rules_over-below : (q p : ℕ) (arcs : List Arc) → ((a : Arc) → In a arcs → In a s.arcs)
      → AllSaidBelow (end s) (way_rules_over s q p arcs)
  unfolding way_rules_over
  way_rules_over-below q p arcs part =
      let own : (a : Arc) → In a arcs → SaidBelow (end s) (begins_path s q a) = λ a i. step-below q a (part a i) in (
        (
          opposite-below (end s) (path s p q) (path-below p q),
          any-below (end s) (map (begins_path s q) arcs) (all-map (end s) (begins_path s q) arcs own),
        ),
        all-map (end s) (λ a. implication_of (begins_path s q a) (path s p q)) arcs
            (λ a i. implies-below (end s) (begins_path s q a) (path s p q) (own a i) (path-below p q)),
      )

  pub way_rules-below : (q p : ℕ) → AllSaidBelow (end s) (way_rules s q p)
  unfolding way_rules way_rules_over
  way_rules-below q p = way_rules_over-below q p (arcs_leaving s p) (λ a i. (filter-In (λ a. eqb a.parent p) a s.arcs i).0)

  pub towards-below : (q p : ℕ) → AllSaidBelow (end s) (way_rules_over s q p (arcs_towards s q p))
  towards-below q p = way_rules_over-below q p (arcs_towards s q p)
      (λ a i. (filter-In (λ a. eqb a.parent p) a s.arcs (filter-In (may_begin s q) a (arcs_leaving s p) i).0).0)

  path_rules-below : (q : ℕ) → AllSaidBelow (end s) (path_rules s q)
  unfolding path_rules
  path_rules-below q = all-flat (end s) (way_rules s q) (filter (leads s q) (numbers_below (numbers s))) (λ p m. way_rules-below q p)

  pub constraints-below : AllSaidBelow (end s) (constraints s)
  unfolding constraints
  constraints-below =
      let a = arcs_rules s (turn_start s) s.arcs in
      let b = flat_map (node_rules s) (numbers_below (numbers s)) in
      all-append (end s) (a ++ b) (flat_map (path_rules s) (numbers_below (numbers s)))
      (all-append (end s) a b (arcs_rules-below (turn_start s) s.arcs (λ a i. i) turns-fit)
      (all-flat (end s) (node_rules s) (numbers_below (numbers s)) (λ i m. node_rules-below i)))
      (all-flat (end s) (path_rules s) (numbers_below (numbers s)) (λ q m. path_rules-below q))
