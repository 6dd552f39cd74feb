-- Choices without cycles, founded, are extended to assignments that make the formulas true.
use Rattle.std.proofs.Common.{◌≡◌, ℕ, suc, length, ◌+◌, ◌-◌, ◌^◌, ◌<◌, ◌≤◌, Bool, true, false, cond, ltb, ◌&&◌, ◌||◌, eqb, get_or, drop, List, [], ◌∷◌, ◌++◌, map, ◌⊎◌, inl, inr, refl, sym, ap, subst, ◌∙◌, arith}
use Rattle.std.specs.Prelude.{Contains}
use Rattle.std.specs.List.{list_all, filter, flat_map, range_with_len}
use Rattle.std.proofs.lemmas.Bool.{and_parts, and_from, or_left, or_right, false≢true, eq-eqb, ne_eqb, cases_eq, cases_Bool, lt-ltb, le-ltb}
use Rattle.std.proofs.lemmas.List.Folds.{list_all-append}
use Rattle.reachability.specs.Paths.{Path, IsAcyclic, IsFounded, HasArc, reaches, joined, members, rank}
use Rattle.reachability.proofs.PathLaws.{one_arc, arc_before, last_arc, carried}
use Rattle.reachability.proofs.PartLaws.{rank_rises, rank_below}
use Rattle.level_encoding.specs.Counts.{total_below, count_below}
use Rattle.level_encoding.proofs.CountLaws.{total-le}
use Rattle.level_encoding.proofs.Reached.{exact_same, In-has, reaches-sound, reaches-complete, Path-first}
use Rattle.level_encoding.specs.declared.input.Arc.{Arc}
use Rattle.clause_store.specs.Lits.{lit_true, var_of}
use Rattle.clause_circuits.specs.Gates.{lit_of}
use Rattle.clause_formulas.specs.Statements.{Statement, atom, or, eval, any_statement, opposite, implication_of}
use Rattle.level_encoding.specs.Composed.{digit_row}
use Rattle.level_encoding.specs.Input.{LevelData, numbers, same, arc_ends, possible, chosen, node, is_root_number, is_asked_target, IsRight}
use Rattle.level_encoding.specs.Encoding.{numbers_below, level_width, level_start, level, turns, turn_start, arc_rules, arcs_rules, node_rules, arcs_leaving, begins_path, way_rules, path_rules, way, path, path_start, leads, ways, constraints}
use Rattle.level_encoding.specs.Laws.{HasModel}
use Rattle.level_encoding.proofs.FormulaLaws.{opposite-from, implies-from, first-or, rising-from, turns-from, number, digits_of, length-digits_of, number-digits_of}
use Rattle.level_encoding.proofs.Lists.{In, all-in, any-from, In-below, all-flat-from, all-map-from, filter-In, any_of-is}
use Rattle.level_encoding.proofs.Digits.{width-enough, row_at, row_at-is, count-up, passing_at, passing_at-is}
use Rattle.level_encoding.proofs.Choices.{chosen-from, chosen-to, chosen-possible, possible-from, IsWithin, leads-within, leads-from, starts, starts-to, starts-from, within-from}
use Rattle.level_encoding.proofs.ArcLaws.{inside-self, inside-joined, same-length, turn-length}
use Rattle.level_encoding.proofs.Room.{path-fits}
use Rattle.level_encoding.proofs.Agreement.{lit-agree, filter-agree, read-row, nodes-agree}

module _ (s : LevelData) (v : ℕ → Bool) (right : IsRight s) (acyclic : IsAcyclic (HasArc (chosen s v)))
    (founded : IsFounded (HasArc (chosen s v)) (λ i. eval v (node s i)) (is_root_number s)) where
  within : IsWithin (numbers s) (possible s)
  within = within-from s right

  rank_of : ℕ → ℕ
  rank_of i = rank same (possible s) (chosen s v) (numbers_below (numbers s)) i

  digit : ℕ → ℕ → Bool
  digit i k = get_or (digits_of (level_width s i) (rank_of i)) k false

  leads_now : ℕ → ℕ → Bool
  leads_now q p = reaches same (chosen s v) p q

  bits : ℕ → List Bool
  bits i = digits_of (level_width s i) (rank_of i)

  turn : Arc → ℕ → Bool
  turn a k = ltb (number (drop (suc k) (bits a.parent))) (number (drop (suc k) (bits a.child)))

  turn_at : List Arc → ℕ → Bool
  turn_at [] k = false
  turn_at (a ∷ arcs) k = cond (ltb k (turns s a)) (turn a k) (turn_at arcs (k - turns s a))

  -- the old variables as they were, then the digits of the ranks, then where paths lead, then the turns
  extended : ℕ → Bool
  extended x =
      cond (ltb x s.first) (v x)
      (cond (ltb x (level_start s (numbers s))) (row_at (level_width s) digit (numbers s) (x - s.first))
      (cond (ltb x (turn_start s)) (row_at (ways s) (λ q. passing_at (leads s q) (leads_now q) (numbers s)) (numbers s)
      (x - level_start s (numbers s)))
      (turn_at s.arcs (x - turn_start s))))

  old : (x : ℕ) → x < s.first → v x ≡ extended x
  unfolding extended
  old x h = rw (lt-ltb x s.first h) refl

  number-has : (i : ℕ) → i < numbers s → Contains (numbers_below (numbers s)) i
  number-has i h = In-has i (numbers_below (numbers s)) (In-below (numbers s) i h)

  rank-small : (i : ℕ) → i < numbers s → rank_of i < 2 ^ level_width s i
  unfolding rank_of level_width
  rank-small i h =
      omega (
        arith,
        rank_below same exact_same (possible s) (chosen s v) acyclic (numbers_below (numbers s)) i (number-has i h),
        width-enough
            (members same (possible s) (numbers_below (numbers s)) i),
      )

  digit-at : (i k : ℕ) → i < numbers s → k < level_width s i → extended (level_start s i + k) ≡ digit i k
  unfolding extended level_start total_below
  digit-at i k a b =
      let x = s.first + total_below (level_width s) i + k in
      let d : x - s.first ≡ total_below (level_width s) i + k = omega arith in
      rw (
        le-ltb x s.first (omega arith),
        lt-ltb x (s.first + total_below (level_width s) (numbers s))
            (omega (arith, b, total-le (level_width s) (suc i) (numbers s) a)),
        d,
      ) (row_at-is (level_width s) digit (numbers s) i k a b)

  start-le : (i : ℕ) → s.first ≤ level_start s i
  unfolding level_start
  start-le i = omega arith

  turns-behind : level_start s (numbers s) ≤ turn_start s
  unfolding turn_start path_start
  turns-behind = omega arith

  way-at : (p q : ℕ) → leads s q p ≡ true → extended (path_start s q + count_below (leads s q) p) ≡ leads_now q p
  unfolding extended path_start ways count_below total_below
  way-at p q h =
      let n = leads-within s within p q h in
      let x = level_start s (numbers s) + total_below (ways s) q + count_below (leads s q) p in
      let d : x - level_start s (numbers s) ≡ total_below (ways s) q + count_below (leads s q) p = omega arith in
      let l : count_below (leads s q) p < ways s q = count-up (leads s q) (numbers s) p n.0 h in
      rw (
        le-ltb x s.first (omega (arith, start-le (numbers s))),
        le-ltb x (level_start s (numbers s)) (omega arith),
        lt-ltb x
            (turn_start s) (path-fits s q p n.1 n.0 h),
        d,
      )
      (row_at-is (ways s) (λ q. passing_at (leads s q) (leads_now q) (numbers s)) (numbers s) q (count_below (leads s q) p) n.1 l
      ∙ passing_at-is (leads s q) (leads_now q) (numbers s) p n.0 h)

  turn-at : (k : ℕ) → extended (turn_start s + k) ≡ turn_at s.arcs k
  unfolding extended
  turn-at k =
      let x = turn_start s + k in
      let d : x - turn_start s ≡ k = omega arith in
      rw (
        le-ltb x s.first (omega (arith, turns-behind, start-le (numbers s))),
        le-ltb x (level_start s (numbers s))
            (omega (arith, turns-behind)),
        le-ltb x (turn_start s) (omega arith),
        d,
      ) refl

  lit-same : (a : Arc) → In a s.arcs → lit_true v a.lit ≡ lit_true extended a.lit
  lit-same a i = lit-agree v extended a.lit (old (var_of a.lit) (all-in (λ (b : Arc). var_of b.lit < s.first) a s.arcs right.arcs_old i))

  chosen-same : chosen s v ≡ chosen s extended
  unfolding chosen
  chosen-same = ap (map arc_ends) (filter-agree _ _ s.arcs lit-same)

  also-chosen : (p q : ℕ) → HasArc (chosen s v) p q → HasArc (chosen s extended) p q
  also-chosen p q h = subst (λ arcs. HasArc arcs p q) chosen-same h

  chosen-before : (p q : ℕ) → HasArc (chosen s extended) p q → HasArc (chosen s v) p q
  chosen-before p q h = subst (λ arcs. HasArc arcs p q) (sym chosen-same) h

  node-same : (i : ℕ) → eval v (node s i) ≡ eval extended (node s i)
  unfolding node
  node-same i = nodes-agree s.first v extended old s.nodes right.nodes_old i

  -- levels are ranks
  level-is : (i : ℕ) → i < numbers s → map (eval extended) (level s i) ≡ bits i
  unfolding level digit bits
  level-is i h =
      let e : length (bits i) ≡ level_width s i = length-digits_of (level_width s i) (rank_of i) in
      ap (λ n. map (eval extended) (map (λ x. atom (lit_of x)) (range_with_len (level_start s i) n))) (sym e)
      ∙ read-row extended (level_start s i) (bits i) (λ k l. digit-at i k h (omega (arith, l, e)))

  level-number : (i : ℕ) → i < numbers s → number (map (eval extended) (level s i)) ≡ rank_of i
  unfolding bits
  level-number i h = ap number (level-is i h) ∙ number-digits_of (level_width s i) (rank_of i) (rank-small i h)

  arc-met : (a : Arc) → In a s.arcs → (x : ℕ) → ((k : ℕ) → k < turns s a → extended (x + k) ≡ turn a k)
      → list_all (eval extended) (arc_rules s x a) ≡ true
  unfolding arc_rules rank_of turn
  arc-met a i x values = by-cases (cases_eq a.parent a.child)
    where
      took : lit_true extended a.lit ≡ true → HasArc (chosen s v) a.parent a.child
      took t = chosen-from s v a i (lit-same a i ∙ t)

      by-cases : ((a.parent ≡ a.child) ⊎ (a.parent ≡ a.child → ⊥)) → list_all (eval extended) (arc_rules s x a) ≡ true
      by-cases (inl e) = rw (arc_rules, inside-self s a e, eq-eqb a.parent a.child e)
          (and_from (eval extended (opposite (atom a.lit))) true
          (opposite-from extended (atom a.lit) (λ t. acyclic a.parent
          (one_arc (HasArc (chosen s v)) a.parent a.parent (subst (HasArc (chosen s v) a.parent) (sym e) (took t))))) refl)
      by-cases (inr ne) = elim (cases_Bool (joined same (possible s) a.parent a.child)) [
        | inl j ↦
            let d = within a.parent a.child (possible-from s a i) in
            let t = inside-joined s a ne ∙ j in
            rw (arc_rules, t) (rising-from extended (atom a.lit) (level s a.parent) (level s a.child) (digit_row x (turns s a))
            (same-length s a.parent a.child j) (turn-length s x a t)
            (turns-from extended (level s a.parent) (level s a.child) x (turns s a) (λ k l. values k l
            ∙ rw (level-is a.parent d.0, level-is a.child d.1) refl))
            (λ u. rw (level-number a.parent d.0, level-number a.child d.1)
            (rank_rises same exact_same (possible s) (chosen s v) acyclic (numbers_below (numbers s)) a.parent a.child
            (number-has a.parent d.0) (took u) j)))
        | inr f ↦ rw (arc_rules, inside-joined s a ne ∙ f, ne_eqb a.parent a.child ne) refl
      ]

  arcs-met : (x : ℕ) (arcs : List Arc) → ((a : Arc) → In a arcs → In a s.arcs) → ((k : ℕ) → extended (x + k) ≡ turn_at arcs k)
      → list_all (eval extended) (arcs_rules s x arcs) ≡ true
  unfolding arcs_rules turn_at
  arcs-met x [] part values = refl
  arcs-met x (a ∷ arcs) part values =
      list_all-append (eval extended) (arc_rules s x a) (arcs_rules s (x + turns s a) arcs) ∙
      and_from (list_all (eval extended) (arc_rules s x a)) (list_all (eval extended) (arcs_rules s (x + turns s a) arcs))
      (arc-met a (part a (inl refl)) x (λ k l. values k ∙ rw (lt-ltb k (turns s a) l) refl))
      (arcs-met (x + turns s a) arcs (λ b i. part b (inr i)) (λ k.
      let e : x + turns s a + k ≡ x + (turns s a + k) = omega arith in
      let d : turns s a + k - turns s a ≡ k = omega arith in
      ap extended e ∙ values (turns s a + k) ∙ rw (le-ltb (turns s a + k) (turns s a) (omega arith), d) refl))

  -- what founds a node ends in an arc
  arrives : (i : ℕ) → eval v (node s i) ≡ true → (is_root_number s i ≡ true) ⊎ ((p : ℕ) × HasArc (chosen s v) p i)
  arrives i h = elim (founded i h) [
    | inl r ↦ inl r
    | inr r ↦ elim (last_arc (HasArc (chosen s v)) r.0 i r.3) [ inl a ↦ inr (r.0, a) | inr w ↦ inr (w.0, w.2) ]
  ]

  node-met : (i : ℕ) → list_all (eval extended) (node_rules s i) ≡ true
  unfolding node_rules
  node-met i = by-bool (is_root_number s i) refl
    where
      ends : Statement
      ends = any_statement (map (λ a. atom a.lit) (filter (λ a. eqb a.child i) s.arcs))

      met : is_root_number s i ≡ false → (eval extended (opposite (node s i)) || eval extended ends) ≡ true
      met e = elim (cases_Bool (eval extended (node s i))) [
        | inl t ↦ elim (arrives i (node-same i ∙ t)) [
          | inl r ↦ absurd (false≢true (sym e ∙ r))
          | inr r ↦
              let c = chosen-to s v r.0 i r.1 in
              or_right (eval extended (opposite (node s i))) (eval extended ends)
              (any_of-is extended (λ a. atom a.lit) (λ a. eqb a.child i) s.arcs ∙
              any-from (λ a. eqb a.child i && lit_true extended a.lit) c.0 s.arcs c.1
              (and_from (eqb c.0.child i) (lit_true extended c.0.lit) (eq-eqb c.0.child i c.3) (sym (lit-same c.0 c.1) ∙ c.4)))
        ]
        | inr f ↦ or_left (eval extended (opposite (node s i))) (eval extended ends)
            (opposite-from extended (node s i) (λ t. false≢true (sym f ∙ t)))
      ]

      by-bool : (b : Bool) → is_root_number s i ≡ b → list_all (eval extended) (node_rules s i) ≡ true
      by-bool true e = rw (node_rules, e) refl
      by-bool false e = rw (node_rules, e) (and_from (eval extended (opposite (node s i)) || eval extended ends) true (met e) refl)

  path-to : (p q : ℕ) → is_asked_target s q ≡ true → Path (HasArc (chosen s v)) p q → eval extended (path s p q) ≡ true
  unfolding way leads_now
  path-to p q target t =
      let l = leads-from s p q target (carried (HasArc (chosen s v)) (HasArc (possible s)) (λ x. x) (chosen-possible s v) p q t) in
      rw (way, l) (way-at p q l ∙ reaches-complete (chosen s v) p q t)

  path-of : (p q : ℕ) → eval extended (path s p q) ≡ true → Path (HasArc (chosen s v)) p q
  unfolding way leads_now
  path-of p q h = by-bool (leads s q p) refl h
    where
      by-bool : (b : Bool) → leads s q p ≡ b → eval extended (path s p q) ≡ true → Path (HasArc (chosen s v)) p q
      by-bool true e t = reaches-sound (chosen s v) p q (sym (way-at p q e) ∙ (rw (way, e) at t))
      by-bool false e t = absurd (false≢true (rw (way, e) at t))

  way-met : (p q : ℕ) → is_asked_target s q ≡ true → list_all (eval extended) (way_rules s q p) ≡ true
  unfolding way_rules
  way-met p q target =
      and_from (eval extended (or (opposite (path s p q)) (starts s q p)))
      (list_all (eval extended) (map (λ a. implication_of (begins_path s q a) (path s p q)) (arcs_leaving s p)))
      (first-or extended (path s p q) (starts s q p) (λ t. begun (path-of p q t)))
      (all-map-from (eval extended) (λ a. implication_of (begins_path s q a) (path s p q)) (arcs_leaving s p)
      (λ a m. implies-from extended (begins_path s q a) (path s p q) (λ t.
      let d = filter-In (λ a. eqb a.parent p) a s.arcs m in
      leading (any_of-is extended (begins_path s q) (λ a. eqb a.parent p) s.arcs
      ∙ any-from (λ a. eqb a.parent p && eval extended (begins_path s q a)) a s.arcs d.0
      (and_from (eqb a.parent p) (eval extended (begins_path s q a)) d.1 t)))))
    where
      begun : Path (HasArc (chosen s v)) p q → eval extended (starts s q p) ≡ true
      begun t = let f = Path-first (chosen s v) p q t in
          starts-from s extended p q f.0 (also-chosen p f.0 f.1) (elim f.2 [ inl e ↦ inl e | inr u ↦ inr (path-to f.0 q target u) ])

      leading : eval extended (starts s q p) ≡ true → eval extended (path s p q) ≡ true
      leading t =
          let r = starts-to s extended p q t in
          path-to p q target (elim r.2 [
            | inl e ↦ one_arc (HasArc (chosen s v)) p q (subst (HasArc (chosen s v) p) e (chosen-before p r.0 r.1))
            | inr u ↦ arc_before (HasArc (chosen s v)) p r.0 q (chosen-before p r.0 r.1) (path-of r.0 q u)
          ])

  target-of : (q p : ℕ) → leads s q p ≡ true → is_asked_target s q ≡ true
  unfolding leads
  target-of q p h = (and_parts (is_asked_target s q) (reaches same (possible s) p q) h).0

  -- a choice without a cycle extends to a model of the constraints
  pub extends : HasModel s (constraints s) v
  unfolding constraints path_rules
  extends = record {
    assignment = extended;
    agrees = old;
    meets =
        let f = eval extended in
        let a = arcs_rules s (turn_start s) s.arcs in
        let b = flat_map (node_rules s) (numbers_below (numbers s)) in
        let c = flat_map (path_rules s) (numbers_below (numbers s)) in
        list_all-append f (a ++ b) c ∙ and_from (list_all f (a ++ b)) (list_all f c)
        (list_all-append f a b ∙ and_from (list_all f a) (list_all f b) (arcs-met (turn_start s) s.arcs (λ a i. i) turn-at)
        (all-flat-from f (node_rules s) (numbers_below (numbers s)) (λ i m. node-met i)))
        (all-flat-from f (path_rules s) (numbers_below (numbers s))
        (λ q m. all-flat-from f (way_rules s q) (filter (leads s q) (numbers_below (numbers s)))
        (λ p i. way-met p q (target-of q p (filter-In (leads s q) p (numbers_below (numbers s)) i).1))));
  }
