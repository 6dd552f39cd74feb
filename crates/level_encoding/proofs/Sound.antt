-- Assignments that make the formulas true.
use Rattle.std.proofs.Common.{◌≡◌, ℕ, ◌<◌, Bool, true, false, ◌&&◌, ◌||◌, eqb, ◌++◌, map, ◌⊎◌, inl, inr, refl, sym, subst, ◌∙◌}
use Rattle.std.specs.List.{list_all, filter, flat_map}
use Rattle.std.proofs.lemmas.Bool.{and_parts, or_cases, eqb-true, eq-eqb, cases_eq}
use Rattle.std.proofs.lemmas.List.Folds.{list_all-append}
use Rattle.reachability.specs.Paths.{Path, IsAcyclic, HasArc}
use Rattle.reachability.proofs.PathLaws.{one_arc, arc_before, along, acyclic_by_parts}
use Rattle.reachability.proofs.ReachLaws.{begins_at_root, told_by_path}
use Rattle.level_encoding.proofs.Reached.{exact_same, joined-from}
use Rattle.level_encoding.specs.declared.input.Arc.{Arc}
use Rattle.clause_store.specs.Lits.{lit_true}
use Rattle.clause_formulas.specs.Statements.{atom, or, eval, any_statement, opposite, implication_of}
use Rattle.level_encoding.specs.Composed.{digit_row, Meets}
use Rattle.level_encoding.specs.Input.{LevelData, numbers, same, possible, chosen, node, is_root_number, IsRight}
use Rattle.level_encoding.specs.Encoding.{numbers_below, level, turns, turn_start, arc_rules, arcs_rules, node_rules, arcs_leaving, begins_path, way_rules, path_rules, path, leads, constraints}
use Rattle.level_encoding.specs.Laws.{IsSound, IsExact, StartsChosen}
use Rattle.level_encoding.proofs.FormulaLaws.{opposite-at, implies-at, first-or-at, rising-at, number}
use Rattle.level_encoding.proofs.Lists.{In, any-to, all-flat-at, all-map-at, any_of-is, In-below, In-filter}
use Rattle.level_encoding.proofs.ArcLaws.{inside-self, inside-joined, same-length, turn-length, arcs-at}
use Rattle.level_encoding.proofs.Choices.{chosen-from, chosen-to, chosen-possible, possible-from, path-leads, IsWithin, leads-within, leads-from, leads-path, starts, starts-to, starts-from, node-within, within-from}

module _ (s : LevelData) (v : ℕ → Bool) (right : IsRight s) (starts_chosen : StartsChosen s v) (met : Meets v (constraints s)) where
  within : IsWithin (numbers s) (possible s)
  within = within-from s right

  level_value : ℕ → ℕ
  level_value i = number (map (eval v) (level s i))

  parts : (list_all (eval v) (arcs_rules s (turn_start s) s.arcs) ≡ true)
      × (list_all (eval v) (flat_map (node_rules s) (numbers_below (numbers s))) ≡ true)
      × (list_all (eval v) (flat_map (path_rules s) (numbers_below (numbers s))) ≡ true)
  unfolding constraints
  parts =
      let a = arcs_rules s (turn_start s) s.arcs in
      let b = flat_map (node_rules s) (numbers_below (numbers s)) in
      let c = flat_map (path_rules s) (numbers_below (numbers s)) in
      let x = and_parts (list_all (eval v) (a ++ b)) (list_all (eval v) c) (sym (list_all-append (eval v) (a ++ b) c) ∙ met) in
      let y = and_parts (list_all (eval v) a) (list_all (eval v) b) (sym (list_all-append (eval v) a b) ∙ x.0) in
      (y.0, y.1, x.1)

  inside : (a : Arc) → In a s.arcs → lit_true v a.lit ≡ true → Path (HasArc (possible s)) a.child a.parent
      → level_value a.parent < level_value a.child
  unfolding arc_rules level_value
  inside a i l back = let m = arcs-at s v a (turn_start s) s.arcs parts.0 i in by-cases (cases_eq a.parent a.child) m.0 m.1
    where
      by-cases : ((a.parent ≡ a.child) ⊎ (a.parent ≡ a.child → ⊥)) → (x : ℕ) → list_all (eval v) (arc_rules s x a) ≡ true
          → level_value a.parent < level_value a.child
      by-cases (inl e) x h =
          absurd (opposite-at v (atom a.lit) (and_parts (eval v (opposite (atom a.lit))) true
          (rw (arc_rules, inside-self s a e, eq-eqb a.parent a.child e) at h)).0 l)
      by-cases (inr ne) x h =
          let j = joined-from (possible s) a.parent a.child (one_arc (HasArc (possible s)) a.parent a.child (possible-from s a i)) back in
          let t = inside-joined s a ne ∙ j in
          rising-at v (atom a.lit) (level s a.parent) (level s a.child) (digit_row x (turns s a)) (same-length s a.parent a.child j)
          (turn-length s x a t) (rw (arc_rules, t) at h) l

  rises : (p q : ℕ) → HasArc (chosen s v) p q → Path (HasArc (possible s)) q p → level_value p < level_value q
  rises p q h back = let c = chosen-to s v p q h in at-places p q c.0 c.1 c.2 c.3 c.4 back
    where
      at-places : (p q : ℕ) (a : Arc) → In a s.arcs → a.parent ≡ p → a.child ≡ q → lit_true v a.lit ≡ true → Path (HasArc (possible s)) q p
          → level_value p < level_value q
      at-places p q a i e d l back = rw (← e, ← d) (inside a i l (rw (e, d) back))

  acyclic : IsAcyclic (HasArc (chosen s v))
  acyclic = acyclic_by_parts (HasArc (possible s)) (HasArc (chosen s v)) (chosen-possible s v) level_value rises

  back : (i : ℕ) → eval v (node s i) ≡ true → (is_root_number s i ≡ true) ⊎ ((p : ℕ) × HasArc (chosen s v) p i)
  unfolding node_rules
  back i h = by-bool (is_root_number s i) refl (all-flat-at (eval v) (node_rules s) i (numbers_below (numbers s)) parts.1
      (In-below (numbers s) i (node-within s v i h)))
    where
      by-bool : (b : Bool) → is_root_number s i ≡ b → list_all (eval v) (node_rules s i) ≡ true → (b ≡ true)
          ⊎ ((p : ℕ) × HasArc (chosen s v) p i)
      by-bool true e t = inl refl
      by-bool false e t =
          let ends = any_statement (map (λ a. atom a.lit) (filter (λ a. eqb a.child i) s.arcs)) in
          let u : ((eval v (opposite (node s i)) || eval v ends) && true) ≡ true = rw (node_rules, e) at t in
          elim (or_cases (eval v (opposite (node s i))) (eval v ends) (and_parts (eval v (opposite (node s i)) || eval v ends) true u).0) [
            | inl x ↦ absurd (opposite-at v (node s i) x h)
            | inr x ↦
                let f = any-to (λ a. eqb a.child i && lit_true v a.lit) s.arcs
                (sym (any_of-is v (λ a. atom a.lit) (λ a. eqb a.child i) s.arcs) ∙ x) in
                let y = and_parts (eqb f.0.child i) (lit_true v f.0.lit) f.2 in
                inr (f.0.parent, subst (HasArc (chosen s v) f.0.parent) (eqb-true f.0.child i y.0) (chosen-from s v f.0 f.1 y.1))
          ]

  -- a model's choice has no cycle and founds its nodes
  pub sound : IsSound s v
  sound = record {
    acyclic = acyclic;
    founded = begins_at_root same exact_same (chosen s v) acyclic (λ i. eval v (node s i) ≡ true) (λ i. is_root_number s i ≡ true)
        (λ i h. elim (back i h) [ inl r ↦ inl r | inr r ↦ inr (r.0, starts_chosen r.0 i r.1, r.1) ]);
  }

  ways-met : (p q : ℕ) → leads s q p ≡ true → list_all (eval v) (way_rules s q p) ≡ true
  unfolding path_rules
  ways-met p q h =
      let d = leads-within s within p q h in
      all-flat-at (eval v) (way_rules s q) p (filter (leads s q) (numbers_below (numbers s)))
      (all-flat-at (eval v) (path_rules s) q (numbers_below (numbers s)) parts.2 (In-below (numbers s) q d.1))
      (In-filter (leads s q) p (numbers_below (numbers s)) (In-below (numbers s) p d.0) h)

  way-starts : (p q : ℕ) → eval v (path s p q) ≡ true → eval v (starts s q p) ≡ true
  unfolding way_rules
  way-starts p q t =
      let m = ways-met p q (path-leads s v p q t) in
      first-or-at v (path s p q) (starts s q p) (and_parts (eval v (or (opposite (path s p q)) (starts s q p)))
      (list_all (eval v) (map (λ a. implication_of (begins_path s q a) (path s p q)) (arcs_leaving s p))) m).0 t

  starts-way : (p q : ℕ) → leads s q p ≡ true → eval v (starts s q p) ≡ true → eval v (path s p q) ≡ true
  unfolding way_rules
  starts-way p q h t =
      let m = and_parts (eval v (or (opposite (path s p q)) (starts s q p)))
      (list_all (eval v) (map (λ a. implication_of (begins_path s q a) (path s p q)) (arcs_leaving s p))) (ways-met p q h) in
      let f = any-to (λ a. eqb a.parent p && eval v (begins_path s q a)) s.arcs
      (sym (any_of-is v (begins_path s q) (λ a. eqb a.parent p) s.arcs) ∙ t) in
      let y = and_parts (eqb f.0.parent p) (eval v (begins_path s q f.0)) f.2 in
      implies-at v (begins_path s q f.0) (path s p q)
      (all-map-at (eval v) (λ a. implication_of (begins_path s q a) (path s p q)) f.0 (arcs_leaving s p) m.1
      (In-filter (λ a. eqb a.parent p) f.0 s.arcs f.1 y.0)) y.1

  -- its path literals are true exactly where chosen arcs lead
  pub exact : IsExact s v
  exact p q target = (
    told_by_path same exact_same (chosen s v) acyclic Told q owes p,
    along (HasArc (chosen s v)) Told q (λ a h. starts-way a q (way a q h (inl refl)) (starts-from s v a q q h (inl refl)))
        (λ a r h t. starts-way a q (way a r h (inr t)) (starts-from s v a q r h (inr t))) p,
  )
    where
      Told : ℕ → Type 0
      Told r = eval v (path s r q) ≡ true

      owes : (r : ℕ) → eval v (path s r q) ≡ true → HasArc (chosen s v) r q
          ⊎ ((x : ℕ) × HasArc (chosen s v) r x × (eval v (path s x q) ≡ true))
      owes r t = let w = starts-to s v r q (way-starts r q t) in
          elim w.2 [ inl e ↦ inl (subst (HasArc (chosen s v) r) e w.1) | inr u ↦ inr (w.0, w.1, u) ]

      way : (a r : ℕ) → HasArc (chosen s v) a r → ((r ≡ q) ⊎ (eval v (path s r q) ≡ true)) → leads s q a ≡ true
      way a r h (inl e) = leads-from s a q target
          (one_arc (HasArc (possible s)) a q (subst (HasArc (possible s) a) e (chosen-possible s v a r h)))
      way a r h (inr t) = leads-from s a q target
          (arc_before (HasArc (possible s)) a r q (chosen-possible s v a r h) (leads-path s r q (path-leads s v r q t)))
