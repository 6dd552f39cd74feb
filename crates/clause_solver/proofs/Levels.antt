-- The levels of a learnt clause's variables.
use Rattle.std.proofs.Common.{◌≡◌, ℕ, ◌+◌, ◌<◌, ◌≤◌, max, true, ◌||◌, eqb, List, [], length, get_or, take, Option, Some, None, inl, inr, refl, sym, ap, ◌∙◌, subst, arith}
use Rattle.std.specs.Prelude.{slice_get}
use Rattle.std.specs.Option.{option_map}
use Rattle.std.proofs.lemmas.Bool.{cases_lt, or_cases, or_left, or_right, false≢true, eqb-true, eq-eqb}
use Rattle.std.proofs.lemmas.List.{take_more, take_all}
use Rattle.std.proofs.lemmas.Option.{none-some, same_Some}
use Rattle.clause_store.specs.declared.Lit.{Lit}
use Rattle.clause_store.specs.Lits.{var_of}
use Rattle.proof_log.specs.Known.{has_var}
use Rattle.clause_watch.specs.declared.trail.Placed.{Placed}
use Rattle.clause_watch.specs.Trails.{lits_of, decisions, placed_of, AreApart, IsOrderly}
use Rattle.clause_watch.proofs.Undone.{upto-whole}
use Rattle.clause_watch.proofs.Places.{has-place, has_var-lit, places-same, level-most}
use Rattle.clause_watch.proofs.Kept.{placed-has}
use Rattle.clause_solver.specs.Learning.{IsBackjumpLevelOf, IsBackjumpLevel}
use Rattle.clause_solver.proofs.SeenLaws.{has_var-push}
use Rattle.clause_solver.proofs.LearntLaws.{placed_of-upto}

module _ (n : ℕ) (ps : List Placed) (o : IsOrderly n ps) where
  -- the placed literal of a variable, and its place
  placed-here : (k : ℕ) (p : Placed) → slice_get ps k ≡ Some p → placed_of ps (var_of p.lit) ≡ Some p
  placed-here k p e =
      let m = level-most 0 ps k p o.levels e in
      subst (λ xs. placed_of xs (var_of p.lit) ≡ Some p) (upto-whole 0 (decisions ps) ps o.levels (omega arith))
      (placed_of-upto (decisions ps) ps k p o.apart e (omega (arith, m)))

  -- the placed literal of a variable stands at some place
  pub place-there : (x : ℕ) (p : Placed) → placed_of ps x ≡ Some p → (k : ℕ) × (slice_get ps k ≡ Some p) × (var_of p.lit ≡ x)
  place-there x p e =
      let l = has_var-lit (lits_of ps) x (placed-has ps x p e) in
      let q = has-place ps l.0 l.1 in
      let v : var_of q.1.lit ≡ x = ap var_of q.3 ∙ l.2 in
      let s : q.1 ≡ p = same_Some q.1 p (sym (placed-here q.0 q.1 q.2) ∙ ap (placed_of ps) v ∙ e) in
      (q.0, q.2 ∙ ap Some s, subst (λ (r : Placed). var_of r.lit ≡ x) s v)

  module _ (l : Lit) (level : Option ℕ) (e : level ≡ option_map (λ (p : Placed). p.level) (placed_of ps (var_of l))) where
    pub level-none : level ≡ None → IsBackjumpLevelOf ps l None
    level-none f k p g v low = none-some p.level (sym f ∙ e
        ∙ ap (option_map (λ (q : Placed). q.level)) (ap (placed_of ps) (sym v) ∙ placed-here k p g))

    pub level-high : (v : ℕ) → level ≡ Some v → decisions ps ≤ v → IsBackjumpLevelOf ps l None
    level-high v f le k p g s low =
        let same : v ≡ p.level = same_Some v p.level (sym f ∙ e
        ∙ ap (option_map (λ (q : Placed). q.level)) (ap (placed_of ps) (sym s) ∙ placed-here k p g)) in
        omega (arith, same, le, low)

    pub level-low : (v : ℕ) → level ≡ Some v → v < decisions ps → IsBackjumpLevelOf ps l (Some v)
    level-low v f lt = by-option (placed_of ps (var_of l)) refl
      where
        by-option : (q : Option Placed) → placed_of ps (var_of l) ≡ q → IsBackjumpLevelOf ps l (Some v)
        by-option None r = absurd (none-some v (ap (option_map (λ (p : Placed). p.level)) (sym r) ∙ sym e ∙ f))
        by-option (Some p) r =
            let s = place-there (var_of l) p r in
            (s.0, p, s.1, s.2, same_Some p.level v (ap (option_map (λ (q : Placed). q.level)) (sym r) ∙ sym e ∙ f), lt)

-- no literal asks for a level
pub backjump-start : (ps : List Placed) → IsBackjumpLevel ps [] 0
backjump-start ps = record { bound = λ k p e h lt. absurd (false≢true h); attained = inl refl }

module _ (ps : List Placed) (c : List Lit) (highest i : ℕ) (d : Lit) (h : i < length c) (b : IsBackjumpLevel ps (take i c) highest) where
  abbrev l : Lit
  l = get_or c i d

  front : (x : ℕ) → has_var (take (i + 1) c) x ≡ (has_var (take i c) x || eqb (var_of l) x)
  front x = ap (λ ms. has_var ms x) (take_more c i d h) ∙ has_var-push (take i c) l x

  old-more : (x : ℕ) → has_var (take i c) x ≡ true → has_var (take (i + 1) c) x ≡ true
  old-more x t = front x ∙ or_left (has_var (take i c) x) (eqb (var_of l) x) t

  -- the literal has no level below the present one
  pub backjump-passed : IsBackjumpLevelOf ps l None → IsBackjumpLevel ps (take (i + 1) c) highest
  backjump-passed none = record {
    bound = λ k p e t lt. elim (or_cases (has_var (take i c) (var_of p.lit)) (eqb (var_of l) (var_of p.lit))
        (sym (front (var_of p.lit)) ∙ t)) [
          | inl old ↦ b.bound k p e old lt
          | inr s ↦ absurd (none k p e (sym (eqb-true (var_of l) (var_of p.lit) s)) lt)
        ];
    attained = elim b.attained [ inl z ↦ inl z | inr r ↦ inr (r.0, r.1, r.2, old-more (var_of r.1.lit) r.3, r.4, r.5) ];
  }

  -- or one that may be the highest
  pub backjump-more : AreApart ps → (v : ℕ) → IsBackjumpLevelOf ps l (Some v) → IsBackjumpLevel ps (take (i + 1) c) (max v highest)
  backjump-more apart v s = record {
    bound = λ k p e t lt. elim (or_cases (has_var (take i c) (var_of p.lit)) (eqb (var_of l) (var_of p.lit))
        (sym (front (var_of p.lit)) ∙ t)) [
          | inl old ↦ let le = b.bound k p e old lt in omega (arith, le)
          | inr same ↦
              let q = places-same ps k s.0 p s.1 apart e s.2 (sym (eqb-true (var_of l) (var_of p.lit) same) ∙ sym s.3) in
              let n : p.level ≡ v = ap (λ (r : Placed). r.level) q.1 ∙ s.4 in
              omega (arith, n)
        ];
    attained = elim (cases_lt highest v) [
      | inl lt ↦
          let m : v ≡ max v highest = omega (arith, lt) in
          inr (
            s.0,
            s.1,
            s.2,
            front (var_of s.1.lit)
                ∙ or_right (has_var (take i c) (var_of s.1.lit)) (eqb (var_of l) (var_of s.1.lit))
                (eq-eqb (var_of l) (var_of s.1.lit) (sym s.3)),
            s.4 ∙ m,
            (let u = s.5 in omega (arith, u, m)),
          )
      | inr ge ↦
          let m : highest ≡ max v highest = omega (arith, ge) in
          elim b.attained [
            | inl z ↦ inl (omega (arith, z, m))
            | inr r ↦ inr (r.0, r.1, r.2, old-more (var_of r.1.lit) r.3, r.4 ∙ m, (let u = r.5 in omega (arith, u, m)))
          ]
    ];
  }

-- the level of all literals that were gone over is that of the clause
pub backjump-all : (ps : List Placed) (c : List Lit) (i level : ℕ) → length c ≤ i → IsBackjumpLevel ps (take i c) level
    → IsBackjumpLevel ps c level
backjump-all ps c i level le b = subst (λ xs. IsBackjumpLevel ps xs level) (take_all i c le) b
