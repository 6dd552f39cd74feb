-- One step back along a trail.
use Rattle.std.proofs.Common.{◌≡◌, ◌≢◌, ℕ, ◌-◌, ◌+◌, ◌<◌, ◌≤◌, Bool, true, false, ◌||◌, List, [], ◌∷◌, ◌++◌, length, take, set, Some, None, inl, inr, refl, sym, ap, ◌∙◌, subst, append_assoc, arith}
use Rattle.std.specs.Prelude.{slice_get}
use Rattle.std.proofs.lemmas.Bool.{cases_eq, cases_Bool, cases_lt, false≢true, eq-eqb, ne_eqb}
use Rattle.std.proofs.lemmas.List.{get_or-set_same, get_or-set_other, append-nil}
use Rattle.std.proofs.lemmas.Option.{same_Some}
use Rattle.clause_store.specs.declared.Lit.{Lit}
use Rattle.clause_store.specs.Lits.{var_of, negation, has, lit_eq}
use Rattle.clause_store.specs.Clauses.{at_id}
use Rattle.proof_log.specs.Known.{has_var}
use Rattle.proof_log.specs.Derivations.{IsResolvent}
use Rattle.clause_store.proofs.Sets.{same_lit, lit_eq-refl}
use Rattle.proof_log.specs.Usefulness.{IsConsistent}
use Rattle.proof_log.proofs.Useful.{has-var}
use Rattle.clause_watch.specs.declared.trail.Placed.{Placed}
use Rattle.clause_watch.specs.Trails.{lits_of, own, decisions}
use Rattle.clause_watch.specs.Reasons.{IsReason, HasReason}
use Rattle.clause_watch.specs.Watches.{WatchValue, IsWatch}
use Rattle.clause_solver.specs.Seen.{seen_at, AreSeen, NoneSeen, IsLastSeen, falsified, seen_after, Leads}
use Rattle.clause_solver.specs.Learning.{IsKnown, Resolves, IsTop, ResolvesDown, ReachesUip, IsResolving}
use Rattle.clause_watch.proofs.Places.{place-has, place-reason, places-apart, levels-rise, level-most, consistent-from, has-front, take-place, place-take, has_var-lit}
use Rattle.clause_solver.proofs.Resolving.{seen_after-parts, seen_after-from, falsified-agree, seen-resolve, Leads-push}

-- what the code of `resolve` sets
pub resolves-from : (cs : List (List Lit)) (m1 m2 : List Bool) (l : Lit) (id : ℕ) (b : List Lit) → at_id cs id ≡ Some b → AreSeen m1 m2 b
    → var_of l < length m2 → Resolves cs m1 (set m2 (var_of l) false) l id
resolves-from cs m1 m2 l id b known is_seen h c k x =
    let same : b ≡ c = same_Some b c (sym known ∙ k) in
    elim (cases_eq x (var_of l)) [
      | inl e ↦ rw (eq-eqb x (var_of l) e) (subst (λ y. seen_at (set m2 (var_of l) false) y ≡ false) (sym e)
          (get_or-set_same m2 (var_of l) false false h))
      | inr ne ↦ rw (ne_eqb x (var_of l) ne) (get_or-set_other m2 (var_of l) x false false ne ∙ is_seen x
          ∙ ap (λ d. seen_at m1 x || has_var d x) same)
    ]

-- a place of the trail whose literal has a reason
module _ (w : WatchValue) (right : IsWatch w.vars w.clauses w.placed) (at : ℕ) (p : Placed) (here : slice_get w.placed at ≡ Some p) (id : ℕ)
    (e : p.reason ≡ Some id) where
  -- the reason of a place is a clause that holds its literal, and whose others are false before it
  pub cause : (c : List Lit) × (at_id w.clauses id ≡ Some c) × IsReason (take at w.placed) p.lit c
  cause = let r = place-reason w.clauses [] w.placed at p right.reasons here in subst (HasReason w.clauses (take at w.placed) p.lit) e r

  -- the reason is a known clause
  pub reason-known : IsKnown w.clauses id
  reason-known = (cause.0, cause.1)

  abbrev pub c : List Lit
  c = cause.0

  -- each variable of the reason stands at this place or below
  pub in-front : (x : ℕ) → has_var c x ≡ true → (j : ℕ) × (q : Placed) × (j ≤ at) × (slice_get w.placed j ≡ Some q) × (var_of q.lit ≡ x)
  in-front x h =
      let l = has_var-lit c x h in
      elim (cases_Bool (lit_eq l.0 p.lit)) [
        | inl y ↦ (at, p, omega arith, here, ap var_of (sym (same_lit l.0 p.lit y)) ∙ l.2)
        | inr n ↦
            let f = has-front at w.placed (negation l.0)
            (cause.2.others l.0 l.1 (λ q. false≢true (sym n ∙ ap (λ z. lit_eq z p.lit) q ∙ lit_eq-refl p.lit))) in
            (f.0, f.1, omega (arith, f.2), f.3, ap var_of f.4 ∙ l.2)
      ]

  -- no variable of the reason stands behind the place
  pub not-above : (k : ℕ) (q : Placed) → at < k → slice_get w.placed k ≡ Some q → has_var c (var_of q.lit) ≡ true → ⊥
  not-above k q lt f h = let j = in-front (var_of q.lit) h in
      places-apart w.placed j.0 k j.1 q right.orderly.apart (omega (arith, j.2, lt)) j.3 f j.4

  module _ (m1 m2 : List Bool) (is_seen : seen_at m1 (var_of p.lit) ≡ true) (after : Resolves w.clauses m1 m2 p.lit id) where
    pub now : (x : ℕ) → seen_at m2 x ≡ seen_after (seen_at m1) p.lit c x
    now = after c cause.1

    pub step-none : (high : ℕ) → NoneSeen (seen_at m1) w.placed (at + 1) high → NoneSeen (seen_at m2) w.placed at high
    step-none high none k q lo hi f =
        elim (cases_Bool (seen_at m2 (var_of q.lit))) [
          | inr n ↦ n
          | inl y ↦
              let a = seen_after-parts (seen_at m1) p.lit c (var_of q.lit) (sym (now (var_of q.lit)) ∙ y) in
              absurd (elim (cases_lt at k) [
                | inl lt ↦ elim a.1 [ inl t ↦ false≢true (sym (none k q (omega arith) hi f) ∙ t) | inr t ↦ not-above k q lt f t ]
                | inr ge ↦ let same : at ≡ k = omega arith in
                    a.0 (ap (λ (r : Placed). var_of r.lit) (same_Some q p (sym f ∙ ap (slice_get w.placed) (sym same) ∙ here)))
              ])
        ]

    pub step-kept : (j : ℕ) (q : Placed) → j < at → slice_get w.placed j ≡ Some q → seen_at m1 (var_of q.lit) ≡ true
        → seen_at m2 (var_of q.lit) ≡ true
    step-kept j q lt f t = now (var_of q.lit) ∙ seen_after-from (seen_at m1) p.lit c (var_of q.lit)
        (places-apart w.placed j at q p right.orderly.apart lt f here) (inl t)

    pub step-within : ((x : ℕ) → seen_at m1 x ≡ true → has_var (lits_of w.placed) x ≡ true) → (x : ℕ) → seen_at m2 x ≡ true
        → has_var (lits_of w.placed) x ≡ true
    step-within within x t =
        let a = seen_after-parts (seen_at m1) p.lit c x (sym (now x) ∙ t) in
        elim a.1 [
          | inl y ↦ within x y
          | inr y ↦ let j = in-front x y in subst (λ n. has_var (lits_of w.placed) n ≡ true) j.4
              (has-var (lits_of w.placed) j.1.lit (place-has w.placed j.0 j.1 j.3))
        ]

    -- the resolution, on each trail that agrees up to this place
    pub step-resolvent : (end : ℕ) (ps : List Placed) → at < end → take end ps ≡ take end w.placed → IsConsistent (lits_of ps)
        → IsResolvent (falsified (seen_at m1) ps) c (falsified (seen_at m2) ps) (negation p.lit)
    step-resolvent end ps lt agree consistent =
        let there = λ (j : ℕ) (q : Placed) (h : j < end) (f : slice_get w.placed j ≡ Some q).
        (take-place end ps j q (ap (λ xs. slice_get xs j) agree ∙ place-take end w.placed j q h f)).1 in
        subst (λ r. IsResolvent (falsified (seen_at m1) ps) c r (negation p.lit))
        (sym (falsified-agree (seen_at m2) (seen_after (seen_at m1) p.lit c) ps now))
        (seen-resolve (seen_at m1) ps p.lit c consistent (place-has ps at p (there at p lt here)) is_seen cause.2.stands
        (λ l h ne. let f = has-front at w.placed (negation l) (cause.2.others l h ne) in
        rw (← f.4) (place-has ps f.0 f.1 (there f.0 f.1 (omega (arith, f.2, lt)) f.3))))

    pub step-leads : (end : ℕ) (ps : List Placed) (a : List Lit) (ids : List ℕ) → at < end → take end ps ≡ take end w.placed
        → IsConsistent (lits_of ps) → Leads w.clauses a ids (falsified (seen_at m1) ps)
        → Leads w.clauses a (ids ++ id ∷ []) (falsified (seen_at m2) ps)
    step-leads end ps a ids lt agree consistent leads =
        Leads-push w.clauses a (falsified (seen_at m1) ps) c (falsified (seen_at m2) ps) ids id (negation p.lit) leads cause.1
        (step-resolvent end ps lt agree consistent)

-- the loop of `resolve_to_first_uip`
module _ (w : WatchValue) (right : IsWatch w.vars w.clauses w.placed) (old m1 : List Bool) (chain longer : List ℕ) (at : ℕ)
    (g : ResolvesDown w old m1 chain longer at) where
  p : Placed
  p = g.top.place

  -- the place at the top is the one that was read
  pub top-place : (q : Placed) → slice_get w.placed at ≡ Some q → g.top.place ≡ q
  top-place q f = same_Some g.top.place q (sym g.top.here ∙ f)

  module _ (before : ℕ) (b : Placed) (lt : before < at) (f : slice_get w.placed before ≡ Some b) (t : seen_at m1 (var_of b.lit) ≡ true)
      (none : NoneSeen (seen_at m1) w.placed (before + 1) at) where
    pub alone-from : (b.level ≡ g.top.place.level → ⊥) → ReachesUip w old m1 chain longer at
    alone-from ne = record {
      resolved = g;
      alone = λ k q h e y.
          let r = levels-rise 0 w.placed before at b g.top.place right.orderly.levels lt f g.top.here in
          let l = g.top.last in
          let d : b.level ≢ g.top.place.level = ne in
          let low : b.level < decisions w.placed = omega (arith, r, l, d) in
          elim (cases_lt k before) [
            | inl under ↦ let s = levels-rise 0 w.placed k before q b right.orderly.levels under e f in omega (arith, s, low)
            | inr ge ↦ elim (cases_lt before k) [
              | inl over ↦ absurd (false≢true (sym (none k q (omega arith) h e) ∙ y))
              | inr le ↦ let same : k ≡ before = omega arith in
                  subst (λ (x : Placed). x.level < decisions w.placed) (same_Some b q (sym f ∙ ap (slice_get w.placed) (sym same) ∙ e)) low
            ]
          ];
    }

    pub has-reason : b.level ≡ g.top.place.level → g.top.place.reason ≡ None → ⊥
    has-reason same none-here =
        let r = levels-rise 0 w.placed before at b g.top.place right.orderly.levels lt f g.top.here in
        let o : own g.top.place.reason ≡ 1 = ap own none-here in
        omega (arith, r, same, o)

    module _ (same : b.level ≡ g.top.place.level) (id : ℕ) (e : g.top.place.reason ≡ Some id) (m2 : List Bool)
        (after : Resolves w.clauses m1 m2 g.top.place.lit id) where
      still : seen_at m2 (var_of b.lit) ≡ true
      still = step-kept w right at g.top.place g.top.here id e m1 m2 g.top.is_seen after before b lt f t

      pub some-left : NoneSeen (seen_at m2) w.placed 0 at → ⊥
      some-left n = false≢true (sym (n before b (omega arith) lt f) ∙ still)

      pub step-back : (more : List ℕ) (next : ℕ) → more ≡ longer ++ id ∷ [] → length m2 ≡ length m1
          → IsLastSeen (seen_at m2) w.placed at (Some next) → ResolvesDown w old m2 chain more next
      step-back more next q n last = record {
        ids = g.ids ++ id ∷ [];
        grown = q ∙ ap (λ xs. xs ++ id ∷ []) g.grown ∙ append_assoc chain g.ids (id ∷ []);
        leads = step-leads w right at g.top.place g.top.here id e m1 m2 g.top.is_seen after (at + 1) w.placed
            (falsified (seen_at old) w.placed) g.ids (omega arith) refl (consistent-from w.placed right.orderly.apart) g.leads;
        top = record {
          within = step-within w right at g.top.place g.top.here id e m1 m2 g.top.is_seen after g.top.within;
          place = last.0;
          here = last.1;
          is_seen = last.3;
          above = λ k z lo hi y. elim (cases_lt k at) [
            | inl u ↦ last.4 k z lo u y
            | inr v ↦
                step-none w right at g.top.place g.top.here id e m1 m2 g.top.is_seen after (length w.placed) g.top.above k z v hi y
          ];
          last = level-is;
        };
        same = n ∙ g.same;
      }
        where
          level-is : last.0.level ≡ decisions w.placed
          level-is =
              elim (cases_lt next before) [
                | inl low ↦ absurd (false≢true (sym (last.4 before b (omega arith) lt f) ∙ still))
                | inr ge ↦ elim (cases_lt before next) [
                  | inl high ↦
                      let r = levels-rise 0 w.placed before next b last.0 right.orderly.levels high f last.1 in
                      let s = level-most 0 w.placed next last.0 right.orderly.levels last.1 in
                      let l = g.top.last in omega (arith, r, s, l, same)
                  | inr le ↦
                      let y : next ≡ before = omega arith in
                      let z : last.0 ≡ b = same_Some last.0 b (sym last.1 ∙ ap (slice_get w.placed) y ∙ f) in
                      ap (λ (x : Placed). x.level) z ∙ same ∙ g.top.last
                ]
              ]

  -- where nothing is seen before it, the place is a unique implication point
  pub none-alone : NoneSeen (seen_at m1) w.placed 0 at → ReachesUip w old m1 chain longer at
  none-alone n = record { resolved = g; alone = λ k q h e y. absurd (false≢true (sym (n k q (omega arith) h e) ∙ y)) }

pub ResolvesDown-refl : (w : WatchValue) (m : List Bool) (chain : List ℕ) (at : ℕ) → IsTop w m at → ResolvesDown w m m chain chain at
ResolvesDown-refl w m chain at t = record { ids = []; grown = sym (append-nil chain); leads = λ l. refl; top = t; same = refl }

-- the loop of `refute`
module _ (w : WatchValue) (right : IsWatch w.vars w.clauses w.placed) (old m1 : List Bool) (chain longer : List ℕ) (end at : ℕ)
    (g : IsResolving w old m1 chain longer end at) (before : ℕ) (last : IsLastSeen (seen_at m1) w.placed at (Some before)) where
  -- a decided literal is passed over
  pub pass-decided : last.0.reason ≡ None → IsResolving w old m1 chain longer end before
  pass-decided none = record {
    ids = g.ids;
    grown = g.grown;
    leads = g.leads;
    left = λ k q lo hi f y.
        elim (cases_lt k at) [
          | inr ge ↦ g.left k q ge hi f y
          | inl lt ↦ elim (cases_lt before k) [
            | inl over ↦ absurd (false≢true (sym (last.4 k q (omega arith) lt f) ∙ y))
            | inr le ↦ let same : before ≡ k = omega arith in
                ap (λ (x : Placed). x.reason) (same_Some q last.0 (sym f ∙ ap (slice_get w.placed) (sym same) ∙ last.1)) ∙ none
          ]
        ];
    low = let a = last.2 in let b = g.low in omega (arith, a, b);
    same = g.same;
  }

  -- a literal with a reason is resolved away
  pub pass-resolved : (id : ℕ) (m2 : List Bool) (more : List ℕ) → last.0.reason ≡ Some id → Resolves w.clauses m1 m2 last.0.lit id
      → more ≡ longer ++ id ∷ [] → length m2 ≡ length m1 → IsResolving w old m2 chain more end before
  pass-resolved id m2 more e after q n =
      let below : before < end = let a = last.2 in let b = g.low in omega (arith, a, b) in record {
        ids = g.ids ++ id ∷ [];
        grown = q ∙ ap (λ xs. xs ++ id ∷ []) g.grown ∙ append_assoc chain g.ids (id ∷ []);
        leads = λ ps agree consistent. step-leads w right before last.0 last.1 id e m1 m2 last.3 after end ps (falsified (seen_at old) ps)
            g.ids below agree consistent (g.leads ps agree consistent);
        left = λ k z lo hi f y.
            elim (cases_lt k at) [
              | inl lt ↦ absurd (false≢true (sym (step-none w right before last.0 last.1 id e m1 m2 last.3 after at last.4 k z lo lt f)
                  ∙ y))
              | inr ge ↦
                  let a = seen_after-parts (seen_at m1) last.0.lit (c w right before last.0 last.1 id e) (var_of z.lit)
                  (sym (now w right before last.0 last.1 id e m1 m2 last.3 after (var_of z.lit)) ∙ y) in
                  elim a.1 [
                    | inl t ↦ g.left k z ge hi f t
                    | inr t ↦
                        absurd (not-above w right before last.0 last.1 id e k z (let u = last.2 in omega (arith, u, ge)) f t)
                  ]
            ];
        low = omega (arith, below);
        same = n ∙ g.same;
      }

-- nothing was resolved yet
pub IsResolving-start : (w : WatchValue) (m : List Bool) (chain : List ℕ) (end : ℕ) → IsResolving w m m chain chain end end
IsResolving-start w m chain end = record {
  ids = [];
  grown = sym (append-nil chain);
  leads = λ ps a k l. refl;
  left =
      λ k p lo hi f y. absurd (omega arith);
  low = omega arith;
  same = refl;
}
