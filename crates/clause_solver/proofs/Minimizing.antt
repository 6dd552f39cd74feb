-- A seen literal of level 0 is resolved away once the analysis is done.
use Rattle.std.proofs.Common.{◌≡◌, ◌≢◌, ℕ, ◌+◌, ◌<◌, ◌≤◌, Bool, true, not, ◌&&◌, ◌||◌, eqb, List, [], ◌∷◌, ◌++◌, length, Option, Some, None, ◌⊎◌, inl, inr, refl, sym, ap, ◌∙◌, append_assoc, arith}
use Rattle.std.specs.Prelude.{slice_get, option_and_then}
use Rattle.std.specs.Option.{option_map}
use Rattle.std.proofs.lemmas.Bool.{cases_Bool, cases_lt, false≢true}
use Rattle.std.proofs.lemmas.Option.{none-some, same_Some}
use Rattle.clause_store.specs.declared.Lit.{Lit}
use Rattle.clause_store.specs.Lits.{var_of}
use Rattle.proof_log.specs.Known.{has_var}
use Rattle.clause_watch.specs.declared.trail.Placed.{Placed}
use Rattle.clause_watch.specs.Trails.{decisions, placed_of}
use Rattle.clause_watch.specs.Watches.{WatchValue, IsWatch}
use Rattle.clause_watch.proofs.Places.{place-within, places-apart, places-same, levels-rise, consistent-from}
use Rattle.clause_solver.specs.Seen.{seen_at, falsified}
use Rattle.clause_solver.specs.Learning.{IsKnown, Resolves, KeepsUip, IsLevelZeroReason}
use Rattle.clause_solver.proofs.Resolving.{seen_after-parts, seen_after-from}
use Rattle.clause_solver.proofs.Steps.{c, in-front, not-above, now, reason-known, step-within, step-leads}
use Rattle.clause_solver.proofs.Levels.{place-there}

pub KeepsUip-trans : (w : WatchValue) (a b d : List Bool) (x y z : List ℕ) → KeepsUip w a b x y → KeepsUip w b d y z
    → KeepsUip w a d x z
KeepsUip-trans w a b d x y z f g old first h = g old first (f old first h)

-- the place of a variable's value
pub low-reason : (w : WatchValue) (right : IsWatch w.vars w.clauses w.placed) (l : Lit) (n id : ℕ) → n ≤ 0
    → Some n ≡ option_map (λ (p : Placed). p.level) (placed_of w.placed (var_of l))
    → Some id ≡ option_and_then (λ (p : Placed). p.reason) (placed_of w.placed (var_of l)) → IsLevelZeroReason w.placed l id
low-reason w right l n id z e f = by-option (placed_of w.placed (var_of l)) refl
  where
    by-option : (q : Option Placed) → placed_of w.placed (var_of l) ≡ q → IsLevelZeroReason w.placed l id
    by-option None r = absurd (none-some n (sym (e ∙ ap (option_map (λ (p : Placed). p.level)) r)))
    by-option (Some p) r =
        let s = place-there w.vars w.placed right.orderly (var_of l) p r in
        let v : n ≡ p.level = same_Some n p.level (e ∙ ap (option_map (λ (q : Placed). q.level)) r) in
        (s.0, p, s.1, s.2, omega (arith, v, z), sym (f ∙ ap (option_and_then (λ (q : Placed). q.reason)) r))

module _ (w : WatchValue) (right : IsWatch w.vars w.clauses w.placed) (above : 0 < decisions w.placed) (m1 m2 : List Bool) (l : Lit)
    (id : ℕ) (s : IsLevelZeroReason w.placed l id)
    (is_seen : seen_at m1 (var_of l) ≡ true) (resolves : Resolves w.clauses m1 m2 l id) (same : length m2 ≡ length m1) where
  k : ℕ
  k = s.0

  abbrev p : Placed
  p = s.1

  here : slice_get w.placed k ≡ Some p
  unfolding k
  here = s.2

  reason : p.reason ≡ Some id
  reason = s.5

  is_seen-here : seen_at m1 (var_of p.lit) ≡ true
  is_seen-here = ap (seen_at m1) s.3 ∙ is_seen

  after : Resolves w.clauses m1 m2 p.lit id
  after d e x = resolves d e x ∙ ap (λ n. not (eqb x n) && (seen_at m1 x || has_var d x)) (sym s.3)

  reason-clause : List Lit
  reason-clause = c w right k p here id reason

  parts : (x : ℕ) → seen_at m2 x ≡ true → (x ≢ var_of p.lit) × ((seen_at m1 x ≡ true) ⊎ (has_var reason-clause x ≡ true))
  unfolding reason-clause
  parts x t = seen_after-parts (seen_at m1) p.lit (c w right k p here id reason) x
      (sym (now w right k p here id reason m1 m2 is_seen-here after x) ∙ t)

  -- one more id of the chain, with which a literal of level 0 was resolved away
  pub low-keeps : (chain longer : List ℕ) → longer ≡ chain ++ id ∷ [] → KeepsUip w m1 m2 chain longer
  unfolding reason-clause
  low-keeps chain longer grown old first g =
      let at = g.0 in
      let t = g.1.resolved.top in
      let low = s.4 in
      let last = t.last in
      let under : k < at = elim (cases_lt k at) [
        | inl lt ↦ lt
        | inr ge ↦ elim (cases_lt at k) [
          | inl hi ↦ absurd (false≢true (sym (t.above k p (omega arith) (place-within w.placed k p here) here) ∙ is_seen-here))
          | inr le ↦
              let e : at ≡ k = omega arith in
              let n : t.place.level ≡ p.level = ap (λ (r : Placed). r.level)
              (same_Some t.place p (sym t.here ∙ ap (slice_get w.placed) e ∙ here)) in
              absurd (omega (arith, n, low, last, above))
        ]
      ] in (
        at,
        record {
          resolved = record {
            ids = g.1.resolved.ids ++ id ∷ [];
            grown = grown ∙ ap (λ xs. xs ++ id ∷ []) g.1.resolved.grown ∙ append_assoc first g.1.resolved.ids (id ∷ []);
            leads = step-leads w right k p here id reason m1 m2 is_seen-here after (k + 1) w.placed (falsified (seen_at old) w.placed)
                g.1.resolved.ids (omega arith) refl (consistent-from w.placed right.orderly.apart) g.1.resolved.leads;
            top = record {
              within = step-within w right k p here id reason m1 m2 is_seen-here after t.within;
              place = t.place;
              here = t.here;
              is_seen = now w right k p here id reason m1 m2 is_seen-here after (var_of t.place.lit)
                  ∙ seen_after-from (seen_at m1) p.lit (c w right k p here id reason) (var_of t.place.lit)
                  (λ e. places-apart w.placed k at p t.place right.orderly.apart under here t.here (sym e)) (inl t.is_seen);
              above = λ j q lo hi f. elim (cases_Bool (seen_at m2 (var_of q.lit))) [
                | inr n ↦ n
                | inl y ↦ absurd (elim (parts (var_of q.lit) y).1 [
                  | inl z ↦ false≢true (sym (t.above j q lo hi f) ∙ z)
                  | inr z ↦
                      not-above w right k p here id reason j q (omega (arith, under, lo)) f z
                ])
              ];
              last = t.last;
            };
            same = same ∙ g.1.resolved.same;
          };
          alone = λ j q lt f y. elim (parts (var_of q.lit) y).1 [
            | inl z ↦ g.1.alone j q lt f z
            | inr z ↦
                let r = in-front w right k p here id reason (var_of q.lit) z in
                let u = places-same w.placed r.0 j r.1 q right.orderly.apart r.3 f r.4 in
                let le : j ≤ k = let i = r.2 in let e = u.0 in omega (arith, i, e) in
                elim (cases_lt j k) [
                  | inl lo ↦ let v = levels-rise 0 w.placed j k q p right.orderly.levels lo f here in omega (arith, v, low, above)
                  | inr ge ↦
                      let e : j ≡ k = omega (arith, le, ge) in
                      let n : q.level ≡ p.level = ap (λ (x : Placed). x.level) (same_Some q p (sym f ∙ ap (slice_get w.placed) e ∙ here)) in
                      omega (arith, n, low, above)
                ]
          ];
        },
      )

-- the reason of a literal of level 0 is a known clause
pub low-known : (w : WatchValue) → IsWatch w.vars w.clauses w.placed → (l : Lit) (id : ℕ) → IsLevelZeroReason w.placed l id
    → IsKnown w.clauses id
low-known w right l id s = reason-known w right s.0 s.1 s.2 id s.5
