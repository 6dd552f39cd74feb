-- What the analysis leaves is a learnt clause.
use Rattle.std.proofs.Common.{◌≡◌, ◌≢◌, ℕ, zero, suc, ◌-◌, ◌<◌, ◌≤◌, Bool, true, false, leb, ◌||◌, List, [], ◌∷◌, length, Some, None, ◌⊎◌, inl, inr, refl, sym, ap, ◌∙◌, subst, arith}
use Rattle.std.specs.Prelude.{slice_get}
use Rattle.std.specs.Option.{option_map}
use Rattle.std.proofs.lemmas.Bool.{cases_Bool, cases_lt, or_left, or_right, false≢true, eq-eqb, ne_eqb, le-leb}
use Rattle.std.proofs.lemmas.Option.{none-some, same_Some}
use Rattle.clause_store.specs.declared.Lit.{Lit}
use Rattle.clause_store.specs.Lits.{var_of, negation, has, lit_eq, clause_of, AllBelow, SameLits}
use Rattle.clause_store.specs.Clauses.{at_id}
use Rattle.proof_log.specs.Known.{has_var}
use Rattle.proof_log.specs.Derivations.{IsDerived}
use Rattle.proof_log.specs.Usefulness.{IsConsistent, IsUseful}
use Rattle.proof_log.proofs.Ids.{at_id-get}
use Rattle.clause_store.proofs.Sets.{lit_eq-refl, negation-twice, same_or_opposite, OneSign, has-with_lits}
use Rattle.proof_log.proofs.Without.{union-clash}
use Rattle.proof_log.proofs.Useful.{has-var}
use Rattle.clause_watch.specs.declared.trail.Placed.{Placed}
use Rattle.clause_watch.specs.Trails.{lits_of, decisions, upto, placed_of, AreApart}
use Rattle.clause_watch.specs.Reasons.{IsFalse}
use Rattle.clause_watch.specs.Watches.{WatchValue, IsWatch, IsAddable}
use Rattle.clause_watch.proofs.Undone.{decisions-upto}
use Rattle.clause_solver.specs.Seen.{seen_at, AreSeen, AreClear, NoneSeen, IsLastSeen, falsified}
use Rattle.clause_solver.specs.Learning.{IsTop, ReachesUip, IsBackjumpLevel}
use Rattle.clause_watch.proofs.Places.{has-place, place-has, place-below, place-within, places-apart, places-same, levels-rise, level-most, consistent-from, place-upto, upto-place, has_var-lit, settled-at}
use Rattle.clause_solver.proofs.Resolving.{falsified-parts, falsified-from, seen-derive}

-- where an analysis starts
module _ (w : WatchValue) (right : IsWatch w.vars w.clauses w.placed) (above : 0 < decisions w.placed) (id : ℕ) (c : List Lit)
    (known : at_id w.clauses id ≡ Some c) (false-here : IsFalse w.placed c)
    (clear m : List Bool) (unseen : AreClear clear) (is_seen : AreSeen clear m c) where
  -- what is seen at first are the variables of the false clause
  pub seen-are : (x : ℕ) → seen_at m x ≡ has_var c x
  seen-are x = is_seen x ∙ ap (λ b. b || has_var c x) (unseen x)

  -- a literal of the last level is seen
  last-one : (k : ℕ) × (p : Placed) × (slice_get w.placed k ≡ Some p) × (seen_at m (var_of p.lit) ≡ true) × (p.level ≡ decisions w.placed)
  last-one =
      elim (settled-at (lits_of (upto (decisions w.placed - 1) w.placed)) w.clauses (id - 1) c
      (right.settled (decisions w.placed - 1) (omega arith)) (at_id-get w.clauses id c known).1) [
        | inl t ↦
            let u = upto-place (decisions w.placed - 1) w.placed t.lit t.holds in
            absurd (consistent-from w.placed right.orderly.apart t.lit (rw (← u.3) (place-has w.placed u.0 u.1 u.2))
            (false-here t.lit t.stands))
        | inr f ↦
            let q = has-place w.placed (negation f.first) (false-here f.first f.has_first) in
            let v : var_of q.1.lit ≡ var_of f.first = ap var_of q.3 in
            let most = level-most 0 w.placed q.0 q.1 right.orderly.levels q.2 in (
              q.0,
              q.1,
              q.2,
              seen-are (var_of q.1.lit) ∙ ap (has_var c) v ∙ has-var c f.first f.has_first,
              elim (cases_lt (decisions w.placed - 1) q.1.level) [
                | inl hi ↦ omega (arith, most, hi)
                | inr lo ↦ absurd (false≢true (sym f.first_free
                    ∙ subst (λ n. has_var (lits_of (upto (decisions w.placed - 1) w.placed)) n ≡ true) v
                    (has-var (lits_of (upto (decisions w.placed - 1) w.placed)) q.1.lit
                    (place-upto (decisions w.placed - 1) w.placed q.0 q.1 q.2 lo))))
              ],
            )
      ]

  -- some variable of the trail is seen
  pub start-some : NoneSeen (seen_at m) w.placed 0 (length w.placed) → ⊥
  start-some n = let o = last-one in false≢true (sym (n o.0 o.1 (omega arith) (place-within w.placed o.0 o.1 o.2) o.2) ∙ o.3)

  -- the last seen place is of the last level
  pub start-top : (start : ℕ) → IsLastSeen (seen_at m) w.placed (length w.placed) (Some start) → IsTop w m start
  start-top start last =
      let o = last-one in record {
        within = λ x t.
            let l = has_var-lit c x (sym (seen-are x) ∙ t) in
            subst (λ n. has_var (lits_of w.placed) n ≡ true) l.2 (has-var (lits_of w.placed) (negation l.0) (false-here l.0 l.1));
        place = last.0;
        here = last.1;
        is_seen = last.3;
        above = last.4;
        last = elim (cases_lt start o.0) [
          | inl hi ↦ absurd (false≢true (sym (last.4 o.0 o.1 (omega arith) (place-within w.placed o.0 o.1 o.2) o.2) ∙ o.3))
          | inr ge ↦ elim (cases_lt o.0 start) [
            | inl lo ↦
                let r = levels-rise 0 w.placed o.0 start o.1 last.0 right.orderly.levels lo o.2 last.1 in
                let s = level-most 0 w.placed start last.0 right.orderly.levels last.1 in
                let l = o.4 in omega (arith, r, s, l)
            | inr le ↦
                let y : start ≡ o.0 = omega arith in
                ap (λ (x : Placed). x.level) (same_Some last.0 o.1 (sym last.1 ∙ ap (slice_get w.placed) y ∙ o.2)) ∙ o.4
          ]
        ];
      }

AllBelow-from : (n : ℕ) (c : List Lit) → ((l : Lit) → has c l ≡ true → var_of l < n) → AllBelow n c
AllBelow-from n [] f = tt
AllBelow-from n (l ∷ c) f =
    (f l (or_left (lit_eq l l) (has c l) (lit_eq-refl l)), AllBelow-from n c (λ k h. f k (or_right (lit_eq l k) (has c k) h)))

has_var-upto : (b : ℕ) (ps : List Placed) (x : ℕ) → has_var (lits_of ps) x ≡ false → has_var (lits_of (upto b ps)) x ≡ false
has_var-upto b ps x h =
    elim (cases_Bool (has_var (lits_of (upto b ps)) x)) [
      | inr f ↦ f
      | inl t ↦
          let l = has_var-lit (lits_of (upto b ps)) x t in
          let q = upto-place b ps l.0 l.1 in
          absurd (false≢true (sym h ∙ subst (λ n. has_var (lits_of ps) n ≡ true) (ap var_of q.3 ∙ l.2)
          (has-var (lits_of ps) q.1.lit (place-has ps q.0 q.1 q.2))))
    ]

-- the placed literal of a variable, up to its level
pub placed_of-upto : (b : ℕ) (ps : List Placed) (k : ℕ) (q : Placed) → AreApart ps → slice_get ps k ≡ Some q → q.level ≤ b
    → placed_of (upto b ps) (var_of q.lit) ≡ Some q
placed_of-upto b [] k q a e le = absurd (none-some q e)
placed_of-upto b (p ∷ ps) zero q a e le =
    let s : p ≡ q = same_Some p q e in
    let t : p.level ≤ b = rw s le in
    rw (le-leb p.level b t, eq-eqb (var_of p.lit) (var_of q.lit) (ap (λ (x : Placed). var_of x.lit) s)) (ap Some s)
placed_of-upto b (p ∷ ps) (suc k) q a e le =
    let ih = placed_of-upto b ps k q a.1 e le in
    let ne : var_of p.lit ≢ var_of q.lit = places-apart (p ∷ ps) 0 (suc k) p q a (omega arith) refl e in
    elim (cases_Bool (leb p.level b)) [
      | inl t ↦ rw (t, ne_eqb (var_of p.lit) (var_of q.lit) ne) ih
      | inr f ↦ rw f ih
    ]

module _ (w : WatchValue) (right : IsWatch w.vars w.clauses w.placed) (above : 0 < decisions w.placed) (old new : List Bool) (conflict : ℕ)
    (longer : List ℕ) (at : ℕ)
    (g : ReachesUip w old new (conflict ∷ []) longer at) where
  consistent : IsConsistent (lits_of w.placed)
  consistent = consistent-from w.placed right.orderly.apart

  module _ (front : List Lit) (e : SameLits front (falsified (seen_at new) w.placed)) where
    one-sign : OneSign front
    one-sign l k h j q =
        let a = falsified-parts (seen_at new) w.placed l (sym (e l) ∙ h) in
        let b = falsified-parts (seen_at new) w.placed k (sym (e k) ∙ j) in
        elim (same_or_opposite l k q) [
          | inl s ↦ s
          | inr s ↦ absurd (consistent (negation l) a.1 (ap (λ x. has (lits_of w.placed) (negation x)) (sym s) ∙ b.1))
        ]

    pub lits-below : AllBelow w.vars front
    lits-below = AllBelow-from w.vars front (λ l h. let r =
        has-place w.placed (negation l) (falsified-parts (seen_at new) w.placed l (sym (e l) ∙ h)).1 in
        subst (λ (x : Lit). var_of x < w.vars) r.3 (place-below w.vars w.placed r.0 r.1 right.orderly.in_table r.2))

    pub clause-some : clause_of front ≡ None → ⊥
    clause-some n = false≢true (union-clash [] front one-sign n).2

  module _ (front clause : List Lit) (e : SameLits front (falsified (seen_at new) w.placed)) (made : clause_of front ≡ Some clause) where
    stands : (l : Lit) → has clause l ≡ has (falsified (seen_at new) w.placed) l
    stands l = has-with_lits [] front clause l made ∙ or-false (has front l) ∙ e l
      where
        or-false : (b : Bool) → (b || false) ≡ b
        or-false true = refl
        or-false false = refl

    parts : (l : Lit) → has clause l ≡ true → (seen_at new (var_of l) ≡ true) × (has (lits_of w.placed) (negation l) ≡ true)
    parts l h = falsified-parts (seen_at new) w.placed l (sym (stands l) ∙ h)

    from : (k : ℕ) (q : Placed) → slice_get w.placed k ≡ Some q → seen_at new (var_of q.lit) ≡ true → has clause (negation q.lit) ≡ true
    from k q f t = stands (negation q.lit) ∙ falsified-from (seen_at new) w.placed (negation q.lit) t
        (ap (has (lits_of w.placed)) (negation-twice q.lit) ∙ place-has w.placed k q f)

    module _ (c : List Lit) (known : at_id w.clauses conflict ≡ Some c) (false-here : IsFalse w.placed c) (start : (x : ℕ)
        → seen_at old x ≡ has_var c x) (level : ℕ) (b : IsBackjumpLevel w.placed front level) where
      abbrev p : Placed
      p = g.resolved.top.place

      below : level < decisions w.placed
      below = elim b.attained [
        | inl z ↦ omega (arith, z, above)
        | inr q ↦ q.5
      ]

      free : has_var (lits_of (upto level w.placed)) (var_of p.lit) ≡ false
      free =
          elim (cases_Bool (has_var (lits_of (upto level w.placed)) (var_of p.lit))) [
            | inr f ↦ f
            | inl t ↦
                let l = has_var-lit (lits_of (upto level w.placed)) (var_of p.lit) t in
                let q = upto-place level w.placed l.0 l.1 in
                let s = places-same w.placed q.0 at q.1 p right.orderly.apart q.2 g.resolved.top.here (ap var_of q.3 ∙ l.2) in
                let n : q.1.level ≡ p.level = ap (λ (x : Placed). x.level) s.1 in
                let le = q.4 in
                let top = g.resolved.top.last in
                absurd (omega (arith, n, le, top, below))
          ]

      others : (l : Lit) → has clause l ≡ true → l ≢ negation p.lit → has (lits_of (upto level w.placed)) (negation l) ≡ true
      others l h ne =
          let a = parts l h in
          let q = has-place w.placed (negation l) a.1 in
          let t : seen_at new (var_of q.1.lit) ≡ true = ap (λ (x : Lit). seen_at new (var_of x)) q.3 ∙ a.0 in
          elim (cases_lt q.0 at) [
            | inl lo ↦
                let v : var_of l ≡ var_of q.1.lit = ap var_of (sym q.3) in
                let there : has_var front (var_of q.1.lit) ≡ true = ap (has_var front) (sym v)
                ∙ has-var front l (e l ∙ sym (stands l) ∙ h) in
                rw (← q.3) (place-upto level w.placed q.0 q.1 q.2 (b.bound q.0 q.1 q.2 there (g.alone q.0 q.1 lo q.2 t)))
            | inr ge ↦ elim (cases_lt at q.0) [
              | inl hi ↦ absurd (false≢true (sym (g.resolved.top.above q.0 q.1 (omega arith) (place-within w.placed q.0 q.1 q.2) q.2) ∙ t))
              | inr le ↦
                  let y : at ≡ q.0 = omega arith in
                  let s : p ≡ q.1 = same_Some p q.1 (sym g.resolved.top.here ∙ ap (slice_get w.placed) y ∙ q.2) in
                  absurd (ne (sym (negation-twice l) ∙ ap negation (sym q.3 ∙ ap (λ (x : Placed). x.lit) (sym s))))
            ]
          ]

      has-first : has clause (negation p.lit) ≡ true
      has-first = from at p g.resolved.top.here g.resolved.top.is_seen

      pub learnt : (chain : List ℕ) → chain ≡ longer → AllBelow w.vars clause × IsDerived w.clauses chain clause × IsUseful w.clauses clause
          × (level < decisions w.placed) × ((level ≡ 0) ⊎ IsAddable (upto level w.placed) clause)
      learnt chain q = (
        AllBelow-from w.vars clause (λ l h. let r = has-place w.placed (negation l) (parts l h).1 in
            subst (λ (x : Lit). var_of x < w.vars) r.3 (place-below w.vars w.placed r.0 r.1 right.orderly.in_table r.2)),
        subst (λ xs. IsDerived w.clauses xs clause) (sym (q ∙ g.resolved.grown))
            (seen-derive w.clauses w.placed (seen_at old) (seen_at new) conflict c clause g.resolved.ids known consistent false-here start
            g.resolved.leads (λ l h. stands l ∙ h)),
        record {
          lit = negation p.lit;
          stands = has-first;
          given = lits_of (upto level w.placed);
          consistent = λ l h k.
              let x = upto-place level w.placed l h in
              let y = upto-place level w.placed (negation l) k in
              consistent l (rw (← x.3) (place-has w.placed x.0 x.1 x.2)) (rw (← y.3) (place-has w.placed y.0 y.1 y.2));
          free = free;
          others = others;
          settled = right.settled level below;
        },
        below,
        elim b.attained [
          | inl z ↦ inl z
          | inr r ↦
              let d : decisions (upto level w.placed) ≡ level = let m = decisions-upto level w.placed right.orderly.levels in
              omega (arith, m, below) in
              let le : r.1.level ≤ level = let l = r.4 in omega (arith, l) in
              let k = has_var-lit front (var_of r.1.lit) r.3 in
              let t : seen_at new (var_of r.1.lit) ≡ true = ap (seen_at new) (sym k.2)
              ∙ (falsified-parts (seen_at new) w.placed k.0 (sym (e k.0) ∙ k.1)).0 in
              inr (record {
                free = negation p.lit;
                has_free = has-first;
                is_free = free;
                others = others;
                last = negation r.1.lit;
                has_last = from r.0 r.1 r.2 t;
                last_level = ap (option_map (λ (x : Placed). x.level)) (placed_of-upto level w.placed r.0 r.1 right.orderly.apart r.2 le)
                    ∙ ap Some (r.4 ∙ sym d);
              })
        ],
      )

pub length-lits : (ps : List Placed) (ls : List Lit) → ls ≡ lits_of ps → length ls ≡ length ps
length-lits ps ls e = ap length e ∙ along ps
  where
    along : (qs : List Placed) → length (lits_of qs) ≡ length qs
    along [] = refl
    along (q ∷ qs) = ap suc (along qs)
