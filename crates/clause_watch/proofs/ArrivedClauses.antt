-- A clause that has arrived: why its two literals guard it.
use Rattle.std.proofs.Common.{◌≡◌, ◌≢◌, ℕ, zero, suc, ◌<◌, ◌≤◌, true, false, List, [], ◌∷◌, ◌++◌, length, Some, inl, inr, refl, sym, ap, ◌∙◌, subst, arith}
use Rattle.std.specs.Prelude.{slice_get}
use Rattle.std.proofs.lemmas.Bool.{cases_Bool, cases_lt, false≢true, ne_eqb, eq-eqb}
use Rattle.std.proofs.lemmas.Option.{none-some, same_Some}
use Rattle.clause_store.specs.declared.Lit.{Lit}
use Rattle.clause_store.specs.Lits.{var_of, negation, has, IsClause}
use Rattle.clause_store.proofs.Sets.{one_sign}
use Rattle.proof_log.specs.Known.{has_var}
use Rattle.proof_log.proofs.Useful.{has-var}
use Rattle.clause_watch.specs.declared.trail.Placed.{Placed}
use Rattle.clause_watch.specs.declared.lists.Entry.{Entry}
use Rattle.clause_watch.specs.Trails.{TrailValue, lits_of, decisions, upto, next, placed_of, AreApart}
use Rattle.clause_watch.specs.Reasons.{Grown}
use Rattle.clause_watch.specs.Watches.{IsWatch}
use Rattle.clause_watch.specs.Lists.{IsListed}
use Rattle.clause_watch.specs.Picks.{AreFalseFrom, level_or, level_of, IsHighest, AreOf, WatchesPair, Follows}
use Rattle.clause_watch.specs.Watching.{IsTrueAt, IsGuarded, IsWatched}
use Rattle.clause_watch.proofs.Kept.{IsWatch-grown}
use Rattle.clause_watch.proofs.Places.{place-has, has-place, places-apart, places-same, place-upto, upto-place, consistent-from, get-front, get-last, settled-at}
use Rattle.clause_watch.proofs.Pairs.{true-now, true-more, Guards-open}
use Rattle.clause_watch.proofs.RowPlaces.{at-within}
use Rattle.clause_watch.proofs.Swaps.{at-has, has-at, same-from}
use Rattle.clause_watch.proofs.ListVisits.{cases-same}

-- the literal of a variable is the one at its place
placed-at : (ps : List Placed) (k : ℕ) (q : Placed) → AreApart ps → slice_get ps k ≡ Some q → placed_of ps (var_of q.lit) ≡ Some q
placed-at [] k q a e = absurd (none-some q e)
placed-at (p ∷ ps) zero q a e = let s = same_Some p q e in
    rw (eq-eqb (var_of p.lit) (var_of q.lit) (ap (λ (x : Placed). var_of x.lit) s)) (ap Some s)
placed-at (p ∷ ps) (suc k) q a e =
    rw (ne_eqb (var_of p.lit) (var_of q.lit) (places-apart (p ∷ ps) 0 (suc k) p q a (omega arith) refl e)) (placed-at ps k q a.1 e)

level-at : (ps : List Placed) (k : ℕ) (q : Placed) (l : Lit) → AreApart ps → slice_get ps k ≡ Some q → var_of q.lit ≡ var_of l
    → level_of ps l ≡ q.level
level-at ps k q l a e s = ap level_or (ap (placed_of ps) (sym s) ∙ placed-at ps k q a e)

-- each other literal of a clause is false, at no higher level
abbrev pub IsLone : List Placed → List Lit → Lit → ℕ → Type 0
IsLone ps c first n = (l : Lit) → has c l ≡ true → l ≢ first → (k : ℕ) × (q : Placed) × (slice_get ps k ≡ Some q) × (q.lit ≡ negation l)
    × (q.level ≤ n)

-- below the present level the clause was settled, so its literal is true there
lone-true : (vars : ℕ) (cs : List (List Lit)) (ps : List Placed) (place : ℕ) (c : List Lit) (first : Lit) (n : ℕ) → IsWatch vars cs ps
    → slice_get cs place ≡ Some c → IsLone ps c first n → n < decisions ps → IsTrueAt ps c n
lone-true vars cs ps place c first n w here lone lt =
    elim (settled-at (lits_of (upto n ps)) cs place c (w.settled n lt) here) [
      | inl t ↦
          let x = upto-place n ps t.lit t.holds in
          (x.0, x.1, x.2, subst (λ l. has c l ≡ true) (sym x.3) t.stands, x.4)
      | inr f ↦ elim (cases-same f.first first) [
        | inr ne ↦ absurd (fallen f.first f.has_first ne f.first_free)
        | inl e ↦ absurd (fallen f.second f.has_second (λ g. f.apart (ap var_of (e ∙ sym g))) f.second_free)
      ]
    ]
  where
    fallen : (l : Lit) → has c l ≡ true → l ≢ first → has_var (lits_of (upto n ps)) (var_of l) ≡ false → ⊥
    fallen l h ne free =
        let q = lone l h ne in
        false≢true (sym free ∙ has-var (lits_of (upto n ps)) (negation l)
        (subst (λ k. has (lits_of (upto n ps)) k ≡ true) q.3 (place-upto n ps q.0 q.1 q.2 q.4)))

-- the literals of other variables are false, and no level is above the second's
pub highest-lone : (ps : List Placed) (c : List Lit) (first second : Lit) → AreApart ps → IsClause c → has c first ≡ true
    → AreFalseFrom ps c 0 first → IsHighest ps c first second → IsLone ps c first (level_of ps second)
highest-lone ps c first second a i h f most l stands ne =
    let p = has-at c l stands in
    let apart : var_of l ≢ var_of first = λ e. ne (one_sign c l first i stands h e) in
    let q = has-place ps (negation l) (f p.0 l (omega arith) p.1 apart) in
    let m = most.most p.0 l p.1 apart in
    let e = level-at ps q.0 q.1 l a q.2 (ap var_of q.3) in
    (q.0, q.1, q.2, q.3, omega (arith, m, e))

-- the only literal of a clause is true at level 0
pub single-lone : (ps : List Placed) (c : List Lit) (first : Lit) → IsClause c → has c first ≡ true → AreOf c first → IsLone ps c first 0
single-lone ps c first i h o l stands ne = let p = has-at c l stands in absurd (ne (one_sign c l first i stands h (o p.0 l p.1)))

-- all others of a clause with one open literal are false
pub lone-others : (ps : List Placed) (c : List Lit) (first : Lit) (n : ℕ) → IsLone ps c first n → (l : Lit) → has c l ≡ true → l ≢ first
    → has (lits_of ps) (negation l) ≡ true
lone-others ps c first n lone l h ne =
    let q = lone l h ne in
    subst (λ k. has (lits_of ps) k ≡ true) q.3 (place-has ps q.0 q.1 q.2)

-- a literal that follows is true
pub follows-true : (old new : TrailValue) (l : Lit) (id : ℕ) → Follows old new l id → has (lits_of new.placed) l ≡ true
follows-true old new l id (inl s) = ap (λ (t : TrailValue). has (lits_of t.placed) l) s.0 ∙ s.1
follows-true old new l id (inr s) =
    let p = next old.placed l (Some id) in
    ap (λ (t : TrailValue). has (lits_of t.placed) l) s.0
    ∙ place-has (old.placed ++ p ∷ []) (length old.placed) p (get-last old.placed p)

-- afterwards the clause is true at no higher level
module _ (cs : List (List Lit)) (old new : TrailValue) (place id : ℕ) (c : List Lit) (first : Lit) (n : ℕ)
    (w : IsWatch old.vars cs old.placed) (g : Grown cs old new) (here : slice_get cs place ≡ Some c) (stands : has c first ≡ true)
    (lone : IsLone old.placed c first n) (f : Follows old new first id) where
  after : IsWatch new.vars cs new.placed
  after = IsWatch-grown cs cs old new refl w g

  -- so its clause is true at the level of the last false literal
  pub lone-follows : IsTrueAt new.placed c n
  lone-follows = elim (cases_lt n (decisions old.placed)) [
    | inl lt ↦ subst (λ ps. IsTrueAt ps c n) (sym g.is)
        (true-more old.placed g.more c n (lone-true old.vars cs old.placed place c first n w here lone lt))
    | inr ge ↦ true-now new.placed c first n after.orderly.levels (omega (arith, ge, g.same_depth)) stands
        (follows-true old new first id f)
  ]

  -- so it guards its clause with that literal
  pub lone-guarded : (second : Lit) (head : ℕ) → has c second ≡ true → var_of second ≢ var_of first → n ≡ level_of old.placed second
      → IsGuarded new.placed head c first second
  lone-guarded second head has_second ne level = record {
    has_first = stands;
    has_second = has_second;
    apart = λ e. ne (sym e);
    first = Guards-open new.placed head c first not-false;
    second = λ k q lt e l.
        let b = lone second has_second (λ s. ne (ap var_of s)) in
        let later = subst (λ ps. slice_get ps b.0 ≡ Some b.1) (sym g.is) (get-front old.placed g.more b.0 b.1 b.2) in
        let s = places-same new.placed b.0 k b.1 q after.orderly.apart later e (ap var_of (b.3 ∙ sym l)) in
        let m = level-at old.placed b.0 b.1 second w.orderly.apart b.2 (ap var_of b.3) in
        let r : b.1.level ≡ q.level = ap (λ (x : Placed). x.level) s.1 in
        let t : n ≡ q.level = omega (arith, level, m, r) in
        subst (IsTrueAt new.placed c) t lone-follows;
  }
    where
      not-false : has (lits_of new.placed) (negation first) ≡ false
      not-false = elim (cases_Bool (has (lits_of new.placed) (negation first))) [
        | inr x ↦ x
        | inl x ↦ absurd (consistent-from new.placed after.orderly.apart first (follows-true old new first id f) x)
      ]

-- the order of a pair
pub pair-watched : (ps : List Placed) (head : ℕ) (table : List (List Entry)) (place : ℕ) (c order : List Lit) (first second : Lit)
    → WatchesPair c first second order → IsListed table first place → IsListed table second place → IsGuarded ps head c first second
    → IsWatched ps head table place c order
pair-watched ps head table place c order first second o x y g = record {
  same = o.same;
  single = λ few. absurd (let n = at-within order 1 second o.next in omega (arith, n, few));
  pair = λ a b e f. subst (λ l. IsGuarded ps head c l b) (same_Some first a (sym o.here ∙ e))
      (subst (IsGuarded ps head c first) (same_Some second b (sym o.next ∙ f)) g);
  first = λ a b e f. subst (λ l. IsListed table l place) (same_Some first a (sym o.here ∙ e)) x;
  second = λ a b e f. subst (λ l. IsListed table l place) (same_Some second b (sym o.next ∙ f)) y;
}

-- a single literal
pub single-watched : (ps : List Placed) (head : ℕ) (table : List (List Entry)) (place : ℕ) (c : List Lit) (first : Lit) → IsClause c
    → has c first ≡ true → AreOf c first → IsTrueAt ps c 0 → IsWatched ps head table place c (first ∷ [])
single-watched ps head table place c first i h o t = record {
  same = same-from (first ∷ []) c
      (λ l x. let p = has-at (first ∷ []) l x in subst (λ k. has c k ≡ true) (only p.0 l p.1) h)
      (λ l x. let p = has-at c l x in at-has (first ∷ []) 0 l (ap Some (sym (one_sign c l first i x h (o p.0 l p.1)))));
  single = λ _. t;
  pair = λ a b e f. absurd (none-some b f);
  first = λ a b e f. absurd (none-some b f);
  second = λ a b e f. absurd (none-some b f);
}
  where
    only : (k : ℕ) (l : Lit) → slice_get (first ∷ []) k ≡ Some l → first ≡ l
    only zero l e = same_Some first l e
    only (suc k) l e = absurd (none-some l e)
