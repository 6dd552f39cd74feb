-- What a queue keeps, as the watch changes.
use Rattle.std.proofs.Common.{◌≡◌, ℕ, zero, suc, ◌+◌, ◌-◌, ◌<◌, ◌≤◌, min, List, [], ◌∷◌, ◌++◌, length, Some, None, ◌⊎◌, inl, inr, refl, sym, ap, ◌∙◌, subst, append_assoc, length-append, arith}
use Rattle.std.specs.Prelude.{slice_get}
use Rattle.std.proofs.lemmas.Bool.{cases_lt}
use Rattle.std.proofs.lemmas.List.{append-nil}
use Rattle.std.proofs.lemmas.Option.{none-some, same_Some}
use Rattle.clause_store.specs.declared.Lit.{Lit}
use Rattle.proof_log.specs.Usefulness.{IsSettled, TrueLit, FreePair}
use Rattle.clause_watch.specs.declared.trail.Placed.{Placed}
use Rattle.clause_watch.specs.declared.queue.Queue.{Queue}
use Rattle.clause_watch.specs.declared.lists.Entry.{Entry}
use Rattle.clause_watch.specs.Trails.{TrailValue, lits_of, decisions, upto, trail_upto, next, HasLevels, free_left}
use Rattle.clause_watch.specs.Reasons.{ArePlaced, Grown}
use Rattle.clause_watch.specs.Watches.{IsWatch}
use Rattle.clause_watch.specs.Lists.{AreEmpty, TableGrows}
use Rattle.clause_watch.specs.Watching.{IsGuarded, IsFresh, IsWatched, AreWatched, IsKept, IsWatching, ArePassed}
use Rattle.clause_watch.proofs.Propagated.{free_left-less}
use Rattle.clause_watch.proofs.Undone.{upto-whole}
use Rattle.clause_watch.proofs.Pairs.{true-lit, true-more, true-upto, guarded-push, guarded-upto, guarded-settled}
use Rattle.clause_watch.proofs.Fresh.{fresh-decide, fresh-undo, fresh-placed}
use Rattle.clause_watch.proofs.RowPlaces.{at-within, at-front, at-back, at-parts, at-there}

-- nothing is known
pub kept-none : (vars : ℕ) (table : List (List Entry)) → length table ≡ vars + vars → AreEmpty table → IsKept vars [] [] table [] 0
kept-none vars table e n = record {
  tables = e;
  entries = λ l j x q. absurd (none-some x (ap (λ r. slice_get r j) (sym (n _)) ∙ q));
  arrived = omega arith;
  looked = omega arith;
  fresh = λ k q le g. absurd (none-some q g);
  watched = λ k o c e f. absurd (none-some c f);
}

module _ (vars : ℕ) (cs : List (List Lit)) (table : List (List Entry)) (watched_lits : List (List Lit)) where
  -- the trail grows
  pub watched-more : (ps qs : List Placed) (head : ℕ) → head ≤ length ps → AreWatched cs ps table watched_lits head
      → AreWatched cs (ps ++ qs) table watched_lits head
  watched-more ps qs head le w k o c e f =
      let x = w k o c e f in record {
        same = x.same;
        single = λ h. true-more ps qs c 0 (x.single h);
        pair = λ a b g h. guarded-push ps qs head c a b le (x.pair a b g h);
        first = x.first;
        second = x.second;
      }

  -- propagated literals leave the queue right
  pub kept-placed : (ps more : List Placed) (head : ℕ) → ArePlaced cs vars ps more → IsKept vars cs ps table watched_lits head
      → IsKept vars cs (ps ++ more) table watched_lits head
  kept-placed ps more head a k = record {
    tables = k.tables;
    entries = k.entries;
    arrived = k.arrived;
    looked = let h = k.looked in omega (arith, h, length-append ps more);
    fresh = fresh-placed cs vars ps more head a k.fresh;
    watched = watched-more ps more head k.looked k.watched;
  }

  -- a decision, where all places were looked at
  pub kept-decided : (ps : List Placed) (l : Lit) (head : ℕ) → head ≡ length ps → IsKept vars cs ps table watched_lits head
      → IsKept vars cs (ps ++ next ps l None ∷ []) table watched_lits head
  kept-decided ps l head all k = record {
    tables = k.tables;
    entries = k.entries;
    arrived = k.arrived;
    looked = let h = k.looked in omega (arith, h, length-append ps (next ps l None ∷ []));
    fresh = subst (IsFresh (ps ++ next ps l None ∷ [])) (sym all) (fresh-decide ps l);
    watched = watched-more ps (next ps l None ∷ []) head k.looked k.watched;
  }

  -- backtracking
  pub kept-upto : (ps : List Placed) (level head lower : ℕ) → HasLevels 0 ps → IsKept vars cs ps table watched_lits head
      → lower ≡ min head (length (upto level ps)) → IsKept vars cs (upto level ps) table watched_lits lower
  kept-upto ps level head lower h k e = record {
    tables = k.tables;
    entries = k.entries;
    arrived = k.arrived;
    looked = omega (arith, e);
    fresh = elim (cases_lt level (decisions ps)) [
      | inl lt ↦ fresh-undo level ps head lower h lt k.fresh (elim (cases_lt head (length (upto level ps))) [
        | inl less ↦ inl (omega (arith, e, less))
        | inr ge ↦ inr (omega (arith, e, ge))
      ])
      | inr ge ↦
          let whole = upto-whole 0 level ps h (omega (arith, ge)) in
          let same : lower ≡ head = let s = ap length whole in let w = k.looked in omega (arith, e, s, w) in
          subst (λ xs. IsFresh xs lower) (sym whole) (subst (IsFresh ps) (sym same) k.fresh)
    ];
    watched = λ i o c x0 f.
        let x = k.watched i o c x0 f in record {
          same = x.same;
          single = λ g. true-upto level ps c 0 h (omega arith) (x.single g);
          pair = λ a b g j. guarded-upto level ps head lower c a b h (omega (arith, e)) (x.pair a b g j);
          first = x.first;
          second = x.second;
        };
  }

  -- the next place is the head
  pub kept-passed : (ps : List Placed) (head : ℕ) → head < length ps → IsKept vars cs ps table watched_lits head
      → ArePassed cs ps watched_lits head
      → IsKept vars cs ps table watched_lits (head + 1)
  kept-passed ps head lt k p = record {
    tables = k.tables;
    entries = k.entries;
    arrived = k.arrived;
    looked = omega (arith, lt);
    fresh = λ j q le e. k.fresh j q (omega (arith, le)) e;
    watched = λ i o c e f.
        let x = k.watched i o c e f in record {
          same = x.same;
          single = x.single;
          pair = λ a b g h. p i o c a b e f g h;
          first = x.first;
          second = x.second;
        };
  }

  -- one more clause, not seen
  pub kept-added : (ps : List Placed) (head : ℕ) (c : List Lit) → IsKept vars cs ps table watched_lits head
      → IsKept vars (cs ++ c ∷ []) ps table watched_lits head
  kept-added ps head c k = record {
    tables = k.tables;
    entries = λ l j e q.
        let y = k.entries l j e q in
        let x = y.0 in (
          (x.0, at-front cs (c ∷ []) e.place x.0 x.1, x.2),
          λ two d p. y.1 two d (at-back cs (c ∷ []) e.place d (at-within cs e.place x.0 x.1) p),
        );
    arrived = let s = k.arrived in omega (arith, s, length-append cs (c ∷ []));
    looked = k.looked;
    fresh = k.fresh;
    watched = λ i o d e f. k.watched i o d e
        (at-back cs (c ∷ []) i d (let s = k.arrived in let w = at-within watched_lits i o e in omega (arith, s, w)) f);
  }

  -- with all clauses seen and all places looked at, all is settled
  pub kept-settled : (ps : List Placed) (head : ℕ) → length cs ≤ length watched_lits → length ps ≤ head
      → IsKept vars cs ps table watched_lits head
      → IsSettled (lits_of ps) cs
  kept-settled ps head all done k = settled-all (lits_of ps) cs (λ i c e.
      let w = at-within cs i c e in
      let o = at-there watched_lits i (omega (arith, w, all)) in
      let x = k.watched i o.0 c o.1 e in
      elim (cases_lt (length o.0) 2) [
        | inl few ↦ inl (true-lit ps c 0 (x.single few))
        | inr many ↦
            let a = at-there o.0 0 (omega (arith, many)) in
            let b = at-there o.0 1 (omega (arith, many)) in
            let l = k.looked in
            let h : head ≡ length ps = omega (arith, done, l) in
            guarded-settled ps c a.0 b.0 (subst (λ n. IsGuarded ps n c a.0 b.0) h (x.pair a.0 b.0 a.1 b.1))
      ])
    where
      settled-all : (s : List Lit) (cs : List (List Lit)) → ((k : ℕ) (c : List Lit) → slice_get cs k ≡ Some c → TrueLit s c ⊎ FreePair s c)
          → IsSettled s cs
      settled-all s [] f = tt
      settled-all s (c ∷ cs) f = (f zero c refl, settled-all s cs (λ k d e. f (suc k) d e))

-- the lists grow
pub kept-listed : (vars : ℕ) (cs : List (List Lit)) (ps : List Placed) (old new : List (List Entry))
    (watched_lits : List (List Lit)) (head : ℕ)
    → TableGrows cs old new → IsKept vars cs ps old watched_lits head → IsKept vars cs ps new watched_lits head
kept-listed vars cs ps old new watched_lits head g k = record {
  tables = g.same ∙ k.tables;
  entries = g.entries k.entries;
  arrived = k.arrived;
  looked = k.looked;
  fresh = k.fresh;
  watched = λ i o c e f.
      let x = k.watched i o c e f in record {
        same = x.same;
        single = x.single;
        pair = x.pair;
        first = λ a b p q. g.keeps a 0 i (x.first a b p q);
        second = λ a b p q. g.keeps b 0 i (x.second a b p q);
      };
}

-- one more clause was seen
pub kept-arrived : (vars : ℕ) (cs : List (List Lit)) (ps : List Placed) (table : List (List Entry))
    (watched_lits more : List (List Lit)) (head : ℕ)
    (c o : List Lit) → slice_get cs (length watched_lits) ≡ Some c → more ≡ watched_lits ++ o ∷ []
    → IsWatched ps head table (length watched_lits) c o
    → IsKept vars cs ps table watched_lits head → IsKept vars cs ps table more head
kept-arrived vars cs ps table watched_lits more head c o here is w k = subst (λ xs. IsKept vars cs ps table xs head) (sym is) (record {
  tables = k.tables;
  entries = k.entries;
  arrived = let n = at-within cs (length watched_lits) c here in omega (arith, n, length-append watched_lits (o ∷ []));
  looked = k.looked;
  fresh = k.fresh;
  watched = λ i p d e f. elim (at-parts watched_lits o i p e) [
    | inl old ↦ k.watched i p d old f
    | inr new ↦
        let s : c ≡ d = same_Some c d (sym here ∙ ap (slice_get cs) (sym new.0) ∙ f) in
        subst (λ j. IsWatched ps head table j d p) (sym new.0)
        (subst (λ x. IsWatched ps head table (length watched_lits) x p) s (subst (IsWatched ps head table (length watched_lits) c) new.1 w))
  ];
})

-- the same of a queue
pub watching-grown : (cs : List (List Lit)) (old new : TrailValue) (table : List (List Entry)) (watched_lits : List (List Lit)) (head : ℕ)
    → Grown cs old new → IsKept old.vars cs old.placed table watched_lits head → IsKept new.vars cs new.placed table watched_lits head
watching-grown cs old new table watched_lits head g k =
    subst (λ n. IsKept n cs new.placed table watched_lits head) (sym g.same_vars)
    (subst (λ ps. IsKept old.vars cs ps table watched_lits head) (sym g.is)
    (kept-placed old.vars cs table watched_lits old.placed g.more head g.each k))

-- so does backtracking
pub watching-undone : (level : ℕ) (cs : List (List Lit)) (old new : TrailValue) (q r : Queue) (end : ℕ) → new ≡ trail_upto old level
    → IsWatch old.vars cs old.placed → IsWatching old.vars cs old.placed q → end ≡ length new.placed
    → r ≡ record q { head = min q.head end }
    → IsWatching new.vars cs new.placed r
watching-undone level cs old new q r end e w t n f =
    let size : end ≡ length (upto level old.placed) = n ∙ ap (λ (u : TrailValue). length u.placed) e in
    let low : min q.head end ≡ min q.head (length (upto level old.placed)) = ap (min q.head) size in
    subst (λ (u : TrailValue). IsWatching u.vars cs u.placed r) (sym e)
    (subst (IsWatching old.vars cs (upto level old.placed)) (sym f)
    (kept-upto old.vars cs q.lists q.watched_lits.items old.placed level q.head (min q.head end) w.orderly.levels t low))

-- each new literal takes one free variable, so the walk over the trail ends
pub visit_list-less : (cs : List (List Lit)) (vars : ℕ) (ps qs : List Placed) → ArePlaced cs vars ps qs
    → free_left (ps ++ qs) vars + length (ps ++ qs) ≤ free_left ps vars + length ps
visit_list-less cs vars ps [] a = rw (append-nil ps) (omega arith)
visit_list-less cs vars ps (p ∷ qs) a =
    let h = visit_list-less cs vars (ps ++ p ∷ []) qs a.1 in
    let l = free_left-less ps p vars a.0.below a.0.free in
    let n = length-append ps (p ∷ []) in
    rw (← append_assoc ps (p ∷ []) qs) (omega (arith, h, l, n))

-- each place that is passed lowers the measure
pub visit_list-step : (cs : List (List Lit)) (old new : TrailValue) (head : ℕ) → Grown cs old new → head < length old.placed
    → free_left new.placed new.vars + length new.placed - (head + 1) < free_left old.placed old.vars + length old.placed - head
visit_list-step cs old new head g lt =
    let w = visit_list-less cs old.vars old.placed g.more g.each in
    let a : free_left new.placed new.vars ≡ free_left (old.placed ++ g.more) old.vars = ap (λ n. free_left new.placed n) g.same_vars
    ∙ ap (λ ps. free_left ps old.vars) g.is in
    let b : length new.placed ≡ length (old.placed ++ g.more) = ap length g.is in
    omega (arith, w, a, b, lt)

-- propagation takes no literal away
pub longer : (cs : List (List Lit)) (old new : TrailValue) → Grown cs old new → length old.placed ≤ length new.placed
longer cs old new g = let e : length new.placed ≡ length (old.placed ++ g.more) = ap length g.is in
    omega (arith, e, length-append old.placed g.more)
