-- A search from one place: visits mark what they find, and what is marked in the end is what paths lead to.
use Rattle.std.proofs.Common.{◌≡◌, refl, sym, ap, subst, ◌∙◌, ℕ, zero, ◌+◌, ◌<◌, ◌≤◌, Bool, true, false, not, cond, List, [], ◌∷◌, ◌++◌, length, get_or, set, replicate, All, Contains, ◌⊎◌, inl, inr, ⊎_elim, arith}
use Rattle.std.proofs.lemmas.Bool.{false≢true, cases_eq, cases_lt}
use Rattle.std.proofs.lemmas.List.{length-set, get_or-set_same, get_or-set_other, get_or_past, get_or-replicate, length-replicate, length_push}
use Rattle.std.proofs.lemmas.List.Sums.{sum_by-set}
use Rattle.std.proofs.lemmas.List.Elements.{All-contains, All-push, All-weaker, All-nil, All-get_or, Contains-append_left, Contains-push, Contains-push_cases}
use Rattle.reachability.specs.Paths.{Path}
use Rattle.reachability.specs.Places.{LeadsTo, AreWithin, IsMarked, MarksReached}
use Rattle.reachability.specs.Searches.{Visits, IsSearched, MarksRow}
use Rattle.reachability.proofs.PathLaws.{one_arc, along, two_paths, last_arc}

-- ---- one more mark

-- a place that is marked is one of the row
pub marked_place : (marks : List Bool) (k : ℕ) → IsMarked marks k → k < length marks
marked_place marks k marked = ⊎_elim (λ lt. lt) (λ past. absurd (false≢true (sym (get_or_past marks k false past) ∙ marked)))
    (cases_lt k (length marks))

mark_here : (marks : List Bool) (k : ℕ) → k < length marks → IsMarked (set marks k true) k
mark_here marks k lt = get_or-set_same marks k true false lt

mark_kept : (marks : List Bool) (k x : ℕ) → IsMarked marks x → IsMarked (set marks k true) x
mark_kept marks k x marked = ⊎_elim
    (λ e. subst (IsMarked (set marks k true)) (sym e) (mark_here marks k (rw (← e) (marked_place marks x marked))))
    (λ other. get_or-set_other marks k x true false other ∙ marked) (cases_eq x k)

mark_cases : (marks : List Bool) (k x : ℕ) → IsMarked (set marks k true) x → IsMarked marks x ⊎ (x ≡ k)
mark_cases marks k x marked = ⊎_elim (λ e. inr e) (λ other. inl (sym (get_or-set_other marks k x true false other) ∙ marked)) (cases_eq x k)

-- a row without marks has none
pub no_marks : (n k : ℕ) → IsMarked (replicate n false) k → ⊥
no_marks n k marked =
    let lt : k < n = omega (arith, marked_place (replicate n false) k marked, length-replicate n false) in
    false≢true (sym (get_or-replicate n k false false lt) ∙ marked)

-- ---- a visit

-- no places visited change nothing
pub visits_none : (base : ℕ) (marks : List Bool) (waiting : List ℕ) → Visits base [] marks marks waiting waiting
visits_none base marks waiting = record {
  each = refl;
  visited = All-nil (λ q. IsMarked marks (base + q));
  kept = λ k marked. marked;
  still_waiting = λ q there. there;
  from_marked = λ k marked. inl marked;
  from_waiting = λ q there. inl there;
  work = refl;
}

module _ (base : ℕ) (places : List ℕ) (marks new : List Bool) (waiting now : List ℕ)
    (so_far : Visits base places marks new waiting now) (q : ℕ) where
  -- a visit of a marked place changes nothing
  pub visits_seen : IsMarked new (base + q) → Visits base (places ++ q ∷ []) marks new waiting now
  visits_seen seen = record {
    each = so_far.each;
    visited = All-push (λ x. IsMarked new (base + x)) places q so_far.visited seen;
    kept = so_far.kept;
    still_waiting = so_far.still_waiting;
    from_marked = λ k marked. ⊎_elim (λ old. inl old) (λ w. inr (w.0, w.1, Contains-append_left places (q ∷ []) w.0 w.2, w.3))
        (so_far.from_marked k marked);
    from_waiting = λ x there. ⊎_elim (λ old. inl old) (λ w. inr (Contains-append_left places (q ∷ []) x w.0, w.1))
        (so_far.from_waiting x there);
    work = so_far.work;
  }

  -- a visit of a place that is not marked marks it and lets it wait
  pub visits_new : base + q < length new → get_or new (base + q) false ≡ false
      → Visits base (places ++ q ∷ []) marks (set new (base + q) true) waiting (now ++ q ∷ [])
  visits_new lt unmarked =
      let kept = mark_kept new (base + q) in record {
        each = length-set new (base + q) true ∙ so_far.each;
        visited = All-push (λ x. IsMarked (set new (base + q) true) (base + x)) places q
            (All-weaker (λ x. IsMarked new (base + x)) (λ x. IsMarked (set new (base + q) true) (base + x)) (λ x. kept (base + x)) places
            so_far.visited) (mark_here new (base + q) lt);
        kept = λ k marked. kept k (so_far.kept k marked);
        still_waiting = λ x there. Contains-append_left now (q ∷ []) x (so_far.still_waiting x there);
        from_marked = λ k marked. ⊎_elim
            (λ old. ⊎_elim (λ older. inl older) (λ w. inr
            (w.0, w.1, Contains-append_left places (q ∷ []) w.0 w.2, Contains-append_left now (q ∷ []) w.0 w.3))
            (so_far.from_marked k old))
            (λ e. inr (q, e, Contains-push places q, Contains-push now q))
            (mark_cases new (base + q) k marked);
        from_waiting = λ x there. ⊎_elim
            (λ old. ⊎_elim (λ older. inl older) (λ w. inr (Contains-append_left places (q ∷ []) x w.0, kept (base + x) w.1))
            (so_far.from_waiting x old))
            (λ e. inr (
              subst (Contains (places ++ q ∷ [])) e (Contains-push places q),
              subst
                  (λ y. IsMarked (set new (base + q) true) (base + y)) e (mark_here new (base + q) lt),
            ))
            (Contains-push_cases now q x there);
        work =
            let fewer = sum_by-set (λ b. cond (not b) 1 0) new (base + q) true false lt in
            let was = ap (λ b. cond (not b) 1 (zero)) unmarked in
            omega (arith, fewer, was, so_far.work, length_push now q);
      }

-- ---- a search

-- where an arc leads to is a place
pub head_within : (heads : List (List ℕ)) (p q : ℕ) → AreWithin heads → LeadsTo heads p q → (p < length heads) × (q < length heads)
head_within heads p q within arc = ⊎_elim
    (λ lt. (
      lt,
      All-contains (λ x. x < length heads) (get_or heads p []) q
          (All-get_or (All (λ x. x < length heads)) heads p [] lt within) arc,
    ))
    (λ past. absurd (omega (arith, (subst (λ l. Contains l q) (get_or_past heads p [] past) arc).1)))
    (cases_lt p (length heads))

module _ (heads : List (List ℕ)) (from base : ℕ) (within : AreWithin heads) (before : List Bool) where
  -- a search begins with its start waiting and nothing marked
  pub starts : from < length heads → ((q : ℕ) → q < length heads → IsMarked before (base + q) → ⊥)
      → IsSearched heads from base before before (from ∷ [])
  starts lt fresh = record {
    each = refl;
    marked = λ q q_lt marked. absurd (fresh q q_lt marked);
    waits = λ q there. ⊎_elim (λ nothing. absurd (omega (arith, nothing.1))) (λ e. (rw (← e) lt, inl (sym e)))
        (Contains-push_cases [] from q there);
    followed = λ p q begun arc. ⊎_elim (λ e. inl (0, omega arith, sym e))
        (λ marked. absurd (fresh p (head_within heads p q within arc).0 marked)) begun;
    kept = λ k marked. marked;
    others = λ k marked. inl marked;
  }

  module _ (marks : List Bool) (waited waiting : List ℕ) (p : ℕ) (popped : waited ≡ waiting ++ p ∷ [])
      (began : IsSearched heads from base before marks waited) where
    searched : IsSearched heads from base before marks (waiting ++ p ∷ [])
    searched = subst (IsSearched heads from base before marks) popped began

    -- what waits is a place
    pub next_place : p < length heads
    next_place = (searched.waits p (Contains-push waiting p)).0

    -- heads have room in the row of marks
    pub heads_marked : base + length heads ≤ length before → All (λ q. base + q < length marks) (get_or heads p [])
    heads_marked room =
        All-weaker (λ q. q < length heads) (λ q. base + q < length marks) (λ q lt. omega (arith, lt, room, searched.each))
        (get_or heads p [])
        (All-get_or (All (λ q. q < length heads)) heads p [] next_place within)

    -- the heads of a place visited are one step of the search
    pub follows : (new : List Bool) (now : List ℕ) → Visits base (get_or heads p []) marks new waiting now
        → IsSearched heads from base before new now
    follows new now visits = record {
      each = visits.each ∙ searched.each;
      marked = λ q lt marked. ⊎_elim (λ old. searched.marked q lt old)
          (λ w. let e : w.0 ≡ q = omega (arith, w.1) in subst (λ x. Path (LeadsTo heads) from x) e (way w.0 w.2))
          (visits.from_marked (base + q) marked);
      waits = λ q there. ⊎_elim
          (λ old. let was = searched.waits q (Contains-append_left waiting (p ∷ []) q old) in
          (was.0, ⊎_elim (λ e. inl e) (λ marked. inr (visits.kept (base + q) marked)) was.1))
          (λ w. ((head_within heads p q within w.0).1, inr w.1)) (visits.from_waiting q there);
      followed = λ x q begun arc. ⊎_elim (λ e. settled x q (inl e) arc)
          (λ marked. ⊎_elim (λ old. settled x q (inr old) arc) (λ w. let e : w.0 ≡ x = omega (arith, w.1) in
          inl (subst (Contains now) e w.3)) (visits.from_marked (base + x) marked)) begun;
      kept = λ k marked. visits.kept k (searched.kept k marked);
      others = λ k marked. ⊎_elim (λ old. searched.others k old) (λ w. inr (w.0, w.1, (head_within heads p w.0 within w.2).1))
          (visits.from_marked k marked);
    }
      where
        way : (q : ℕ) → LeadsTo heads p q → Path (LeadsTo heads) from q
        way q arc = ⊎_elim
            (λ e. subst (λ x. Path (LeadsTo heads) x q) e (one_arc (LeadsTo heads) p q arc))
            (λ old. two_paths (LeadsTo heads) from p q (searched.marked p next_place old) (one_arc (LeadsTo heads) p q arc))
            (searched.waits p (Contains-push waiting p)).1

        settled : (x q : ℕ) → (x ≡ from) ⊎ IsMarked marks (base + x) → LeadsTo heads x q → Contains now x ⊎ IsMarked new (base + q)
        settled x q begun arc = ⊎_elim
            (λ there. ⊎_elim
            (λ waits. inl (visits.still_waiting x waits))
            (λ e. inr (All-contains (λ y. IsMarked new (base + y)) (get_or heads p []) q visits.visited
            (subst (λ y. LeadsTo heads y q) (sym e) arc)))
            (Contains-push_cases waiting p x there))
            (λ marked. inr (visits.kept (base + q) marked)) (searched.followed x q begun arc)

  -- where nothing waits, just what paths lead to is marked
  pub ends : (marks : List Bool) (waiting : List ℕ) → length waiting ≡ 0 → IsSearched heads from base before marks waiting
      → MarksRow heads from base before marks
  ends marks waiting none searched = record {
    each = searched.each;
    reached = λ q lt. (
      searched.marked q lt,
      λ path. along (LeadsTo heads) (λ x. (x ≡ from) ⊎ IsMarked marks (base + x) → IsMarked marks (base + q)) q
          (λ x arc begun. settled x q begun arc) (λ x y arc later begun. later (inr (settled x y begun arc))) from path (inl refl),
    );
    others = λ k outside. (
      λ marked. ⊎_elim (λ old. old) (λ w. absurd (⊎_elim (λ low. omega (arith, low, w.1)) (λ high. omega (arith, high, w.1, w.2)) outside))
          (searched.others k marked),
      searched.kept k,
    );
  }
    where
      settled : (x y : ℕ) → (x ≡ from) ⊎ IsMarked marks (base + x) → LeadsTo heads x y → IsMarked marks (base + y)
      settled x y begun arc = ⊎_elim (λ waits. absurd (omega (arith, none, waits.1))) (λ marked. marked) (searched.followed x y begun arc)

-- a row of its own is the marks of one search
pub one_row : (heads : List (List ℕ)) (from : ℕ) (before marks : List Bool) → AreWithin heads → length before ≡ length heads
    → MarksRow heads from 0 before marks → MarksReached heads from marks
one_row heads from before marks within long row = record {
  each = row.each ∙ long;
  reached = λ q. (
    λ marked. (row.reached q (omega (arith, marked_place marks q marked, row.each, long))).0 (subst (IsMarked marks) (at q) marked),
    λ path. subst (IsMarked marks) (sym (at q)) ((row.reached q (last_within q path)).1 path),
  );
}
  where
    at : (q : ℕ) → q ≡ 0 + q
    at q = omega arith

    last_within : (q : ℕ) → Path (LeadsTo heads) from q → q < length heads
    last_within q path = ⊎_elim (λ arc. (head_within heads from q within arc).1) (λ w. (head_within heads w.0 q within w.2).1)
        (last_arc (LeadsTo heads) from q path)
