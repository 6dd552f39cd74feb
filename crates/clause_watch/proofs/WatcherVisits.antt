-- A visit of a clause that watches a literal which became false, by the ways through the code.
use Rattle.std.proofs.Common.{◌≡◌, ◌≢◌, ℕ, ◌+◌, ◌-◌, ◌<◌, true, false, List, [], ◌∷◌, ◌++◌, length, get_or, set, Some, inl, inr, refl, sym, ap, ◌∙◌, subst, arith}
use Rattle.std.specs.Prelude.{slice_get}
use Rattle.std.specs.List.{swap}
use Rattle.std.proofs.lemmas.Bool.{cases_eq, cases_lt, false≢true}
use Rattle.std.proofs.lemmas.List.Edits.{length-swap}
use Rattle.std.proofs.lemmas.Option.{same_Some}
use Rattle.clause_store.specs.declared.Lit.{Lit}
use Rattle.clause_store.specs.Lits.{var_of, negation, has, IsClause, AllBelow}
use Rattle.clause_store.proofs.Sets.{one_sign}
use Rattle.clause_watch.specs.declared.trail.Placed.{Placed}
use Rattle.clause_watch.specs.declared.lists.Entry.{Entry}
use Rattle.clause_watch.specs.declared.queue.Watcher.{Watcher}
use Rattle.clause_watch.specs.Trails.{TrailValue, lits_of, placed_next}
use Rattle.clause_watch.specs.Reasons.{NamesFalse, Grown}
use Rattle.clause_watch.specs.Watches.{IsWatch}
use Rattle.clause_watch.specs.Lists.{index_of, row_of, removed, RowIs, IsOfClause, IsListed, TableGrows}
use Rattle.clause_watch.specs.Picks.{AreFalseFrom, IsOpenAt}
use Rattle.clause_watch.specs.Watching.{IsGuarded, IsWatched, IsKept, IsListVisit, IsNext, IsWatcherAt}
use Rattle.clause_watch.proofs.Propagated.{clause-in, has-below, grown-next, Grown-refl}
use Rattle.clause_watch.proofs.Kept.{IsWatch-grown}
use Rattle.clause_watch.proofs.Pairs.{guarded-visited, guarded-moved}
use Rattle.clause_watch.proofs.Rows.{index-below, index-same, length-removed, TableGrows-push, push-here}
use Rattle.clause_watch.proofs.RowPlaces.{at-within, at-there, at-set_same}
use Rattle.clause_watch.proofs.Below.{at-read, below-same}
use Rattle.clause_watch.proofs.Swaps.{at-has, has-at, swap-first, swap-other, swap-same}
use Rattle.clause_watch.proofs.ArrivedClauses.{follows-true}
use Rattle.clause_watch.proofs.WatchingLaws.{kept-listed, watching-grown}
use Rattle.clause_watch.proofs.ListVisits.{cases-same, guarded-lower, visit_list-listed, visit_list-grown, gone-kept, gone-visit_list, order-kept, order-visit_list}
use Rattle.clause_watch.proofs.EntryVisits.{id-at, neither-free, lit-false, either, at-pair, rest-listed, put-kept, put-next}

module _ (t : TrailValue) (cs : List (List Lit)) (table : List (List Entry)) (watched_lits : List (List Lit)) (head : ℕ)
    (lit : Lit) (at : ℕ)
    (s : Watcher) (right : IsWatch t.vars cs t.placed) (k : IsKept t.vars cs t.placed table watched_lits head)
    (w : IsListVisit cs t.placed table watched_lits head lit at) (f : IsWatcherAt table watched_lits lit at s) where
  abbrev ps : List Placed
  ps = t.placed

  abbrev place : ℕ
  place = s.entry.place

  abbrev o : List Lit
  o = f.order

  abbrev rest : ℕ
  rest = 1 - s.slot

  -- the entry that the clause has in a list afterwards
  abbrev kept : Entry
  kept = record { place = place; two = false; other = s.other }

  both : rest + s.slot ≡ 1
  both = let lo = f.slot.low in omega (arith, lo)

  -- the watcher's clause has arrived
  pub watcher-within : place < length watched_lits
  watcher-within = at-within watched_lits place o f.arrived

  -- the order that is read is the one of the entry's clause
  pub order-is : (x y : List Lit) → x ≡ get_or watched_lits place x → y ≡ x → y ≡ o
  order-is x y e h = h ∙ same_Some x o (sym (at-read watched_lits place x watcher-within e) ∙ f.arrived)

  there : (c : List Lit) × (slice_get cs place ≡ Some c)
  there = at-there cs place (let n = watcher-within in let h = k.arrived in omega (arith, n, h))

  abbrev c : List Lit
  c = there.0

  rules : IsClause c × AllBelow t.vars c
  rules = clause-in t.vars cs place c right.in_order right.in_range there.1

  watched : IsWatched ps head table place c o
  watched = k.watched place o c f.arrived there.1

  guarded : IsGuarded ps head c lit s.other
  guarded = at-pair o s.slot rest lit s.other both f.slot.here f.other (IsGuarded ps head c) (guarded-visited ps head c) watched.pair

  false-lit : has (lits_of ps) (negation lit) ≡ true
  false-lit = lit-false t.vars cs ps table watched_lits head lit at s.entry k w f.listed

  sound : (l : Lit) → IsOfClause cs l kept
  sound l = ((c, there.1, guarded.has_second), λ two. absurd (false≢true two))

  pub other-below : var_of s.other < t.vars
  other-below = has-below t.vars c s.other rules.1 guarded.has_second

  pub order-below : AllBelow t.vars o
  order-below = below-same t.vars o c rules.1 watched.same

  found-has : (next : ℕ) (found : Lit) → slice_get o next ≡ Some found → has c found ≡ true
  found-has next found e = sym (watched.same found) ∙ at-has o next found e

  pub found-below : (next : ℕ) (found : Lit) → slice_get o next ≡ Some found → index_of found < length table
  found-below next found e =
      let n = index-below t.vars found (has-below t.vars c found rules.1 (found-has next found e)) in
      let h = k.tables in
      omega (arith, n, h)

  -- where no literal may take its place, all others are false
  others-false : AreFalseFrom ps o 2 s.other → (l : Lit) → has c l ≡ true → l ≢ s.other → has (lits_of ps) (negation l) ≡ true
  others-false a l h ne =
      let p = has-at o l (watched.same l ∙ h) in
      elim (cases_lt p.0 2) [
        | inr late ↦ a p.0 l late p.1 (λ v. ne (one_sign c l s.other rules.0 h guarded.has_second v))
        | inl low ↦ elim (cases_eq p.0 s.slot) [
          | inl e ↦ subst (λ x. has (lits_of ps) (negation x) ≡ true) (same_Some lit l (sym f.slot.here ∙ ap (slice_get o) (sym e) ∙ p.1))
              false-lit
          | inr nq ↦
              let lo = f.slot.low in
              let r : p.0 ≡ rest = omega (arith, low, lo, nq) in
              absurd (ne (sym (same_Some s.other l (sym f.other ∙ ap (slice_get o) (sym r) ∙ p.1))))
        ]
      ]

  -- where the other watched literal is false too, the clause is false
  pub all-false : AreFalseFrom ps o 2 s.other → has (lits_of ps) (negation s.other) ≡ true → NamesFalse ps cs (place + 1)
  all-false a n = (
    c,
    id-at cs place c there.1,
    λ l h. elim (cases-same l s.other) [
      | inl e ↦ subst (λ x. has (lits_of ps) (negation x) ≡ true) (sym e) n
      | inr ne ↦ others-false a l h ne
    ],
  )

  -- the other watched literal is true
  module _ (new : List (List Entry)) (is : RowIs table new lit (set (row_of table lit) at kept)) where
    pub true-kept : IsKept t.vars cs ps new watched_lits head
    true-kept = put-kept t.vars cs ps table watched_lits head lit at s.entry k w f.listed new kept is refl (sound lit)

    pub true-next : has (lits_of ps) s.other ≡ true → IsNext cs ps table new watched_lits head lit at (at + 1)
    true-next h = put-next t.vars cs ps table watched_lits head lit at s.entry k w f.listed new kept is refl (sound lit)
        right.orderly.levels h

  -- it becomes true
  module _ (u : TrailValue) (a : AreFalseFrom ps o 2 s.other) (no : has (lits_of ps) s.other ≡ false)
      (open_yet : has (lits_of ps) (negation s.other) ≡ false) (is : u ≡ placed_next t s.other (Some (place + 1))) where
    pub placed-grown : Grown cs t u
    placed-grown = grown-next cs t t u (place + 1) c s.other (id-at cs place c there.1) guarded.has_second other-below
        (neither-free ps s.other no open_yet) (others-false a) (Grown-refl cs t) is

    module _ (new : List (List Entry)) (put : RowIs table new lit (set (row_of table lit) at kept)) where
      pub placed-kept : IsKept u.vars cs u.placed new watched_lits head
      placed-kept = put-kept u.vars cs u.placed table watched_lits head lit at s.entry
          (watching-grown cs t u table watched_lits head placed-grown k)
          (visit_list-grown cs t u table watched_lits head lit at placed-grown w) f.listed new kept put refl (sound lit)

      pub placed-next : IsNext cs u.placed table new watched_lits head lit at (at + 1)
      placed-next = put-next u.vars cs u.placed table watched_lits head lit at s.entry
          (watching-grown cs t u table watched_lits head placed-grown k)
          (visit_list-grown cs t u table watched_lits head lit at placed-grown w) f.listed new kept put refl (sound lit)
          (IsWatch-grown cs cs t u refl right placed-grown).orderly.levels
          (follows-true t u s.other (place + 1) (inr (is, neither-free ps s.other no open_yet)))

  -- another literal takes its place
  module _ (next : ℕ) (found : Lit) (one two : List (List Entry)) (at-next : slice_get o next ≡ Some found)
      (open_here : IsOpenAt ps o 2 s.other next)
      (pushed : RowIs table one found (row_of table found ++ kept ∷ []))
      (gone : RowIs one two lit (removed (row_of one lit) at)) where
    same-lit : open_here.lit ≡ found
    same-lit = same_Some open_here.lit found (sym open_here.here ∙ at-next)

    not-false : has (lits_of ps) (negation found) ≡ false
    not-false = subst (λ x. has (lits_of ps) (negation x) ≡ false) same-lit open_here.not_false

    found-other : found ≢ lit
    found-other e = false≢true (sym not-false ∙ ap (λ x. has (lits_of ps) (negation x)) e ∙ false-lit)

    index-other : index_of lit ≢ index_of found
    index-other e = found-other (sym (index-same lit found e))

    moved : IsGuarded ps (head + 1) c found s.other
    moved = guarded-moved ps head w.place w.here c lit s.other guarded w.falsified found
        (found-has next found at-next) (λ e. open_here.apart (ap var_of same-lit ∙ e)) not-false

    grows : TableGrows cs table one
    grows = TableGrows-push cs table one found kept pushed (sound found)

    abbrev after : List Lit
    after = swap o s.slot next

    slot-within : s.slot < length o
    slot-within = at-within o s.slot lit f.slot.here

    next-within : next < length o
    next-within = at-within o next found at-next

    apart : s.slot ≢ next
    apart e = let lo = f.slot.low in let hi = open_here.late in omega (arith, lo, hi, e)

    after-slot : slice_get after s.slot ≡ Some found
    after-slot = swap-first o s.slot next slot-within next-within apart ∙ at-next

    after-rest : slice_get after rest ≡ Some s.other
    after-rest = swap-other o s.slot next slot-within next-within rest (λ e. omega (arith, both, e))
        (λ e. let hi = open_here.late in omega (arith, both, hi, e)) ∙ f.other

    rest-there : IsListed table s.other place
    rest-there = rest-listed o s.slot rest lit s.other both f.slot.here f.other (λ l. IsListed table l place)
        (λ a b x y. (watched.first a b x y, watched.second a b x y))

    found-there : IsListed one found place
    found-there = push-here table one found kept pushed

    watched-after : IsWatched ps head one place c after
    watched-after = record {
      same = λ l. swap-same o s.slot next slot-within next-within apart l ∙ watched.same l;
      single = λ few. absurd (let n = length-swap o s.slot next in let m = f.slot.many in omega (arith, n, m, few));
      pair = either after s.slot rest found s.other both after-slot after-rest (IsGuarded ps head c)
          (guarded-lower ps head c found s.other moved)
          (guarded-visited ps head c found s.other (guarded-lower ps head c found s.other moved));
      first = either after s.slot rest found s.other both after-slot after-rest (λ a b. IsListed one a place) found-there
          (grows.keeps s.other 0 place rest-there);
      second = either after s.slot rest found s.other both after-slot after-rest (λ a b. IsListed one b place)
          (grows.keeps s.other 0 place rest-there) found-there;
    }

    passed-after : (a b : Lit) → slice_get after 0 ≡ Some a → slice_get after 1 ≡ Some b → IsGuarded ps (head + 1) c a b
    passed-after = either after s.slot rest found s.other both after-slot after-rest (IsGuarded ps (head + 1) c) moved
        (guarded-visited ps (head + 1) c found s.other moved)

    row-there : slice_get (row_of one lit) at ≡ Some s.entry
    row-there = ap (λ r. slice_get r at) (pushed.others lit index-other) ∙ f.listed

    free-after : (o2 c2 : List Lit) (a b : Lit) → slice_get (set watched_lits place after) place ≡ Some o2 → slice_get cs place ≡ Some c2
        → slice_get o2 0 ≡ Some a → slice_get o2 1 ≡ Some b → (a ≢ lit) × (b ≢ lit) × IsGuarded ps (head + 1) c2 a b
    free-after o2 c2 a b e h x y =
        let p : after ≡ o2 = same_Some after o2 (sym (at-set_same watched_lits place after watcher-within) ∙ e) in
        let q : c ≡ c2 = same_Some c c2 (sym there.1 ∙ h) in
        let x2 = ap (λ z. slice_get z 0) p ∙ x in
        let y2 = ap (λ z. slice_get z 1) p ∙ y in
        let n : (a ≢ lit) × (b ≢ lit) = either after s.slot rest found s.other both after-slot after-rest (λ a b. (a ≢ lit) × (b ≢ lit))
        (found-other, λ e. guarded.apart (ap var_of (sym e))) (λ e. guarded.apart (ap var_of (sym e)), found-other) a b x2 y2 in
        (n.0, n.1, subst (λ z. IsGuarded ps (head + 1) z a b) q (passed-after a b x2 y2))

    pub moved-kept : IsKept t.vars cs ps two (set watched_lits place after) head
    moved-kept = gone-kept t.vars cs ps one two (set watched_lits place after) head lit at s.entry row-there gone free-after
        (order-kept t.vars cs ps one watched_lits head lit at place after c watcher-within there.1 watched-after passed-after
        (kept-listed t.vars cs ps table one watched_lits head grows k))

    pub moved-next : IsNext cs ps table two (set watched_lits place after) head lit at at
    moved-next =
        let h = at-within (row_of table lit) at s.entry f.listed in
        let n = length-removed (row_of one lit) at (at-within (row_of one lit) at s.entry row-there) in
        let m : length (row_of two lit) ≡ length (removed (row_of one lit) at) = ap length gone.here in
        let u : length (row_of one lit) ≡ length (row_of table lit) = ap length (pushed.others lit index-other) in record {
          visit_list = gone-visit_list t.vars cs ps one two (set watched_lits place after) head lit at s.entry row-there gone free-after
              (order-visit_list t.vars cs ps one watched_lits head lit at place after c watcher-within there.1 watched-after passed-after
              (visit_list-listed cs ps table one watched_lits head lit at grows w));
          within = omega (arith, n, m, u, h);
          less = omega (arith, n, m, u, h);
        }
