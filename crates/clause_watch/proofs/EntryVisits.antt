-- What a visit of an entry does, by the ways through the code.
use Rattle.std.proofs.Common.{◌≡◌, ◌≢◌, ℕ, ◌+◌, ◌-◌, ◌<◌, true, false, List, length, set, Some, inl, inr, sym, ap, ◌∙◌, subst, arith}
use Rattle.std.specs.Prelude.{slice_get, Result, Ok, Err, OnOk}
use Rattle.std.proofs.lemmas.Bool.{cases_eq, false≢true}
use Rattle.std.proofs.lemmas.List.{length-set}
use Rattle.std.proofs.lemmas.Option.{same_Some}
use Rattle.clause_store.specs.declared.Lit.{Lit}
use Rattle.clause_store.specs.Lits.{var_of, negation, has}
use Rattle.clause_store.specs.Clauses.{at_id}
use Rattle.proof_log.specs.Known.{has_var}
use Rattle.proof_log.proofs.Ids.{get-at_id}
use Rattle.clause_watch.specs.declared.trail.Placed.{Placed}
use Rattle.clause_watch.specs.declared.lists.Entry.{Entry}
use Rattle.clause_watch.specs.Trails.{TrailValue, lits_of, placed_next, HasLevels}
use Rattle.clause_watch.specs.Watches.{IsWatch}
use Rattle.clause_watch.specs.Lists.{row_of, removed, RowIs, IsOfClause, AreOfClauses, TableGrows}
use Rattle.clause_watch.specs.Picks.{HasNoSlot, Follows}
use Rattle.clause_watch.specs.Watching.{IsGuarded, IsKept, IsListVisit, IsNext, AreBelow}
use Rattle.clause_watch.proofs.Propagated.{clause-in, has-below}
use Rattle.clause_watch.proofs.Places.{place-has}
use Rattle.clause_watch.proofs.Pairs.{cases-literal, guarded-passed}
use Rattle.clause_watch.proofs.Rows.{length-removed, TableGrows-put}
use Rattle.clause_watch.proofs.RowPlaces.{at-within, at-set_same}
use Rattle.clause_watch.proofs.WatchingLaws.{kept-listed}
use Rattle.clause_watch.proofs.ListVisits.{negation-same, visit_list-skip, visit_list-listed, gone-kept, gone-visit_list}

-- the id of a place
pub id-at : (cs : List (List Lit)) (place : ℕ) (c : List Lit) → slice_get cs place ≡ Some c → at_id cs (place + 1) ≡ Some c
id-at cs place c e = get-at_id cs (place + 1) c (omega arith) (let s : place + 1 - 1 ≡ place = omega arith in ap (slice_get cs) s ∙ e)

-- a literal that is neither true nor false has no value
pub neither-free : (ps : List Placed) (l : Lit) → has (lits_of ps) l ≡ false → has (lits_of ps) (negation l) ≡ false
    → has_var (lits_of ps) (var_of l) ≡ false
neither-free ps l a b = elim (cases-literal ps l) [
  | inl t ↦ absurd (false≢true (sym a ∙ t))
  | inr (inl f) ↦ absurd (false≢true (sym b ∙ f))
  | inr (inr n) ↦ n
]

-- the other literals of entries are over the variables
pub entries-below : (vars : ℕ) (cs : List (List Lit)) (ps : List Placed) (table : List (List Entry)) (lit : Lit) → IsWatch vars cs ps
    → AreOfClauses table cs → AreBelow vars (row_of table lit)
entries-below vars cs ps table lit w a j e q =
    let x = (a lit j e q).0 in
    has-below vars x.0 e.other (clause-in vars cs e.place x.0 w.in_order w.in_range x.1).1 x.2

-- a literal is made true by a call
pub follows-pushed : {E : Type 0} (old new : TrailValue) (l : Lit) (id : ℕ) (r : Result (Unit {0}) E)
    → OnOk r (new ≡ placed_next old l (Some id)) → has_var (lits_of old.placed) (var_of l) ≡ false → OnOk r (Follows old new l id)
follows-pushed old new l id (Ok v) e f = inr (e, f)
follows-pushed old new l id (Err v) e f = tt

-- the two first places of an order, one of them a slot
module _ (o : List Lit) (slot rest : ℕ) (x y : Lit) (both : rest + slot ≡ 1) (at-slot : slice_get o slot ≡ Some x)
    (at-rest : slice_get o rest ≡ Some y) where
  -- a fact of the two first literals, in either order
  pub either : (P : Lit → Lit → Type 0) → P x y → P y x → (a b : Lit) → slice_get o 0 ≡ Some a → slice_get o 1 ≡ Some b → P a b
  either P f g a b e h = elim (cases_eq slot 0) [
    | inl s ↦
        let r : rest ≡ 1 = omega (arith, both, s) in
        let p : x ≡ a = same_Some x a (sym at-slot ∙ ap (slice_get o) s ∙ e) in
        let q : y ≡ b = same_Some y b (sym at-rest ∙ ap (slice_get o) r ∙ h) in
        subst (λ l. P l b) p (subst (P x) q f)
    | inr ne ↦
        let s : slot ≡ 1 = omega (arith, both, ne) in
        let r : rest ≡ 0 = omega (arith, both, ne) in
        let p : x ≡ b = same_Some x b (sym at-slot ∙ ap (slice_get o) s ∙ h) in
        let q : y ≡ a = same_Some y a (sym at-rest ∙ ap (slice_get o) r ∙ e) in
        subst (λ l. P a l) p (subst (λ l. P l x) q g)
  ]

  -- a fact of the two first literals that holds both ways, at the watcher's
  pub at-pair : (P : Lit → Lit → Type 0) → ((a b : Lit) → P a b → P b a)
      → ((a b : Lit) → slice_get o 0 ≡ Some a → slice_get o 1 ≡ Some b → P a b) → P x y
  at-pair P visited f = elim (cases_eq slot 0) [
    | inl s ↦
        let r : rest ≡ 1 = omega (arith, both, s) in
        f x y (ap (slice_get o) (sym s) ∙ at-slot) (ap (slice_get o) (sym r) ∙ at-rest)
    | inr ne ↦
        let s : slot ≡ 1 = omega (arith, both, ne) in
        let r : rest ≡ 0 = omega (arith, both, ne) in
        visited y x (f y x (ap (slice_get o) (sym r) ∙ at-rest) (ap (slice_get o) (sym s) ∙ at-slot))
  ]

  -- a fact of each of the two first literals, at the other one
  pub rest-listed : (P : Lit → Type 0) → ((a b : Lit) → slice_get o 0 ≡ Some a → slice_get o 1 ≡ Some b → P a × P b) → P y
  rest-listed P f = elim (cases_eq slot 0) [
    | inl s ↦
        let r : rest ≡ 1 = omega (arith, both, s) in
        (f x y (ap (slice_get o) (sym s) ∙ at-slot) (ap (slice_get o) (sym r) ∙ at-rest)).1
    | inr ne ↦
        let s : slot ≡ 1 = omega (arith, both, ne) in
        let r : rest ≡ 0 = omega (arith, both, ne) in
        (f y x (ap (slice_get o) (sym r) ∙ at-rest) (ap (slice_get o) (sym s) ∙ at-slot)).0
  ]

module _ (vars : ℕ) (cs : List (List Lit)) (ps : List Placed) (table : List (List Entry)) (watched_lits : List (List Lit))
    (head : ℕ) (lit : Lit)
    (at : ℕ) (d : Entry) (k : IsKept vars cs ps table watched_lits head) (w : IsListVisit cs ps table watched_lits head lit at)
    (here : slice_get (row_of table lit) at ≡ Some d) where
  in-row : at < length (row_of table lit)
  in-row = at-within (row_of table lit) at d here

  -- the literal of the list is false
  pub lit-false : has (lits_of ps) (negation lit) ≡ true
  lit-false = ap (has (lits_of ps)) (sym w.falsified) ∙ place-has ps head w.place w.here

  -- the entry is stale
  module _ (new : List (List Entry)) (is : RowIs table new lit (removed (row_of table lit) at))
      (none : (o : List Lit) → slice_get watched_lits d.place ≡ Some o → HasNoSlot o lit) where
    free : (o c : List Lit) (a b : Lit) → slice_get watched_lits d.place ≡ Some o → slice_get cs d.place ≡ Some c → slice_get o 0 ≡ Some a
        → slice_get o 1 ≡ Some b → (a ≢ lit) × (b ≢ lit) × IsGuarded ps (head + 1) c a b
    free o c a b e f x y =
        let n = none o e a b x y in (
          n.0,
          n.1,
          guarded-passed ps head w.place w.here c a b ((k.watched d.place o c e f).pair a b x y)
              (λ q. n.0 (negation-same a lit (sym q ∙ w.falsified))) (λ q. n.1 (negation-same b lit (sym q ∙ w.falsified))),
        )

    pub stale-kept : IsKept vars cs ps new watched_lits head
    stale-kept = gone-kept vars cs ps table new watched_lits head lit at d here is free k

    pub stale-next : IsNext cs ps table new watched_lits head lit at at
    stale-next =
        let n = length-removed (row_of table lit) at in-row in
        let s : length (row_of new lit) ≡ length (removed (row_of table lit) at) = ap length is.here in record {
          visit_list = gone-visit_list vars cs ps table new watched_lits head lit at d here is free w;
          within = omega (arith, n, s, in-row);
          less = omega (arith, n, s, in-row);
        }

  -- the entry gets another literal of the clause, that is true
  module _ (new : List (List Entry)) (e : Entry) (is : RowIs table new lit (set (row_of table lit) at e)) (same : e.place ≡ d.place)
      (sound : IsOfClause cs lit e) where
    put-grows : TableGrows cs table new
    put-grows = TableGrows-put cs table new lit at d e here same sound is

    pub put-kept : IsKept vars cs ps new watched_lits head
    put-kept = kept-listed vars cs ps table new watched_lits head put-grows k

    pub put-next : HasLevels 0 ps → has (lits_of ps) e.other ≡ true → IsNext cs ps table new watched_lits head lit at (at + 1)
    put-next levels t =
        let s : length (row_of new lit) ≡ length (set (row_of table lit) at e) = ap length is.here in
        let n : length (set (row_of table lit) at e) ≡ length (row_of table lit) = length-set (row_of table lit) at e in record {
          visit_list = visit_list-skip vars cs ps new watched_lits head lit at e levels put-kept
              (ap (λ r. slice_get r at) is.here ∙ at-set_same (row_of table lit) at e in-row) t
              (visit_list-listed cs ps table new watched_lits head lit at put-grows w);
          within = omega (arith, s, n, in-row);
          less = omega (arith, s, n);
        }
