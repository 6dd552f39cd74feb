-- Clauses that watch a literal hold it, and others.
use Rattle.std.proofs.Common.{◌≡◌, ◌≢◌, ℕ, ◌+◌, ◌-◌, ◌<◌, true, List, [], ◌∷◌, length, inl, inr, sym, ap, ◌∙◌, arith}
use Rattle.std.proofs.lemmas.Bool.{or_cases, false≢true}
use Rattle.clause_store.specs.declared.Lit.{Lit}
use Rattle.clause_store.specs.Lits.{var_of, has, lit_eq}
use Rattle.clause_store.proofs.Sets.{same_lit}
use Rattle.clause_watch.specs.declared.trail.Placed.{Placed}
use Rattle.clause_watch.specs.declared.lists.Entry.{Entry}
use Rattle.clause_watch.specs.declared.queue.Watcher.{Watcher}
use Rattle.clause_watch.specs.Watches.{IsWatcher}
use Rattle.clause_watch.specs.Watching.{IsGuarded, IsKept, IsWatcherAt}
use Rattle.clause_watch.proofs.Pairs.{guarded-visited}
use Rattle.clause_watch.proofs.RowPlaces.{at-within, at-there}
use Rattle.clause_watch.proofs.EntryVisits.{id-at, at-pair}

-- a clause with two literals apart is no single one
two-apart : (c : List Lit) (a b : Lit) → has c a ≡ true → has c b ≡ true → var_of a ≢ var_of b → 1 < length c
two-apart [] a b h k ne = absurd (false≢true h)
two-apart (x ∷ []) a b h k ne = absurd (ne (ap var_of (sym (only a h) ∙ only b k)))
  where
    only : (l : Lit) → has (x ∷ []) l ≡ true → x ≡ l
    only l e = elim (or_cases (lit_eq x l) (has [] l) e) [ inl t ↦ same_lit x l t | inr f ↦ absurd (false≢true f) ]
two-apart (x ∷ y ∷ c) a b h k ne = omega arith

-- the clause of a watcher holds the literal, and others
pub watcher-watches : (vars : ℕ) (cs : List (List Lit)) (ps : List Placed) (table : List (List Entry))
    (watched_lits : List (List Lit)) (head : ℕ)
    (lit : Lit) (at : ℕ) (s : Watcher) → IsKept vars cs ps table watched_lits head → IsWatcherAt table watched_lits lit at s
    → IsWatcher cs lit (s.entry.place + 1)
watcher-watches vars cs ps table watched_lits head lit at s k f =
    let place = s.entry.place in
    let within : place < length watched_lits = at-within watched_lits place f.order f.arrived in
    let there = at-there cs place (let h = k.arrived in omega (arith, within, h)) in
    let both : (1 - s.slot) + s.slot ≡ 1 = let lo = f.slot.low in omega (arith, lo) in
    let guarded : IsGuarded ps head there.0 lit s.other =
    at-pair f.order s.slot (1 - s.slot) lit s.other both f.slot.here f.other (IsGuarded ps head there.0) (guarded-visited ps head there.0)
    (k.watched place f.order there.0 f.arrived there.1).pair in record {
      clause = there.0;
      known = id-at cs place there.0 there.1;
      holds = guarded.has_first;
      many = two-apart there.0 lit s.other guarded.has_first guarded.has_second guarded.apart;
    }
