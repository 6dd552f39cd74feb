-- What a queue keeps when a clause has arrived.
use Rattle.std.proofs.Common.{◌≡◌, ℕ, ◌+◌, true, false, List, [], ◌∷◌, ◌++◌, length, Some, inl, inr, refl, sym, ap, ◌∙◌, subst}
use Rattle.std.specs.Prelude.{slice_get}
use Rattle.std.proofs.lemmas.Option.{same_Some}
use Rattle.clause_store.specs.declared.Lit.{Lit}
use Rattle.clause_store.specs.Lits.{var_of, negation, has, IsClause}
use Rattle.clause_watch.specs.declared.trail.Placed.{Placed}
use Rattle.clause_watch.specs.declared.lists.Entry.{Entry}
use Rattle.clause_watch.specs.Trails.{TrailValue, lits_of}
use Rattle.clause_watch.specs.Reasons.{NamesFalse, Grown}
use Rattle.clause_watch.specs.Watches.{IsWatch}
use Rattle.clause_watch.specs.Lists.{IsListed, TableGrows, HasAt}
use Rattle.clause_watch.specs.Picks.{AreFalse, IsOpenAt, IsOpenPair, IsLonePair, IsLoneLit, level_of, WatchesPair, Follows}
use Rattle.clause_watch.specs.Watching.{IsKept}
use Rattle.clause_watch.proofs.Propagated.{clause-in, has-below, grown-next, Grown-refl}
use Rattle.clause_watch.proofs.Pairs.{Guards-open}
use Rattle.clause_watch.proofs.Swaps.{at-has, has-at}
use Rattle.clause_watch.proofs.ArrivedClauses.{IsLone, highest-lone, single-lone, lone-others, lone-follows, lone-guarded, pair-watched, single-watched}
use Rattle.clause_watch.proofs.WatchingLaws.{kept-listed, kept-arrived, watching-grown}
use Rattle.clause_watch.proofs.EntryVisits.{id-at}

follow-grown : (cs : List (List Lit)) (old new : TrailValue) (place : ℕ) (c : List Lit) (first : Lit) (n : ℕ)
    → IsWatch old.vars cs old.placed
    → slice_get cs place ≡ Some c → has c first ≡ true → IsLone old.placed c first n → Follows old new first (place + 1) → Grown cs old new
follow-grown cs old new place c first n w here stands lone (inl s) = subst (Grown cs old) (sym s.0) (Grown-refl cs old)
follow-grown cs old new place c first n w here stands lone (inr s) =
    grown-next cs old old new (place + 1) c first (id-at cs place c here) stands
    (has-below old.vars c first (clause-in old.vars cs place c w.in_order w.in_range here).1 stands) s.1
    (lone-others old.placed c first n lone)
    (Grown-refl cs old) s.0

-- the clause at the next place
module _ (cs : List (List Lit)) (old new : TrailValue) (before after : List (List Entry)) (watched_lits more : List (List Lit))
    (head place : ℕ)
    (c : List Lit) (w : IsWatch old.vars cs old.placed) (k : IsKept old.vars cs old.placed before watched_lits head)
    (next : place ≡ length watched_lits) (here : slice_get cs place ≡ Some c) where
  at-end : slice_get cs (length watched_lits) ≡ Some c
  at-end = ap (slice_get cs) (sym next) ∙ here

  order_c : IsClause c
  order_c = (clause-in old.vars cs place c w.in_order w.in_range here).0

  -- two literals that are not false
  pub open-arrived : (first second : Lit) (order : List Lit) → IsOpenPair old.placed first second c → TableGrows cs before after
      → IsListed after first place → IsListed after second place → WatchesPair c first second order → more ≡ watched_lits ++ order ∷ []
      → IsKept old.vars cs old.placed after more head
  open-arrived first second order p g x y o e =
      kept-arrived old.vars cs old.placed after watched_lits more head c order at-end e
      (pair-watched old.placed head after (length watched_lits) c order first second o
      (subst (IsListed after first) next x) (subst (IsListed after second) next y) (record {
        has_first = p.has_first;
        has_second = p.has_second;
        apart = p.apart;
        first = Guards-open old.placed head c first p.first_open;
        second = Guards-open old.placed head c second p.second_open;
      }))
      (kept-listed old.vars cs old.placed before after watched_lits head g k)

  -- one that may be true, beside the highest
  module _ (first second : Lit) (p : IsLonePair old.placed first second c) where
    lone : IsLone old.placed c first (level_of old.placed second)
    lone = highest-lone old.placed c first second w.orderly.apart order_c p.has_first p.others p.highest

    pub lone-grown : Follows old new first (place + 1) → Grown cs old new
    lone-grown f = follow-grown cs old new place c first (level_of old.placed second) w here p.has_first lone f

    pub lone-arrived : (order : List Lit) → Follows old new first (place + 1) → TableGrows cs before after → IsListed after first place
        → IsListed after second place → WatchesPair c first second order → more ≡ watched_lits ++ order ∷ []
        → IsKept new.vars cs new.placed after more head
    lone-arrived order f g x y o e =
        kept-arrived new.vars cs new.placed after watched_lits more head c order at-end e
        (pair-watched new.placed head after (length watched_lits) c order first second o
        (subst (IsListed after first) next x) (subst (IsListed after second) next y)
        (lone-guarded cs old new place (place + 1) c first (level_of old.placed second) w (lone-grown f) here p.has_first lone f second head
        p.highest.stands p.highest.apart refl))
        (watching-grown cs old new after watched_lits head (lone-grown f)
        (kept-listed old.vars cs old.placed before after watched_lits head g k))

  -- the only one
  module _ (first : Lit) (p : IsLoneLit old.placed first c) where
    single : IsLone old.placed c first 0
    single = single-lone old.placed c first order_c p.has_first p.only

    pub single-grown : Follows old new first (place + 1) → Grown cs old new
    single-grown f = follow-grown cs old new place c first 0 w here p.has_first single f

    pub single-arrived : Follows old new first (place + 1) → more ≡ watched_lits ++ (first ∷ []) ∷ []
        → IsKept new.vars cs new.placed before more head
    single-arrived f e =
        kept-arrived new.vars cs new.placed before watched_lits more head c (first ∷ []) at-end e
        (single-watched new.placed head before (length watched_lits) c first order_c p.has_first p.only
        (lone-follows cs old new place (place + 1) c first 0 w (single-grown f) here p.has_first single f))
        (watching-grown cs old new before watched_lits head (single-grown f) k)

-- what is asked of the calls
pub at-has-at : (cs : List (List Lit)) (place n : ℕ) (c : List Lit) (l : Lit) → place ≡ n → slice_get cs n ≡ Some c → has c l ≡ true
    → HasAt cs place l
at-has-at cs place n c l e here h = (c, ap (slice_get cs) e ∙ here, h)

-- a trail that did not change has grown by nothing
pub follow-err : (cs : List (List Lit)) (old new : TrailValue) → new ≡ old → Grown cs old new
follow-err cs old new e = subst (Grown cs old) (sym e) (Grown-refl cs old)

-- a clause whose literals are all false is named by its id
pub all-names : (cs : List (List Lit)) (ps : List Placed) (place : ℕ) (c : List Lit) → slice_get cs place ≡ Some c → AreFalse ps c
    → NamesFalse ps cs (place + 1)
all-names cs ps place c here f = (c, id-at cs place c here, λ l h. let p = has-at c l h in f p.0 l p.1)

-- two open literals of a clause
pub open-pair : (ps : List Placed) (c : List Lit) (first second : Lit) (at : ℕ) → has c first ≡ true
    → has (lits_of ps) (negation first) ≡ false → slice_get c at ≡ Some second → IsOpenAt ps c 0 first at → IsOpenPair ps first second c
open-pair ps c first second at h free here o =
    let s : o.lit ≡ second = same_Some o.lit second (sym o.here ∙ here) in record {
      has_first = h;
      has_second = at-has c at second here;
      apart = λ e. o.apart (ap var_of s ∙ sym e);
      first_open = free;
      second_open = ap (λ l. has (lits_of ps) (negation l)) (sym s) ∙ o.not_false;
    }
