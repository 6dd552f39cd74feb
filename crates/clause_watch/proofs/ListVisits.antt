-- One turn of a visit of the list of a literal that became false.
use Rattle.std.proofs.Common.{◌≡◌, ◌≢◌, ℕ, zero, suc, ◌+◌, ◌-◌, ◌<◌, ◌≤◌, true, List, length, set, Some, ◌⊎◌, inl, inr, sym, ap, ◌∙◌, subst, arith}
use Rattle.std.specs.Prelude.{slice_get}
use Rattle.std.proofs.lemmas.Bool.{cases_Bool, cases_eq, false≢true}
use Rattle.std.proofs.lemmas.List.{length-set}
use Rattle.std.proofs.lemmas.Option.{same_Some}
use Rattle.clause_store.specs.declared.Lit.{Lit}
use Rattle.clause_store.specs.Lits.{negation, has, lit_eq}
use Rattle.clause_store.proofs.Sets.{same_lit, lit_eq-refl, negation-twice}
use Rattle.clause_watch.specs.declared.trail.Placed.{Placed}
use Rattle.clause_watch.specs.declared.lists.Entry.{Entry}
use Rattle.clause_watch.specs.Trails.{TrailValue, lits_of, HasLevels}
use Rattle.clause_watch.specs.Reasons.{Grown}
use Rattle.clause_watch.specs.Lists.{row_of, removed, RowIs, IsListed, TableGrows}
use Rattle.clause_watch.specs.Watching.{IsGuarded, IsWatched, IsKept, ArePassed, IsListVisit, AreTrue}
use Rattle.clause_watch.proofs.Places.{place-within, get-front}
use Rattle.clause_watch.proofs.Pairs.{true-now, guarded-push, guarded-passed, guarded-kept}
use Rattle.clause_watch.proofs.Rows.{index-same, removed-listed, removed-entries}
use Rattle.clause_watch.proofs.RowPlaces.{at-within, at-there, at-set_same, at-set_other}

-- two literals are the same or not
pub cases-same : (a b : Lit) → (a ≡ b) ⊎ (a ≡ b → ⊥)
cases-same a b = elim (cases_Bool (lit_eq a b)) [
  | inl t ↦ inl (same_lit a b t)
  | inr f ↦ inr (λ e. false≢true (sym f ∙ subst (λ x. lit_eq a x ≡ true) e (lit_eq-refl a)))
]

pub negation-same : (a b : Lit) → negation a ≡ negation b → a ≡ b
negation-same a b e = sym (negation-twice a) ∙ ap negation e ∙ negation-twice b

-- what is guarded behind the head is guarded from it on
pub guarded-lower : (ps : List Placed) (head : ℕ) (c : List Lit) (a b : Lit) → IsGuarded ps (head + 1) c a b → IsGuarded ps head c a b
guarded-lower ps head c a b g = record {
  has_first = g.has_first;
  has_second = g.has_second;
  apart = g.apart;
  first = λ k q lt. g.first k q (omega (arith, lt));
  second = λ k q lt. g.second k q (omega (arith, lt));
}

-- at the begin each clause of the literal is in its list
pub visit_list-start : (vars : ℕ) (cs : List (List Lit)) (ps : List Placed) (table : List (List Entry))
    (watched_lits : List (List Lit)) (head : ℕ)
    (lit : Lit) (p : Placed) → slice_get ps head ≡ Some p → p.lit ≡ negation lit → IsKept vars cs ps table watched_lits head
    → IsListVisit cs ps table watched_lits head lit 0
visit_list-start vars cs ps table watched_lits head lit p here f k = record {
  place = p;
  here = here;
  falsified = f;
  due = λ i o c a b e g x y.
      let w = k.watched i o c e g in
      elim (cases-same a lit) [
        | inl s ↦ inr (subst (λ l. IsListed table l i) s (w.first a b x y))
        | inr na ↦ elim (cases-same b lit) [
          | inl s ↦ inr (subst (λ l. IsListed table l i) s (w.second a b x y))
          | inr nb ↦ inl (guarded-passed ps head p here c a b (w.pair a b x y) (λ q. na (negation-same a lit (sym q ∙ f)))
              (λ q. nb (negation-same b lit (sym q ∙ f))))
        ]
      ];
}

-- at the end each clause was passed
pub visit_list-end : (cs : List (List Lit)) (ps : List Placed) (table : List (List Entry)) (watched_lits : List (List Lit)) (head : ℕ)
    (lit : Lit) (at : ℕ)
    → length (row_of table lit) ≤ at → IsListVisit cs ps table watched_lits head lit at → ArePassed cs ps watched_lits head
visit_list-end cs ps table watched_lits head lit at h w i o c a b e g x y = elim (w.due i o c a b e g x y) [
  | inl done ↦ done
  | inr f ↦ absurd (let n = at-within (row_of table lit) f.0 f.1 f.3 in let l = f.2 in omega (arith, n, l, h))
]

-- a clause whose entry has a true literal is passed
pub visit_list-skip : (vars : ℕ) (cs : List (List Lit)) (ps : List Placed) (table : List (List Entry))
    (watched_lits : List (List Lit)) (head : ℕ)
    (lit : Lit) (at : ℕ) (d : Entry) → HasLevels 0 ps → IsKept vars cs ps table watched_lits head → slice_get (row_of table lit) at ≡ Some d
    → has (lits_of ps) d.other ≡ true → IsListVisit cs ps table watched_lits head lit at
    → IsListVisit cs ps table watched_lits head lit (at + 1)
visit_list-skip vars cs ps table watched_lits head lit at d levels k here true_here w = record {
  place = w.place;
  here = w.here;
  falsified = w.falsified;
  due = λ i o c a b e g x y. elim (w.due i o c a b e g x y) [
    | inl done ↦ inl done
    | inr f ↦ elim (cases_eq f.0 at) [
      | inl s ↦
          let t : d ≡ f.1 = same_Some d f.1 (sym here ∙ ap (slice_get (row_of table lit)) (sym s) ∙ f.3) in
          let n : d.place ≡ i = ap (λ (z : Entry). z.place) t ∙ f.4 in
          let m = (k.entries lit at d here).0 in
          let q : m.0 ≡ c = same_Some m.0 c (sym m.1 ∙ ap (slice_get cs) n ∙ g) in
          let l = k.fresh head w.place (omega arith) w.here in
          inl (guarded-kept ps head w.place w.here c a b ((k.watched i o c e g).pair a b x y)
          (true-now ps c d.other w.place.level levels (omega (arith, l)) (subst (λ z. has z d.other ≡ true) q m.2) true_here))
      | inr ne ↦ let le = f.2 in inr (f.0, f.1, omega (arith, le, ne), f.3, f.4)
    ]
  ];
}

-- entries whose other literal is true may be skipped
pub visit_list-skips : (vars : ℕ) (cs : List (List Lit)) (ps : List Placed) (table : List (List Entry))
    (watched_lits : List (List Lit)) (head : ℕ)
    (lit : Lit) (from to : ℕ) → HasLevels 0 ps → IsKept vars cs ps table watched_lits head → from ≤ to → to ≤ length (row_of table lit)
    → AreTrue ps (row_of table lit) from to → IsListVisit cs ps table watched_lits head lit from
    → IsListVisit cs ps table watched_lits head lit to
visit_list-skips vars cs ps table watched_lits head lit from to levels k le within t w = at-places (to - from) from (omega (arith, le)) t w
  where
    at-places : (n from : ℕ) → n + from ≡ to → AreTrue ps (row_of table lit) from to → IsListVisit cs ps table watched_lits head lit from
        → IsListVisit cs ps table watched_lits head lit to
    at-places zero from e t w = subst (IsListVisit cs ps table watched_lits head lit) (omega (arith, e)) w
    at-places (suc n) from e t w =
        let d = at-there (row_of table lit) from (omega (arith, e, within)) in
        at-places n (from + 1) (omega (arith, e)) (λ j x lo hi q. t j x (omega (arith, lo)) hi q)
        (visit_list-skip vars cs ps table watched_lits head lit from d.0 levels k d.1 (t from d.0 (omega arith) (omega (arith, e)) d.1) w)

-- the lists grow
pub visit_list-listed : (cs : List (List Lit)) (ps : List Placed) (old new : List (List Entry)) (watched_lits : List (List Lit))
    (head : ℕ) (lit : Lit)
    (at : ℕ) → TableGrows cs old new → IsListVisit cs ps old watched_lits head lit at → IsListVisit cs ps new watched_lits head lit at
visit_list-listed cs ps old new watched_lits head lit at g w = record {
  place = w.place;
  here = w.here;
  falsified = w.falsified;
  due = λ i o c a b e f x y. elim (w.due i o c a b e f x y) [ inl done ↦ inl done | inr q ↦ inr (g.keeps lit at i q) ];
}

-- the trail grows
pub visit_list-grown : (cs : List (List Lit)) (old new : TrailValue) (table : List (List Entry)) (watched_lits : List (List Lit))
    (head : ℕ) (lit : Lit)
    (at : ℕ) → Grown cs old new → IsListVisit cs old.placed table watched_lits head lit at
    → IsListVisit cs new.placed table watched_lits head lit at
visit_list-grown cs old new table watched_lits head lit at g w =
    subst (λ ps. IsListVisit cs ps table watched_lits head lit at) (sym g.is) (record {
      place = w.place;
      here = get-front old.placed g.more head w.place w.here;
      falsified = w.falsified;
      due = λ i o c a b e f x y. elim (w.due i o c a b e f x y) [
        | inl done ↦ inl (guarded-push old.placed g.more (head + 1) c a b
            (let n = place-within old.placed head w.place w.here in omega (arith, n)) done)
        | inr q ↦ inr q
      ];
    })

-- an entry is taken out whose clause is passed and watched elsewhere
module _ (vars : ℕ) (cs : List (List Lit)) (ps : List Placed) (old new : List (List Entry)) (watched_lits : List (List Lit))
    (head : ℕ) (lit : Lit)
    (at : ℕ) (d : Entry) (here : slice_get (row_of old lit) at ≡ Some d) (is : RowIs old new lit (removed (row_of old lit) at))
    (free : (o c : List Lit) (a b : Lit) → slice_get watched_lits d.place ≡ Some o → slice_get cs d.place ≡ Some c → slice_get o 0 ≡ Some a
    → slice_get o 1 ≡ Some b → (a ≢ lit) × (b ≢ lit) × IsGuarded ps (head + 1) c a b) where
  -- an entry that is taken out leaves the queue right
  pub gone-kept : IsKept vars cs ps old watched_lits head → IsKept vars cs ps new watched_lits head
  gone-kept k = record {
    tables = is.same ∙ k.tables;
    entries = removed-entries cs old new lit at d here is k.entries;
    arrived = k.arrived;
    looked = k.looked;
    fresh = k.fresh;
    watched = λ i o c e f.
        let w = k.watched i o c e f in record {
          same = w.same;
          single = w.single;
          pair = w.pair;
          first = λ a b x y. removed-listed old new lit a at 0 i d here is
              (λ s n. (free o c a b (ap (slice_get watched_lits) n ∙ e) (ap (slice_get cs) n ∙ f) x y).0 (index-same a lit s)) (omega arith)
              (w.first a b x y);
          second = λ a b x y. removed-listed old new lit b at 0 i d here is
              (λ s n. (free o c a b (ap (slice_get watched_lits) n ∙ e) (ap (slice_get cs) n ∙ f) x y).1 (index-same b lit s)) (omega arith)
              (w.second a b x y);
        };
  }

  -- and the visit of its list
  pub gone-visit_list : IsListVisit cs ps old watched_lits head lit at → IsListVisit cs ps new watched_lits head lit at
  gone-visit_list w = record {
    place = w.place;
    here = w.here;
    falsified = w.falsified;
    due = λ i o c a b e f x y. elim (w.due i o c a b e f x y) [
      | inl done ↦ inl done
      | inr q ↦ elim (cases_eq d.place i) [
        | inl n ↦ inl (free o c a b (ap (slice_get watched_lits) n ∙ e) (ap (slice_get cs) n ∙ f) x y).2
        | inr ne ↦ inr (removed-listed old new lit lit at at i d here is (λ _ n. ne n) (omega arith) q)
      ]
    ];
  }

-- an order is another of the same clause
module _ (vars : ℕ) (cs : List (List Lit)) (ps : List Placed) (table : List (List Entry)) (watched_lits : List (List Lit))
    (head : ℕ) (lit : Lit)
    (at place : ℕ) (o c : List Lit) (within : place < length watched_lits) (here : slice_get cs place ≡ Some c)
    (watched : IsWatched ps head table place c o)
    (passed : (a b : Lit) → slice_get o 0 ≡ Some a → slice_get o 1 ≡ Some b → IsGuarded ps (head + 1) c a b) where
  -- two literals of a clause that change places leave the queue right
  pub order-kept : IsKept vars cs ps table watched_lits head → IsKept vars cs ps table (set watched_lits place o) head
  order-kept k = record {
    tables = k.tables;
    entries = k.entries;
    arrived = let s = k.arrived in let n : length (set watched_lits place o) ≡ length watched_lits = length-set watched_lits place o in
        omega (arith, s, n);
    looked = k.looked;
    fresh = k.fresh;
    watched = λ i p d e f. elim (cases_eq i place) [
      | inl s ↦
          let q : o ≡ p = same_Some o p (sym (at-set_same watched_lits place o within)
          ∙ ap (slice_get (set watched_lits place o)) (sym s) ∙ e) in
          let r : c ≡ d = same_Some c d (sym here ∙ ap (slice_get cs) (sym s) ∙ f) in
          subst (λ j. IsWatched ps head table j d p) (sym s)
          (subst (IsWatched ps head table place d) q (subst (λ x. IsWatched ps head table place x o) r watched))
      | inr ne ↦ k.watched i p d (sym (at-set_other watched_lits place i o ne) ∙ e) f
    ];
  }

  -- and the visit of its list
  pub order-visit_list : IsListVisit cs ps table watched_lits head lit at → IsListVisit cs ps table (set watched_lits place o) head lit at
  order-visit_list w = record {
    place = w.place;
    here = w.here;
    falsified = w.falsified;
    due = λ i p d a b e f x y. elim (cases_eq i place) [
      | inl s ↦
          let q : o ≡ p = same_Some o p (sym (at-set_same watched_lits place o within)
          ∙ ap (slice_get (set watched_lits place o)) (sym s) ∙ e) in
          let r : c ≡ d = same_Some c d (sym here ∙ ap (slice_get cs) (sym s) ∙ f) in
          inl (subst (λ z. IsGuarded ps (head + 1) z a b) r
          (passed a b (ap (λ z. slice_get z 0) q ∙ x) (ap (λ z. slice_get z 1) q ∙ y)))
      | inr ne ↦ w.due i p d a b (sym (at-set_other watched_lits place i o ne) ∙ e) f x y
    ];
  }
