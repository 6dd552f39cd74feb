-- The demands that label marked clauses are the reasons.
use Prim.Native.Nat.{zero, suc}
use Rattle.std.proofs.Common.{◌≡◌, ◌↔◌, ℕ, ◌+◌, ◌-◌, ◌<◌, ◌≤◌, Bool, true, false, List, [], ◌∷◌, ◌++◌, Option, Some, None, length, refl, sym, ◌∙◌, subst, ap, arith, slice_get}
use Rattle.std.specs.Option.{option_map}
use Rattle.std.proofs.lemmas.Option.{same_Some, none-some}
use Rattle.clause_store.specs.declared.Lit.{Lit}
use Rattle.clause_store.specs.declared.Label.{Label}
use Rattle.clause_store.specs.declared.Label.TheVariants.{Structure, Demand}
use Rattle.clause_store.specs.declared.list.Entry.{Entry}
use Rattle.clause_store.specs.Clauses.{Clauses, clauses_of, at_id}
use Rattle.proof_log.specs.declared.line.Line.{Line}
use Rattle.proof_log.specs.declared.line.Line.TheVariants.{Header, Learnt, Zero, One, Unsat, Spent, End}
use Rattle.proof_log.specs.Lines.{added, with_added, settles, AllLines, EachLine}
use Rattle.proof_log.specs.Logs.{LineHolds}
use Rattle.explain_failure.specs.Uses.{Uses, IsReason, AreReasons, IsRefuted, IsRising, used_by}
use Rattle.explain_failure.specs.Marks.{AreMarks, HasRoom, demand_at, if_marked, demand_of, AreDemands}
use Rattle.explain_failure.proofs.Using.{used-is}

demand-parts : (marked : Option Bool) (o : Option Entry) (d : ℕ) → if_marked marked (demand_at (option_map (λ e. e.label) o)) ≡ Some d
    → (marked ≡ Some true) × (e : Entry) × (o ≡ Some e) × (e.label ≡ Demand d)
demand-parts None o d h = absurd (none-some d h)
demand-parts (Some false) o d h = absurd (none-some d h)
demand-parts (Some true) None d h = absurd (none-some d h)
demand-parts (Some true) (Some e) d h = (refl, e, refl, by-label e.label h)
  where
    by-label : (k : Label) → demand_at (Some k) ≡ Some d → k ≡ Demand d
    by-label Structure h = absurd (none-some d h)
    by-label (Demand b) h = ap Demand (same_Some b d h)

demand-made : (marked : Option Bool) (o : Option Entry) (e : Entry) (d : ℕ) → marked ≡ Some true → o ≡ Some e → e.label ≡ Demand d
    → if_marked marked (demand_at (option_map (λ e. e.label) o)) ≡ Some d
demand-made marked o e d m g p = ap (λ x. if_marked x (demand_at (option_map (λ e. e.label) o))) m
    ∙ ap (λ x. demand_at (option_map (λ e. e.label) x)) g ∙ ap (λ k. demand_at (Some k)) p

id-within : (es : List Entry) (id : ℕ) (e : Entry) → at_id es id ≡ Some e → (0 < id) × (id ≤ length es)
id-within es zero e g = absurd (none-some e g)
id-within [] (suc k) e g = absurd (none-some e g)
id-within (f ∷ es) (suc zero) e g = (omega arith, omega arith)
id-within (f ∷ es) (suc (suc k)) e g = let h = id-within es (suc k) e g in (omega arith, omega (arith, h.1))

pub are-reasons : (s : Clauses) (lines : List Line) (marks : List Bool) (ds : List ℕ) → IsRefuted s lines → length s.entries < length marks
    → AreMarks marks (used_by lines) → IsRising ds → AreDemands s.entries marks (length s.entries) ds → AreReasons s.entries lines ds
are-reasons s lines marks ds r w m i a = record { rising = i; exact = λ d. ((λ t. to d ((a d).0 t)), (λ t. (a d).1 (from d t))) }
  where
    is : (x : ℕ) → (used_by lines x ≡ true) ↔ Uses lines x
    is = used-is s.vars (clauses_of s.entries) r.0 lines r.1.sound

    to : (d : ℕ) → ((place : ℕ) × (place < length s.entries) × (demand_of s.entries marks (place + 1) ≡ Some d))
        → IsReason s.entries lines d
    to d p =
        let q = demand-parts (slice_get marks (p.0 + 1)) (at_id s.entries (p.0 + 1)) d p.2 in (
          p.0 + 1,
          q.1,
          q.2,
          q.3,
          (is (p.0 + 1)).0
              (same_Some (used_by lines (p.0 + 1)) true (sym (m (p.0 + 1) (omega (arith, p.1, w))) ∙ q.0)),
        )

    from : (d : ℕ) → IsReason s.entries lines d → (place : ℕ) × (place < length s.entries)
        × (demand_of s.entries marks (place + 1) ≡ Some d)
    from d t =
        let h = id-within s.entries t.0 t.1 t.2 in
        let e : t.0 - 1 + 1 ≡ t.0 = omega (arith, h.0) in (
          t.0 - 1,
          omega (arith, h.0, h.1),
          ap (demand_of s.entries marks) e
              ∙ demand-made (slice_get marks t.0) (at_id s.entries t.0) t.1 d
              (m t.0 (omega (arith, h.1, w)) ∙ ap Some ((is t.0).1 t.4)) t.2 t.3,
        )

-- there is a mark for each clause that is learnt
known-most : (bits : List Lit) (known : List (List Lit)) (l : Line) → length (with_added known (added bits l)) ≤ length known + 1
known-most bits known l = by-option (added bits l)
  where
    push : {T : Type 0} (xs : List T) (y : T) → length (xs ++ y ∷ []) ≡ length xs + 1
    push [] y = omega arith
    push (x ∷ xs) y = ap suc (push xs y) ∙ omega arith

    by-option : (o : Option (List Lit)) → length (with_added known o) ≤ length known + 1
    by-option None = omega arith
    by-option (Some c) = let h = push known c in omega (arith, h)

rooms : (bits : List Lit) (known : List (List Lit)) (n size : ℕ) (ls : List Line) → EachLine (LineHolds bits) bits known n ls
    → length known + length ls < size → AllLines (HasRoom size) ls
rooms bits known n size [] e h = tt
rooms bits known n size (l ∷ ls) e h =
    (by-line l refl, rooms bits (with_added known (added bits l)) (n + settles l) size ls e.1 (omega (arith, h, known-most bits known l)))
  where
    by-line : (k : Line) → l ≡ k → HasRoom size k
    by-line (Learnt id c chain) q = let g : LineHolds bits known n (Learnt id c chain) = subst (LineHolds bits known n) q e.0 in
        omega (arith, h, g.0)
    by-line (Header a b d) q = tt
    by-line (Zero id b) q = tt
    by-line (One id b chain) q = tt
    by-line (Unsat chain) q = tt
    by-line Spent q = tt
    by-line End q = tt

count : (es : List Entry) → length (clauses_of es) ≡ length es
count [] = refl
count (e ∷ es) = ap suc (count es)

pub have-room : (s : Clauses) (lines : List Line) (size : ℕ) → IsRefuted s lines → length s.entries + length lines < size
    → AllLines (HasRoom size) lines
have-room s [] size r h = tt
have-room s (l ∷ ls) size r h =
    (subst (HasRoom size) (sym r.1.sound.0) tt, rooms r.0 (clauses_of s.entries) 0 size ls r.1.sound.1 (omega (arith, h, count s.entries)))
