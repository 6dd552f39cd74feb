-- The lines that are accepted to the end are exactly the sound logs of the kind.
use Rattle.std.proofs.Common.{◌≡◌, ◌↔◌, ℕ, ◌+◌, Bool, true, false, List, [], ◌∷◌, ◌++◌, Option, Some, None, inl, inr, length, refl, sym, ◌∙◌, subst, ap, arith}
use Rattle.std.specs.Prelude.{◌&&◌, slice_get, eqb, if◌then◌else◌}
use Rattle.std.specs.Option.{option_map}
use Rattle.std.proofs.lemmas.Bool.Decides.{eqb_tells}
use Rattle.std.proofs.lemmas.Option.{none-some, same_Some}
use Rattle.std.proofs.lemmas.Bool.{and_parts, and_from, false≢true, eqb-true, eq-eqb}
use Rattle.clause_store.specs.declared.Lit.{Lit}
use Rattle.clause_store.specs.Lits.{negation, IsClause}
use Rattle.proof_log.specs.declared.line.Line.{Line}
use Rattle.proof_log.specs.declared.line.Line.TheVariants.{Header, Learnt, Zero, One, Unsat, Spent, End}
use Rattle.proof_log.specs.Known.{AllClauses}
use Rattle.proof_log.specs.Lines.{added, with_added, ends, learnt, EachLine, EndsLast, AllLines}
use Rattle.proof_log.specs.Logs.{LineHolds, AreDistinct}
use Rattle.log_checker.specs.declared.step.Why.{Why}
use Rattle.log_checker.specs.declared.step.Why.TheVariants.{WrongCounts, OutOfOrder, Unfinished}
use Rattle.log_checker.specs.declared.step.Step.TheVariants.{Accepted, Refused}
use Rattle.log_checker.specs.Known.{clauses_in, rivals_in}
use Rattle.log_checker.specs.Steps.{CheckerState, Progress, Going, Stopped, starting_state, unless, is_first_line, fault, or_else, derivation_fault, own_line_fault, accept, after_fault, next_progress, run_lines, told, finish_on}
use Rattle.log_checker.specs.Kinds.{AllSuit, IsSoFar}
use Rattle.log_checker.proofs.Faults.{IsTyped, Keeps, fault-keeps, keeps-fault}
use Rattle.log_checker.proofs.Ids.{clauses-noted, rivals-noted, clauses-known, rivals-known}

-- nothing was refused; nothing was, and the last line ends the log
abbrev pub goes_on : Progress → Bool
goes_on (Going s) = true
goes_on (Stopped n w) = false

abbrev pub has_ended : Progress → Bool
has_ended (Going s) = s.ended
has_ended (Stopped n w) = false

-- some line ends the log
abbrev pub HasEnd : List Line → Type 0
HasEnd [] = ⊥
HasEnd (l ∷ ls) = ends l ≡ false → HasEnd ls

abbrev pub AllTyped : List Line → Type 0
AllTyped ls = AllLines IsTyped ls

pub stopped-stays : (n : ℕ) (w : Why) (ls : List Line) → run_lines (Stopped n w) ls ≡ Stopped n w
stopped-stays n w [] = refl
stopped-stays n w (l ∷ ls) = stopped-stays n w ls

pub run-accept : (s : CheckerState) (l : Line) (ls : List Line) → fault s l ≡ None
    → run_lines (Going s) (l ∷ ls) ≡ run_lines (Going (accept s l)) ls
run-accept s l ls e = ap (λ o. run_lines (after_fault s l o) ls) e

pub run-refuse : (s : CheckerState) (l : Line) (ls : List Line) (w : Why) → fault s l ≡ Some w
    → run_lines (Going s) (l ∷ ls) ≡ Stopped (s.lines + 1) w
run-refuse s l ls w e = ap (λ o. run_lines (after_fault s l o) ls) e ∙ stopped-stays (s.lines + 1) w ls

AllClauses-push : (cs : List (List Lit)) (o : Option (List Lit)) → AllClauses cs → ((c : List Lit) → o ≡ Some c → IsClause c)
    → AllClauses (with_added cs o)
AllClauses-push cs None a f = a
AllClauses-push [] (Some c) a f = (f c refl, tt)
AllClauses-push (d ∷ cs) (Some c) a f = (a.0, AllClauses-push cs (Some c) a.1 f)

added-clause : (bits : List Lit) (l : Line) → IsTyped l → (c : List Lit) → added bits l ≡ Some c → IsClause c
added-clause bits (Learnt id d chain) t c e = subst IsClause (same_Some d c e) t
added-clause bits (Zero id b) t c e = one (λ l. negation l) (slice_get bits b) c e
  where
    one : (f : Lit → Lit) (o : Option Lit) (c : List Lit) → option_map (λ l. f l ∷ []) o ≡ Some c → IsClause c
    one f None c e = absurd (none-some c e)
    one f (Some l) c e = subst IsClause (same_Some (f l ∷ []) c e) (tt, tt)
added-clause bits (One id b chain) t c e = one (slice_get bits b) c e
  where
    one : (o : Option Lit) (c : List Lit) → option_map (λ l. l ∷ []) o ≡ Some c → IsClause c
    one None c e = absurd (none-some c e)
    one (Some l) c e = subst IsClause (same_Some (l ∷ []) c e) (tt, tt)
added-clause bits (Header vars clauses n) t c e = absurd (none-some c e)
added-clause bits (Unsat chain) t c e = absurd (none-some c e)
added-clause bits Spent t c e = absurd (none-some c e)
added-clause bits End t c e = absurd (none-some c e)

learnt-clause : (l : Line) → IsTyped l → (c : List Lit) → learnt l ≡ Some c → IsClause c
learnt-clause (Learnt id d chain) t c e = subst IsClause (same_Some d c e) t
learnt-clause (Header vars clauses n) t c e = absurd (none-some c e)
learnt-clause (Zero id b) t c e = absurd (none-some c e)
learnt-clause (One id b chain) t c e = absurd (none-some c e)
learnt-clause (Unsat chain) t c e = absurd (none-some c e)
learnt-clause Spent t c e = absurd (none-some c e)
learnt-clause End t c e = absurd (none-some c e)

-- the lines that are left keep the rules
pub record RestOf (bits : List Lit) (values : Option (List Bool)) (known rivals : List (List Lit)) (settled : ℕ)
    (ls : List Line) : Type 0 where
  pub each : EachLine (LineHolds bits) bits known settled ls
  pub last : EndsLast ls
  pub distinct : AreDistinct rivals ls
  pub suit : AllSuit values ls

abbrev pub Rest : CheckerState → List Line → Type 0
Rest s ls = RestOf s.bits s.values (clauses_in s.known) (rivals_in s.known) s.settled ls

-- the rest after a line, in the words of the clauses that the line adds
abbrev pub After : CheckerState → Line → List Line → Type 0
After s l ls = RestOf s.bits s.values (with_added (clauses_in s.known) (added s.bits l)) (with_added (rivals_in s.known) (learnt l))
    (accept s l).settled ls

after-is : (s : CheckerState) (l : Line) (ls : List Line) → Rest (accept s l) ls → After s l ls
after-is s l ls r = subst (λ cs. RestOf s.bits s.values cs (with_added (rivals_in s.known) (learnt l)) (accept s l).settled ls)
    (clauses-noted s.bits s.known l)
    (subst (λ rs. RestOf s.bits s.values (clauses_in (accept s l).known) rs (accept s l).settled ls) (rivals-noted s.bits s.known l) r)

is-after : (s : CheckerState) (l : Line) (ls : List Line) → After s l ls → Rest (accept s l) ls
is-after s l ls r = subst (λ rs. RestOf s.bits s.values (clauses_in (accept s l).known) rs (accept s l).settled ls)
    (sym (rivals-noted s.bits s.known l))
    (subst (λ cs. RestOf s.bits s.values cs (with_added (rivals_in s.known) (learnt l)) (accept s l).settled ls)
    (sym (clauses-noted s.bits s.known l)) r)

-- a log that has begun, and whose clauses are in order
pub record IsUnderWay (s : CheckerState) : Type 0 where
  pub begun : eqb s.lines 0 ≡ false
  pub known : AllClauses (clauses_in s.known)
  pub rivals : AllClauses (rivals_in s.known)

begun_later : (n : ℕ) → eqb (n + 1) 0 ≡ false
begun_later n = elim (eqb_tells (n + 1) 0) [ inl h ↦ absurd (omega (arith, h.1)) | inr h ↦ h.0 ]

later : (s : CheckerState) (l : Line) → IsUnderWay s → IsTyped l → IsUnderWay (accept s l)
later s l g t = record {
  begun = begun_later s.lines;
  known = subst AllClauses (sym (clauses-noted s.bits s.known l))
      (AllClauses-push (clauses_in s.known) (added s.bits l) g.known (added-clause s.bits l t));
  rivals = subst AllClauses (sym (rivals-noted s.bits s.known l))
      (AllClauses-push (rivals_in s.known) (learnt l) g.rivals (learnt-clause l t));
}

-- after the end each line is refused
over : (s : CheckerState) (l : Line) → eqb s.lines 0 ≡ false → s.ended ≡ true → fault s l ≡ Some OutOfOrder
over s l b e = rw (b, e) refl

stuck : (s : CheckerState) (l : Line) (ls : List Line) (w : Why) → fault s l ≡ Some w → goes_on (run_lines (Going s) (l ∷ ls)) ≡ true → ⊥
stuck s l ls w e f = false≢true (sym (ap goes_on (run-refuse s l ls w e)) ∙ f)

over-empty : (s : CheckerState) (ls : List Line) → eqb s.lines 0 ≡ false → s.ended ≡ true
    → goes_on (run_lines (Going s) ls) ≡ true → ls ≡ []
over-empty s [] b e f = refl
over-empty s (l ∷ ls) b e f = absurd (stuck s l ls OutOfOrder (over s l b e) f)

nothing-left : (s : CheckerState) (ls : List Line) → ls ≡ [] → Rest s ls
nothing-left s ls q = subst (Rest s) (sym q) (record { each = tt; last = tt; distinct = tt; suit = tt })

pub fine-rest : (s : CheckerState) (ls : List Line) → s.ended ≡ false → IsUnderWay s → AllTyped ls
    → goes_on (run_lines (Going s) ls) ≡ true → Rest s ls
fine-rest s [] o g t f = record { each = tt; last = tt; distinct = tt; suit = tt }
fine-rest s (l ∷ ls) o g t f = go (fault s l) refl (λ e h. fine-rest (accept s l) ls e (later s l g t.0) t.1 h)
  where
    join : Keeps s l → (ends l ≡ true → ls ≡ []) → After s l ls → Rest s (l ∷ ls)
    join k e h = record { each = (k.0, h.each); last = (e, h.last); distinct = (k.1, h.distinct); suit = (k.2, h.suit) }

    go : (w : Option Why) → fault s l ≡ w → (ends l ≡ false → goes_on (run_lines (Going (accept s l)) ls) ≡ true → Rest (accept s l) ls)
        → Rest s (l ∷ ls)
    go (Some w) e ih = absurd (stuck s l ls w e f)
    go None e ih = by (ends l) refl
      where
        after : goes_on (run_lines (Going (accept s l)) ls) ≡ true
        after = ap goes_on (sym (run-accept s l ls e)) ∙ f

        last : ends l ≡ true → ls ≡ []
        last x = over-empty (accept s l) ls (later s l g t.0).begun x after

        by : (b : Bool) → ends l ≡ b → Rest s (l ∷ ls)
        by true x = join (fault-keeps s l g.known g.rivals t.0 g.begun o e) last (after-is s l ls (nothing-left (accept s l) ls (last x)))
        by false x = join (fault-keeps s l g.known g.rivals t.0 g.begun o e) last (after-is s l ls (ih x after))

pub rest-fine : (s : CheckerState) (ls : List Line) → s.ended ≡ false → IsUnderWay s → AllTyped ls → Rest s ls
    → goes_on (run_lines (Going s) ls) ≡ true
rest-fine s [] o g t h = refl
rest-fine s (l ∷ ls) o g t h = ap goes_on (run-accept s l ls (keeps-fault s l g.known g.begun o (h.each.0, h.distinct.0, h.suit.0)))
    ∙ by (ends l) refl (λ e. rest-fine (accept s l) ls e (later s l g t.0) t.1
    (is-after s l ls (record { each = h.each.1; last = h.last.1; distinct = h.distinct.1; suit = h.suit.1 })))
  where
    by : (b : Bool) → ends l ≡ b → (ends l ≡ false → goes_on (run_lines (Going (accept s l)) ls) ≡ true)
        → goes_on (run_lines (Going (accept s l)) ls) ≡ true
    by true x ih = subst (λ xs. goes_on (run_lines (Going (accept s l)) xs) ≡ true) (sym (h.last.0 x)) refl
    by false x ih = ih x

-- the first line
first-is_head : (vars : ℕ) (input : List (List Lit)) (bits : List Lit) (values : Option (List Bool)) (l : Line)
    → is_first_line (starting_state vars input bits values) l ≡ true → l ≡ Header vars (length input) (length bits)
first-is_head vars input bits values (Header v c b) e =
    let p = and_parts (eqb v vars) (eqb c (length input) && eqb b (length bits)) e in
    let q = and_parts (eqb c (length input)) (eqb b (length bits)) p.1 in
    rw (eqb-true v vars p.0, eqb-true c (length input) q.0, eqb-true b (length bits) q.1) refl
first-is_head vars input bits values (Learnt id c chain) e = absurd (false≢true e)
first-is_head vars input bits values (Zero id b) e = absurd (false≢true e)
first-is_head vars input bits values (One id b chain) e = absurd (false≢true e)
first-is_head vars input bits values (Unsat chain) e = absurd (false≢true e)
first-is_head vars input bits values Spent e = absurd (false≢true e)
first-is_head vars input bits values End e = absurd (false≢true e)

opens : (vars : ℕ) (input : List (List Lit)) (bits : List Lit) (values : Option (List Bool))
    → is_first_line (starting_state vars input bits values) (Header vars (length input) (length bits)) ≡ true
opens vars input bits values = and_from (eqb vars vars) (eqb (length input) (length input) && eqb (length bits) (length bits))
    (eq-eqb vars vars refl) (and_from (eqb (length input) (length input)) (eqb (length bits) (length bits))
    (eq-eqb (length input) (length input) refl) (eq-eqb (length bits) (length bits) refl))

-- nothing was refused exactly where the lines so far are a sound log of the kind, or none at all
pub accepted-so_far : (vars : ℕ) (input : List (List Lit)) (bits : List Lit) (values : Option (List Bool)) (ls : List Line)
    → AllClauses input → AllTyped ls → (goes_on (run_lines (Going (starting_state vars input bits values)) ls) ≡ true)
    ↔ IsSoFar vars input bits values ls
accepted-so_far vars input bits values [] a t = ((λ e. tt), (λ h. refl))
accepted-so_far vars input bits values (l ∷ ls) a t = (to, from)
  where
    s : CheckerState
    s = starting_state vars input bits values

    head : Line
    head = Header vars (length input) (length bits)

    going : IsUnderWay (accept s head)
    going = record {
      begun = refl;
      known = subst AllClauses (sym (clauses-known input)) a;
      rivals =
          subst AllClauses (sym (rivals-known input)) a;
    }

    of_start : RestOf bits values (clauses_in (accept s head).known) (rivals_in (accept s head).known) 0 ls
        → RestOf bits values input input 0 ls
    of_start r = subst (λ cs. RestOf bits values cs input 0 ls) (clauses-known input)
        (subst (λ rs. RestOf bits values (clauses_in (accept s head).known) rs 0 ls) (rivals-known input) r)

    to_start : RestOf bits values input input 0 ls
        → RestOf bits values (clauses_in (accept s head).known) (rivals_in (accept s head).known) 0 ls
    to_start r = subst (λ rs. RestOf bits values (clauses_in (accept s head).known) rs 0 ls) (sym (rivals-known input))
        (subst (λ cs. RestOf bits values cs input 0 ls) (sym (clauses-known input)) r)

    clear : fault s head ≡ None
    clear = ap (λ b. or_else (unless b WrongCounts) None) (opens vars input bits values)

    wrong : is_first_line s l ≡ false → fault s l ≡ Some WrongCounts
    wrong e = ap (λ b. or_else (unless b WrongCounts) (or_else (derivation_fault bits s.known l) (own_line_fault s l))) e

    to : goes_on (run_lines (Going s) (l ∷ ls)) ≡ true → IsSoFar vars input bits values (l ∷ ls)
    to f = go (is_first_line s l) refl
      where
        go : (b : Bool) → is_first_line s l ≡ b → IsSoFar vars input bits values (l ∷ ls)
        go false e = absurd (stuck s l ls WrongCounts (wrong e) f)
        go true e =
            let q : l ≡ head = first-is_head vars input bits values l e in
            let g : goes_on (run_lines (Going s) (head ∷ ls)) ≡ true = subst (λ x. goes_on (run_lines (Going s) (x ∷ ls)) ≡ true) q f in
            let r = of_start (fine-rest (accept s head) ls refl going t.1 (sym (ap goes_on (run-accept s head ls clear)) ∙ g)) in
            subst (λ x. IsSoFar vars input bits values (x ∷ ls)) (sym q) ((refl, r.each, r.last), (tt, r.distinct), (tt, r.suit))

    from : IsSoFar vars input bits values (l ∷ ls) → goes_on (run_lines (Going s) (l ∷ ls)) ≡ true
    from h = subst (λ x. IsSoFar vars input bits values (x ∷ ls) → goes_on (run_lines (Going s) (x ∷ ls)) ≡ true) (sym h.0.0) held h
      where
        held : IsSoFar vars input bits values (head ∷ ls) → goes_on (run_lines (Going s) (head ∷ ls)) ≡ true
        held k = ap goes_on (run-accept s head ls clear)
            ∙ rest-fine (accept s head) ls refl going t.1 (to_start (record { each = k.0.1; last = k.0.2; distinct = k.1.1; suit = k.2.1 }))

-- what was not refused has ended exactly where some line ends it
pub ended-is : (s : CheckerState) (ls : List Line) → goes_on (run_lines (Going s) ls) ≡ true → s.ended ≡ false
    → (has_ended (run_lines (Going s) ls) ≡ true) ↔ HasEnd ls
ended-is s [] f o = ((λ e. absurd (false≢true (sym o ∙ e))), (λ h. absurd h))
ended-is s (l ∷ ls) f o = go (fault s l) refl (λ h e. ended-is (accept s l) ls h e)
  where
    go : (w : Option Why) → fault s l ≡ w
        → (goes_on (run_lines (Going (accept s l)) ls) ≡ true → ends l ≡ false
        → (has_ended (run_lines (Going (accept s l)) ls) ≡ true) ↔ HasEnd ls)
        → (has_ended (run_lines (Going s) (l ∷ ls)) ≡ true) ↔ HasEnd (l ∷ ls)
    go (Some w) e ih = absurd (stuck s l ls w e f)
    go None e ih = by (ends l) refl
      where
        same : run_lines (Going s) (l ∷ ls) ≡ run_lines (Going (accept s l)) ls
        same = run-accept s l ls e

        after : goes_on (run_lines (Going (accept s l)) ls) ≡ true
        after = ap goes_on (sym same) ∙ f

        by : (b : Bool) → ends l ≡ b → (has_ended (run_lines (Going s) (l ∷ ls)) ≡ true) ↔ HasEnd (l ∷ ls)
        by true x = (
          (λ d z. absurd (false≢true (sym z ∙ x))),
          (λ d. ap has_ended same ∙ subst (λ xs. has_ended (run_lines (Going (accept s l)) xs) ≡ true)
              (sym (over-empty (accept s l) ls (begun_later s.lines) x after)) x),
        )
        by false x = let h = ih after x in ((λ d z. h.0 (ap has_ended (sym same) ∙ d)), (λ d. ap has_ended same ∙ h.1 (d x)))

differ : (n : ℕ) (w : Why) → Refused n w ≡ Accepted → ⊥
differ n w q = cc

pub finish-is : (p : Progress) → (finish_on p ≡ Accepted) ↔ ((goes_on p ≡ true) × (has_ended p ≡ true))
finish-is (Stopped n w) = ((λ e. absurd (differ n w e)), (λ h. absurd (false≢true h.0)))
finish-is (Going s) = (to s.ended refl, (λ h. ap (λ b. if b then Accepted else Refused (s.lines + 1) Unfinished) h.1))
  where
    to : (b : Bool) → s.ended ≡ b → finish_on (Going s) ≡ Accepted → (true ≡ true) × (s.ended ≡ true)
    to true f e = (refl, f)
    to false f e = absurd (differ (s.lines + 1) Unfinished (sym (ap (λ b. if b then Accepted else Refused (s.lines + 1) Unfinished) f) ∙ e))

pub told-is : (p : Progress) → (told p ≡ Accepted) ↔ (goes_on p ≡ true)
told-is (Going s) = ((λ e. refl), (λ e. refl))
told-is (Stopped n w) = ((λ e. absurd (differ n w e)), (λ e. absurd (false≢true e)))

pub run-append : (p : Progress) (ls ms : List Line) → run_lines p (ls ++ ms) ≡ run_lines (run_lines p ls) ms
run-append p [] ms = refl
run-append p (l ∷ ls) ms = run-append (next_progress p l) ls ms
