-- A block is checked as its lines are one after the other.
use Rattle.std.proofs.Common.{◌≡◌, ℕ, zero, suc, ◌+◌, ◌≤◌, Bool, true, false, ◌&&◌, ◌||◌, not, List, [], ◌∷◌, ◌++◌, take, drop, Option, Some, None, length, refl, sym, ◌∙◌, subst, ap, arith, leb, eqb, append_assoc}
use Rattle.std.specs.Prelude.{if◌then◌else◌, Result, Ok, IfOk}
use Rattle.std.proofs.lemmas.Option.{none-some, same_Some}
use Rattle.std.proofs.lemmas.Bool.{false≢true, le-leb, leb-true}
use Rattle.std.proofs.lemmas.List.{append-nil, take-append-drop}
use Rattle.clause_store.specs.declared.Lit.{Lit}
use Rattle.proof_log.specs.declared.line.Line.{Line}
use Rattle.proof_log.specs.declared.line.Line.TheVariants.{Header, Learnt, Zero, One, Unsat, Spent, End}
use Rattle.proof_log.specs.Lines.{with_added}
use Rattle.log_checker.specs.declared.known.Known.{Known}
use Rattle.log_checker.specs.declared.step.Why.{Why}
use Rattle.log_checker.specs.declared.step.Why.TheVariants.{WrongCounts, OutOfOrder, UnknownId, WrongBit, NotNew}
use Rattle.log_checker.specs.Known.{rivals_in}
use Rattle.log_checker.specs.Steps.{CheckerState, Going, Stopped, or_else, unless, is_first_line, may_stand_later, ids_known, is_among, has_value, ids_fault, derivation_fault, own_line_fault, place_fault, plain_fault, fault, noted, accept, run_lines}
use Rattle.log_checker.specs.Blocks.{taken, take_in, own_chain, found, first_bad, either, is_late, verdict, one_more, progress_of, Grows}
use Rattle.log_checker.proofs.Faults.{or_else-parts, unless-true}
use Rattle.log_checker.proofs.Accepted.{stopped-stays, run-accept, run-refuse}
use Rattle.log_checker.proofs.Later.{own-later, own-now}

-- which of the rules a refusal without a chain is by
unless-why : (b : Bool) (v w : Why) → unless b v ≡ Some w → v ≡ w
unless-why true v w e = absurd (none-some w e)
unless-why false v w e = same_Some v w e

ids-why : (n : ℕ) (l : Line) (w : Why) → ids_fault n l ≡ Some w → UnknownId ≡ w
ids-why n (Learnt id c chain) w e = unless-why (ids_known n chain) UnknownId w e
ids-why n (One id b chain) w e = unless-why (ids_known n chain) UnknownId w e
ids-why n (Unsat chain) w e = unless-why (ids_known n chain) UnknownId w e
ids-why n (Header vars clauses bits) w e = absurd (none-some w e)
ids-why n (Zero id b) w e = absurd (none-some w e)
ids-why n Spent w e = absurd (none-some w e)
ids-why n End w e = absurd (none-some w e)

place-early : (s : CheckerState) (l : Line) (w : Why) → place_fault s l ≡ Some w → is_late w ≡ false
place-early s l w e = by (eqb s.lines 0) e
  where
    behind : (o : Option Why) → unless (not s.ended && may_stand_later s l) OutOfOrder ≡ o
        → or_else o (ids_fault (length s.known) l) ≡ Some w
        → is_late w ≡ false
    behind None q f = subst (λ v. is_late v ≡ false) (ids-why (length s.known) l w f) refl
    behind (Some v) q f = subst (λ v. is_late v ≡ false) (unless-why (not s.ended && may_stand_later s l) OutOfOrder v q
        ∙ same_Some v w f) refl

    by : (b : Bool)
        → (if b then unless (is_first_line s l) WrongCounts else or_else (unless (not s.ended && may_stand_later s l) OutOfOrder)
        (ids_fault (length s.known) l)) ≡ Some w → is_late w ≡ false
    by true f = subst (λ v. is_late v ≡ false) (unless-why (is_first_line s l) WrongCounts w f) refl
    by false f = behind (unless (not s.ended && may_stand_later s l) OutOfOrder) refl f

own-late : (s : CheckerState) (l : Line) (w : Why) → own_line_fault s l ≡ Some w → is_late w ≡ true
own-late s (Learnt id c chain) w e = subst (λ v. is_late v ≡ true) (unless-why (not (is_among (rivals_in s.known) c)) NotNew w e) refl
own-late s (Zero id b) w e = subst (λ v. is_late v ≡ true) (unless-why (has_value s b false) WrongBit w e) refl
own-late s (One id b chain) w e = subst (λ v. is_late v ≡ true) (unless-why (has_value s b true) WrongBit w e) refl
own-late s (Header vars clauses bits) w e = absurd (none-some w e)
own-late s (Unsat chain) w e = absurd (none-some w e)
own-late s Spent w e = absurd (none-some w e)
own-late s End w e = absurd (none-some w e)

begun-ids : (s : CheckerState) (l : Line) → is_first_line s l ≡ true → ids_fault (length s.known) l ≡ None
begun-ids s (Header vars clauses bits) e = refl
begun-ids s (Learnt id c chain) e = absurd (false≢true e)
begun-ids s (Zero id b) e = absurd (false≢true e)
begun-ids s (One id b chain) e = absurd (false≢true e)
begun-ids s (Unsat chain) e = absurd (false≢true e)
begun-ids s Spent e = absurd (false≢true e)
begun-ids s End e = absurd (false≢true e)

pub place-ids : (s : CheckerState) (l : Line) → place_fault s l ≡ None → ids_fault (length s.known) l ≡ None
place-ids s l e = by (eqb s.lines 0) e
  where
    by : (b : Bool)
        → (if b then unless (is_first_line s l) WrongCounts else or_else (unless (not s.ended && may_stand_later s l) OutOfOrder)
        (ids_fault (length s.known) l)) ≡ None → ids_fault (length s.known) l ≡ None
    by true f = begun-ids s l (unless-true (is_first_line s l) WrongCounts f)
    by false f = (or_else-parts (unless (not s.ended && may_stand_later s l) OutOfOrder) (ids_fault (length s.known) l) f).1

-- the faults of a line, apart
faults : (s : CheckerState) (l : Line) → (p d o : Option Why) → place_fault s l ≡ p → derivation_fault s.bits s.known l ≡ d
    → own_line_fault s l ≡ o
    → fault s l ≡ or_else p (or_else d o)
faults s l p d o e f g = ap (λ x. or_else x (or_else (derivation_fault s.bits s.known l) (own_line_fault s l))) e
    ∙ ap (λ x. or_else p (or_else x (own_line_fault s l))) f ∙ ap (λ x. or_else p (or_else d x)) g

not-above : (n : ℕ) → leb (n + 1) n ≡ false
not-above n = go (leb (n + 1) n) refl
  where
    go : (b : Bool) → leb (n + 1) n ≡ b → leb (n + 1) n ≡ false
    go false e = e
    go true e = absurd (omega (arith, leb-true (n + 1) n e))

pub record IsTaken (s : CheckerState) (ls : List Line) (t : CheckerState) (w : Option Why) : Type 0 where
  pub count : ℕ
  pub lines : t.lines ≡ s.lines + count
  pub within : count + one_more w ≤ length ls
  pub grows : Grows s t
  pub same : run_lines (Going s) ls ≡ progress_of t
      (verdict t.lines w (first_bad t.bits t.known (s.lines + 1) (take (count + one_more w) ls)))

grows-self : (s : CheckerState) → Grows s s
grows-self s = ([], ap (λ ks. record s { known = ks }) (sym (append-nil s.known)))

noted-more : (ks : List Known) (o : Option Known) → (more : List Known) × (with_added ks o ≡ ks ++ more)
noted-more ks None = ([], sym (append-nil ks))
noted-more ks (Some k) = (k ∷ [], refl)

grows-accept : (s : CheckerState) (l : Line) (t : CheckerState) → Grows (accept s l) t → Grows s t
grows-accept s l t g =
    let m = noted-more s.known (noted s.bits l) in (
      m.0 ++ g.0,
      g.1 ∙ ap (λ ks. record s { known = ks; lines = t.lines; settled = t.settled; ended = t.ended })
          (ap (λ ks. ks ++ g.0) m.1 ∙ append_assoc s.known m.0 g.0),
    )

-- a line that was taken: the rest, and what its own chain says
chain-later : (s t : CheckerState) (l : Line) → Grows s t → ids_fault (length s.known) l ≡ None
    → own_chain t.bits t.known l ≡ derivation_fault s.bits s.known l
chain-later s t l g u = ap (λ (x : CheckerState). own_chain x.bits x.known l) g.1 ∙ own-later s.bits s.known g.0 l u

pub taken-in : (s : CheckerState) (ls : List Line) → IsTaken s ls (take_in s ls).0 (take_in s ls).1
taken-in s [] = record { count = 0; lines = omega arith; within = omega arith; grows = grows-self s; same = refl }
taken-in s (l ∷ ls) = go (plain_fault s l) refl (taken-in (accept s l) ls)
  where
    n : ℕ
    n = s.lines + 1

    -- what is found where the line is the last to be checked
    last : (w : Why) → or_else (place_fault s l) (own_line_fault s l) ≡ Some w
        → run_lines (Going s) (l ∷ ls) ≡ progress_of s (verdict s.lines (Some w) (found n (own_chain s.bits s.known l) None))
    last w e = by (place_fault s l) refl (derivation_fault s.bits s.known l) refl (own_line_fault s l) refl
      where
        early : is_late w ≡ false → (o : Option Why) → progress_of s (verdict s.lines (Some w) (found n o None)) ≡ Stopped n w
        early q None = refl
        early q (Some v) = ap (λ b. progress_of s (if b || is_late w then Some (n, v) else Some (n, w))) (not-above s.lines)
            ∙ ap (λ b. progress_of s (if b then Some (n, v) else Some (n, w))) q

        whole : (p o : Option Why) → place_fault s l ≡ p → own_line_fault s l ≡ o → or_else p o ≡ Some w
        whole p o f g = ap (λ x. or_else x o) (sym f) ∙ ap (or_else (place_fault s l)) (sym g) ∙ e

        by : (p : Option Why) → place_fault s l ≡ p → (d : Option Why) → derivation_fault s.bits s.known l ≡ d → (o : Option Why)
            → own_line_fault s l ≡ o → run_lines (Going s) (l ∷ ls) ≡ progress_of s
            (verdict s.lines (Some w) (found n (own_chain s.bits s.known l) None))
        by (Some v) f d g o h =
            let same : v ≡ w = same_Some v w (whole (Some v) o f h) in
            run-refuse s l ls w (faults s l (Some v) d o f g h ∙ ap Some same)
            ∙ sym (early (place-early s l w (f ∙ ap Some same)) (own_chain s.bits s.known l))
        by None f (Some v) g o h =
            run-refuse s l ls v (faults s l None (Some v) o f g h)
            ∙ sym (ap (λ x. progress_of s (verdict s.lines (Some w) (found n x None))) (own-now s.bits s.known l (place-ids s l f) ∙ g)
            ∙ ap (λ b. progress_of s (if b || is_late w then Some (n, v) else Some (n, w))) (not-above s.lines)
            ∙ ap (λ b. progress_of s (if b then Some (n, v) else Some (n, w))) (own-late s l w (h ∙ whole None o f h)))
        by None f None g o h =
            run-refuse s l ls w (faults s l None None o f g h ∙ whole None o f h)
            ∙ sym (ap (λ x. progress_of s (verdict s.lines (Some w) (found n x None))) (own-now s.bits s.known l (place-ids s l f) ∙ g))

    go : (o : Option Why) → plain_fault s l ≡ o → IsTaken (accept s l) ls (take_in (accept s l) ls).0 (take_in (accept s l) ls).1
        → IsTaken s (l ∷ ls) (taken s o (take_in (accept s l) ls)).0 (taken s o (take_in (accept s l) ls)).1
    go (Some w) e ih = record { count = 0; lines = omega arith; within = omega arith; grows = grows-self s; same = last w e }
    go None e ih = record {
      count = suc ih.count;
      lines = ih.lines ∙ omega arith;
      within = omega (arith, ih.within);
      grows = grows-accept s l t ih.grows;
      same = by (derivation_fault s.bits s.known l) refl;
    }
      where
        t : CheckerState
        t = (take_in (accept s l) ls).0

        w : Option Why
        w = (take_in (accept s l) ls).1

        p : (place_fault s l ≡ None) × (own_line_fault s l ≡ None)
        p = or_else-parts (place_fault s l) (own_line_fault s l) e

        rest : Option (ℕ × Why)
        rest = first_bad t.bits t.known (n + 1) (take (ih.count + one_more w) ls)

        more : take (suc ih.count + one_more w) (l ∷ ls) ≡ l ∷ take (ih.count + one_more w) ls
        more = ap (λ k. take k (l ∷ ls)) (count ih.count (one_more w))
          where
            count : (a b : ℕ) → suc a + b ≡ suc (a + b)
            count a b = omega arith

        at : (d : Option Why) → derivation_fault s.bits s.known l ≡ d
            → first_bad t.bits t.known n (take (suc ih.count + one_more w) (l ∷ ls)) ≡ found n d rest
        at d f = ap (first_bad t.bits t.known n) more
            ∙ ap (λ x. found n x rest) (chain-later s t l (grows-accept s l t ih.grows) (place-ids s l p.0) ∙ f)

        low : leb n t.lines ≡ true
        low = le-leb n t.lines (omega (arith, ih.lines))

        refused : (v : Why) (o : Option Why) → progress_of t (verdict t.lines o (Some (n, v))) ≡ Stopped n v
        refused v None = refl
        refused v (Some u) = ap (λ b. progress_of t (if b || is_late u then Some (n, v) else Some (t.lines + 1, u))) low

        by : (d : Option Why) → derivation_fault s.bits s.known l ≡ d
            → run_lines (Going s) (l ∷ ls) ≡ progress_of t
            (verdict t.lines w (first_bad t.bits t.known n (take (suc ih.count + one_more w) (l ∷ ls))))
        by (Some v) f = run-refuse s l ls v (faults s l None (Some v) None p.0 f p.1)
            ∙ sym (ap (λ x. progress_of t (verdict t.lines w x)) (at (Some v) f) ∙ refused v w)
        by None f = run-accept s l ls (faults s l None None None p.0 f p.1) ∙ ih.same
            ∙ sym (ap (λ x. progress_of t (verdict t.lines w x)) (at None f))

pub checked : (s t : CheckerState) (w : Option Why) (ls : List Line) → (t, w) ≡ take_in s ls → IsTaken s ls t w
checked s t w ls e = subst (λ (p : CheckerState × Option Why). IsTaken s ls p.0 p.1) (sym e) (taken-in s ls)

-- two parts of the lines are searched apart
pub bad-append : (bits : List Lit) (known : List Known) (n : ℕ) (xs ys : List Line)
    → first_bad bits known n (xs ++ ys) ≡ either (first_bad bits known n xs) (first_bad bits known (n + length xs) ys)
bad-append bits known n [] ys = ap (λ k. first_bad bits known k ys) (omega arith)
bad-append bits known n (x ∷ xs) ys = by (own_chain bits known x) (bad-append bits known (n + 1) xs ys)
  where
    by : (o : Option Why) → first_bad bits known (n + 1) (xs ++ ys) ≡ either (first_bad bits known (n + 1) xs)
        (first_bad bits known (n + 1 + length xs) ys)
        → found n o (first_bad bits known (n + 1) (xs ++ ys)) ≡ either (found n o (first_bad bits known (n + 1) xs))
        (first_bad bits known (n + length (x ∷ xs)) ys)
    by (Some w) e = refl
    by None e = e ∙ ap (λ k. either (first_bad bits known (n + 1) xs) (first_bad bits known k ys)) (omega arith)

pub take-count : {T : Type 0} (xs : List T) (k : ℕ) → k ≤ length xs → length (take k xs) ≡ k
take-count [] zero h = refl
take-count [] (suc k) h = absurd (omega (arith, h))
take-count (x ∷ xs) zero h = refl
take-count (x ∷ xs) (suc k) h = ap suc (take-count xs k (omega (arith, h)))

pub halves : (bits : List Lit) (known : List Known) (n k : ℕ) (ls front back : List Line) (one other : Option (ℕ × Why))
    → front ≡ take k ls → back ≡ drop k ls → k ≤ length ls → one ≡ first_bad bits known n front → other ≡ first_bad bits known (n + k) back
    → either one other ≡ first_bad bits known n ls
halves bits known n k ls front back one other e f h p q =
    ap (λ o. either o other) (p ∙ ap (first_bad bits known n) e)
    ∙ ap (either (first_bad bits known n (take k ls))) (q ∙ ap (first_bad bits known (n + k)) f)
    ∙ ap (λ m. either (first_bad bits known n (take k ls)) (first_bad bits known (n + m) (drop k ls))) (sym (take-count ls k h))
    ∙ sym (bad-append bits known n (take k ls) (drop k ls)) ∙ ap (first_bad bits known n) (take-append-drop k ls)

-- a stopped checker stays
pub stopped-run : (s : CheckerState) (o : Option (ℕ × Why)) (p : ℕ × Why) (ls : List Line) → o ≡ Some p
    → run_lines (progress_of s o) ls ≡ progress_of s o
stopped-run s o p ls e = ap (λ o. run_lines (progress_of s o) ls) e ∙ stopped-stays p.0 p.1 ls ∙ sym (ap (progress_of s) e)

pub ok-is : {T E : Type 0} (r : Result T E) (x : T) (P : T → Type 0) → r ≡ Ok x → IfOk r P → P x
ok-is r x P e h = subst (λ r. IfOk r P) e h
