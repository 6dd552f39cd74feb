-- The copy of the input, and what a position keeps.
use Prim.Native.Nat.{zero, suc}
use Rattle.std.proofs.Common.{◌≡◌, ℕ, ◌+◌, ◌≤◌, Bool, true, false, ◌&&◌, not, List, [], ◌∷◌, ◌++◌, drop, Option, Some, None, length, refl, sym, ◌∙◌, subst, ap, arith, append_assoc, slice_get, eqb}
use Rattle.std.specs.Prelude.{if◌then◌else◌, is_some}
use Rattle.std.specs.Option.{option_map}
use Rattle.std.proofs.lemmas.Option.{none-some, same_Some}
use Rattle.std.proofs.lemmas.Bool.{false≢true, and_parts, eqb-true}
use Rattle.std.proofs.lemmas.List.{append-nil, drop_all}
use Rattle.clause_store.specs.declared.Lit.{Lit}
use Rattle.clause_store.specs.declared.list.Entry.{Entry}
use Rattle.clause_store.specs.Lits.{negation}
use Rattle.clause_store.specs.Clauses.{clauses_of, at_id}
use Rattle.proof_log.specs.declared.line.Line.{Line}
use Rattle.proof_log.specs.declared.line.Line.TheVariants.{Header, Learnt, Zero, One, Unsat, Spent, End}
use Rattle.proof_log.specs.Lines.{with_added, ends}
use Rattle.log_checker.specs.declared.known.Known.{Known}
use Rattle.log_checker.specs.declared.step.Why.TheVariants.{WrongCounts, OutOfOrder}
use Rattle.log_checker.specs.Known.{rival, of_bit, as_known}
use Rattle.log_checker.specs.Steps.{CheckerState, or_else, unless, is_first_line, next_id, next_bit, may_stand_later, ids_fault, own_line_fault, place_fault, plain_fault, noted}
use Rattle.clause_store.specs.Lits.{IsClause}
use Rattle.proof_log.specs.Known.{AllClauses}
use Rattle.log_checker.specs.Known.{clauses_in}
use Rattle.log_checker.specs.Steps.{starting_state}
use Rattle.proof_log.specs.Lines.{settles}
use Rattle.log_checker.proofs.Faults.{or_else-parts, unless-true, bit-next}
use Rattle.log_checker.proofs.Ids.{clauses-append, clauses-known}

id-place : {T : Type 0} (xs : List T) (k : ℕ) → at_id xs (k + 1) ≡ slice_get xs k
id-place xs k = ap (at_id xs) (next k)
  where
    next : (n : ℕ) → n + 1 ≡ suc n
    next n = omega arith

drop-get : {T : Type 0} (xs : List T) (k : ℕ) (x : T) → slice_get xs k ≡ Some x → drop k xs ≡ x ∷ drop (suc k) xs
drop-get [] k x e = absurd (none-some x e)
drop-get (y ∷ []) zero x e = ap (λ z. z ∷ []) (same_Some y x e)
drop-get (y ∷ z ∷ xs) zero x e = ap (λ w. w ∷ z ∷ xs) (same_Some y x e)
drop-get (y ∷ xs) (suc k) x e = drop-get xs k x e

drop-none : {T : Type 0} (xs : List T) (k : ℕ) → slice_get xs k ≡ None → (drop k xs ≡ []) × (drop (suc k) xs ≡ [])
drop-none [] zero e = (refl, refl)
drop-none [] (suc k) e = (refl, refl)
drop-none (x ∷ xs) zero e = absurd (none-some x (sym e))
drop-none (x ∷ xs) (suc k) e = drop-none xs k e

add-one : (k : ℕ) → k + 1 ≡ suc k
add-one k = omega arith

-- the clauses copied so far, and those that are left
abbrev pub IsCopied : List (List Lit) → ℕ → List Known → Type 0
IsCopied cs k st = st ++ as_known (drop k cs) ≡ as_known cs

pub copied : (cs : List (List Lit)) (k : ℕ) (c : List Lit) (st new : List Known) → Some c ≡ at_id cs (k + 1) → new ≡ st ++ rival c ∷ []
    → IsCopied cs k st → IsCopied cs (k + 1) new
copied cs k c st new e q h =
    ap (λ ks. ks ++ as_known (drop (k + 1) cs)) q ∙ append_assoc st (rival c ∷ []) (as_known (drop (k + 1) cs))
    ∙ ap (λ n. st ++ rival c ∷ as_known (drop n cs)) (add-one k)
    ∙ sym (ap (λ ds. st ++ as_known ds) (drop-get cs k c (sym (e ∙ id-place cs k)))) ∙ h

pub passed : (cs : List (List Lit)) (k : ℕ) (st : List Known) → None ≡ at_id cs (k + 1) → IsCopied cs k st → IsCopied cs (k + 1) st
passed cs k st e h =
    let d = drop-none cs k (sym (e ∙ id-place cs k)) in
    ap (λ n. st ++ as_known (drop n cs)) (add-one k) ∙ ap (λ ds. st ++ as_known ds) (d.1 ∙ sym d.0) ∙ h

clauses-count : (es : List Entry) → length (clauses_of es) ≡ length es
clauses-count [] = refl
clauses-count (e ∷ es) = ap suc (clauses-count es)

pub all-copied : (es : List Entry) (k : ℕ) (st : List Known) → length es ≤ k → IsCopied (clauses_of es) k st → st ≡ as_known (clauses_of es)
all-copied es k st h i = sym (append-nil st)
    ∙ ap (λ ds. st ++ as_known ds) (sym (drop_all k (clauses_of es) (subst (λ n. n ≤ k) (sym (clauses-count es)) h))) ∙ i

pub known-count : (cs : List (List Lit)) → length (as_known cs) ≡ length cs
known-count [] = refl
known-count (c ∷ cs) = ap suc (known-count cs)

-- each line but the first and the last makes a clause known
abbrev pub slack : Bool → ℕ
slack b = if b then 2 else 1

slack-least : (b : Bool) → 1 ≤ slack b
slack-least true = omega arith
slack-least false = omega arith

length-more : (ks : List Known) (k : Known) → length (ks ++ k ∷ []) ≡ length ks + 1
length-more [] k = omega arith
length-more (j ∷ ks) k = ap suc (length-more ks k) ∙ omega arith

room-open : (s : CheckerState) (l : Line) → s.lines ≤ length s.known + 1 → may_stand_later s l ≡ true
    → s.lines + 1 ≤ length (with_added s.known (noted s.bits l)) + slack (ends l)
room-open s (Header vars clauses bits) h m = absurd (false≢true m)
room-open s (Learnt id c chain) h m = omega (arith, h, length-more s.known (rival c))
room-open s (Zero id b) h m =
    let p = and_parts (is_some s.values) (next_id s id && next_bit s b) m in
    let n = bit-next s b (and_parts (next_id s id) (next_bit s b) p.1).1 in
    subst (λ o. s.lines + 1 ≤ length (with_added s.known (option_map (λ l. of_bit (negation l ∷ [])) o)) + 1)
    (sym (ap (slice_get s.bits) n.0 ∙ n.2)) (omega (arith, h, length-more s.known (of_bit (negation n.1 ∷ []))))
room-open s (One id b chain) h m =
    let p = and_parts (is_some s.values) (next_id s id && next_bit s b) m in
    let n = bit-next s b (and_parts (next_id s id) (next_bit s b) p.1).1 in
    subst (λ o. s.lines + 1 ≤ length (with_added s.known (option_map (λ l. of_bit (l ∷ [])) o)) + 1)
    (sym (ap (slice_get s.bits) n.0 ∙ n.2)) (omega (arith, h, length-more s.known (of_bit (n.1 ∷ []))))
room-open s (Unsat chain) h m = omega (arith, h)
room-open s Spent h m = absurd (false≢true m)
room-open s End h m = omega (arith, h)

pub room : (s : CheckerState) (l : Line) → plain_fault s l ≡ None → s.lines ≤ length s.known + slack s.ended
    → s.lines + 1 ≤ length (with_added s.known (noted s.bits l)) + slack (ends l)
room s l e h = by (eqb s.lines 0) refl (or_else-parts (place_fault s l) (own_line_fault s l) e).0
  where
    none : eqb s.lines 0 ≡ true → s.lines + 1 ≤ length (with_added s.known (noted s.bits l)) + slack (ends l)
    none q = let z = eqb-true s.lines 0 q in omega (arith, z, slack-least (ends l))

    more : (b : Bool) → s.ended ≡ b → unless (not s.ended && may_stand_later s l) OutOfOrder ≡ None
        → s.lines + 1 ≤ length (with_added s.known (noted s.bits l)) + slack (ends l)
    more true q f =
        absurd (false≢true (sym (ap (λ b. not b && may_stand_later s l) q) ∙ unless-true (not s.ended && may_stand_later s l) OutOfOrder f))
    more false q f = room-open s l (subst (λ b. s.lines ≤ length s.known + slack b) q h)
        (sym (ap (λ b. not b && may_stand_later s l) q) ∙ unless-true (not s.ended && may_stand_later s l) OutOfOrder f)

    by : (b : Bool) → eqb s.lines 0 ≡ b
        → (if b then unless (is_first_line s l) WrongCounts else or_else (unless (not s.ended && may_stand_later s l) OutOfOrder)
        (ids_fault (length s.known) l)) ≡ None → s.lines + 1 ≤ length (with_added s.known (noted s.bits l)) + slack (ends l)
    by true q f = none q
    by false q f =
        more s.ended refl (or_else-parts (unless (not s.ended && may_stand_later s l) OutOfOrder) (ids_fault (length s.known) l) f).0

-- the copied clauses are in order
each-push : (cs : List (List Lit)) (c : List Lit) → AllClauses cs → IsClause c → AllClauses (cs ++ c ∷ [])
each-push [] c a i = (i, tt)
each-push (d ∷ cs) c a i = (a.0, each-push cs c a.1 i)

pub ordered-push : (st new : List Known) (c : List Lit) → new ≡ st ++ rival c ∷ [] → AllClauses (clauses_in st) → IsClause c
    → AllClauses (clauses_in new)
ordered-push st new c e a i = subst AllClauses (sym (ap clauses_in e ∙ clauses-append st (rival c ∷ []))) (each-push (clauses_in st) c a i)

pub ordered-all : (cs : List (List Lit)) (st : List Known) → st ≡ as_known cs → AllClauses (clauses_in st) → AllClauses cs
ordered-all cs st e a = subst AllClauses (ap clauses_in e ∙ clauses-known cs) a

pub made : (vars : ℕ) (input : List (List Lit)) (bits : List Lit) (values : Option (List Bool)) (v n : ℕ) (bs : List Lit)
    (vals : Option (List Bool)) (ks : List Known)
    → v ≡ vars → n ≡ length ks → bs ≡ bits → vals ≡ values → ks ≡ as_known input
    → record {
      vars = v;
      inputs = n;
      bits = bs;
      values = vals;
      known = ks;
      lines = 0;
      settled = 0;
      ended =
          false;
    } ≡ starting_state vars input bits values
made vars input bits values v n bs vals ks e f g h i =
    ap (λ x. record { vars = x; inputs = n; bits = bs; values = vals; known = ks; lines = 0; settled = 0; ended = false }) e
    ∙ ap (λ x. record { vars = vars; inputs = x; bits = bs; values = vals; known = ks; lines = 0; settled = 0; ended = false })
    (f ∙ ap length i ∙ known-count input)
    ∙ ap (λ x. record { vars = vars; inputs = length input; bits = x; values = vals; known = ks; lines = 0; settled = 0; ended = false }) g
    ∙ ap (λ x. record { vars = vars; inputs = length input; bits = bits; values = x; known = ks; lines = 0; settled = 0; ended = false }) h
    ∙ ap (λ x. record {
      vars = vars;
      inputs = length input;
      bits = bits;
      values = values;
      known = x;
      lines = 0;
      settled = 0;
      ended =
          false;
    }) i

pub settles-most : (l : Line) → settles l ≤ 1
settles-most (Header vars clauses bits) = omega arith
settles-most (Learnt id c chain) = omega arith
settles-most (Zero id b) = omega arith
settles-most (One id b chain) = omega arith
settles-most (Unsat chain) = omega arith
settles-most Spent = omega arith
settles-most End = omega arith
