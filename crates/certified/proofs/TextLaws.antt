-- What the answer to a text means.
use Rattle.std.proofs.Common.{◌≡◌, ◌↔◌, ℕ, ◌+◌, Bool, true, false, List, [], ◌∷◌, ◌++◌, Option, Some, None, length, refl, sym, ap, ◌∙◌, arith}
use Rattle.std.specs.Prelude.{◌==◌, ◌||◌, not, if◌then◌else◌}
use Rattle.std.proofs.lemmas.Bool.{eqb-true}
use Rattle.clause_store.specs.declared.Lit.{Lit}
use Rattle.clause_store.specs.Lits.{IsClause}
use Rattle.clause_store.specs.Clauses.{Clauses, clauses_of}
use Rattle.proof_log.specs.declared.line.Line.{Line}
use Rattle.proof_log.specs.declared.line.Line.TheVariants.{Header, Learnt, Zero, One, Unsat, Spent, End}
use Rattle.proof_log.specs.Known.{AllClauses}
use Rattle.proof_log.specs.Lines.{AllLines, OfLearnt}
use Rattle.proof_log.specs.Texts.{line_of, IsLine}
use Rattle.proof_log.specs.Readings.{ReadLines, with_line, with_byte, reading_from, no_bytes, reading, log_text, AtLineStart, AreWritable}
use Rattle.proof_log.proofs.Logs.{AllLines-append}
use Rattle.proof_log.proofs.RangeLaws.{reads-spelled}
use Rattle.proof_log.proofs.ReaderLaws.{line-start}
use Rattle.proof_log.proofs.LogLaws.{log-reads}
use Rattle.log_checker.specs.declared.step.Step.{Step}
use Rattle.log_checker.specs.declared.step.Step.TheVariants.{Accepted, Refused}
use Rattle.log_checker.specs.declared.step.Why.{Why}
use Rattle.log_checker.specs.Steps.{CheckerState, Progress, Going, Stopped, begun, fault, accept, run_lines, told, finish_on}
use Rattle.log_checker.specs.Steps as steps
use Rattle.log_checker.specs.Kinds.{IsLogOf, IsSoFar}
use Rattle.log_checker.proofs.Accepted.{run-accept, run-refuse}
use Rattle.log_checker.proofs.WholeLogs.{accepted-is, so_far-is}
use Rattle.certified.specs.declared.text.TextAnswer.TheVariants.{Checked, BadLine}
use Rattle.certified.specs.Texts.{answer_at, answer_of}

-- the lines of a text are in order of variables
abbrev AreTyped : List Line → Type 0
AreTyped ls = AllLines (λ l. OfLearnt IsClause l) ls

line-typed : (l : Line) → IsLine l → OfLearnt IsClause l
line-typed (Learnt id c chain) h = h.1
line-typed (Header vars clauses bits) h = tt
line-typed (Zero id b) h = tt
line-typed (One id b chain) h = tt
line-typed (Unsat chain) h = tt
line-typed Spent h = tt
line-typed End h = tt

typed-line : (r : ReadLines) (o : Option Line) → line_of r.rest ≡ o → AreTyped r.lines → AreTyped (with_line r o).lines
typed-line r None e a = a
typed-line r (Some l) e a = AllLines-append (λ l. OfLearnt IsClause l) r.lines (l ∷ []) a
    (line-typed l ((reads-spelled r.rest l).0 e).0, tt)

typed-byte : (r : ReadLines) (b : ℕ) → AreTyped r.lines → AreTyped (with_byte r b).lines
typed-byte r b a = by r.failed (b == 10)
  where
    by : (f n : Bool) → AreTyped (if f then r else (if n then with_line r (line_of r.rest) else record r { rest = r.rest ++ b ∷ [] })).lines
    by true n = a
    by false true = typed-line r (line_of r.rest) refl a
    by false false = a

typed-from : (r : ReadLines) (bs : List ℕ) → AreTyped r.lines → AreTyped (reading_from r bs).lines
typed-from r [] a = a
typed-from r (b ∷ bs) a = typed-from (with_byte r b) bs (typed-byte r b a)

pub reading-typed : (bytes : List ℕ) → AreTyped (reading bytes).lines
reading-typed bytes = typed-from no_bytes bytes tt

-- answers apart
checked-inner : (a b : Step) → Checked a ≡ Checked b → a ≡ b
checked-inner a b q = cc

bad-inner : (n m : ℕ) → BadLine n ≡ BadLine m → n ≡ m
bad-inner n m q = cc

refused-apart : (n : ℕ) (w : Why) → Checked (Refused n w) ≡ Checked Accepted → ⊥
refused-apart n w q = cc

bad-apart : (n : ℕ) (a : Step) → BadLine n ≡ Checked a → ⊥
bad-apart n a q = cc

stopped-apart : (n : ℕ) (w : Why) (s : CheckerState) → Stopped n w ≡ Going s → ⊥
stopped-apart n w s q = cc

-- a checker that goes on has counted its lines
run-count : (s : CheckerState) (ls : List Line) (t : CheckerState) → run_lines (Going s) ls ≡ Going t → t.lines ≡ s.lines + length ls
run-count s [] t e = let h : s.lines + 1 ≡ t.lines + 1 = ap steps.line_of e in omega (arith, h)
run-count s (l ∷ ls) t e = by (run-count (accept s l) ls t) (fault s l) refl
  where
    by : (run_lines (Going (accept s l)) ls ≡ Going t → t.lines ≡ s.lines + 1 + length ls) → (o : Option Why) → fault s l ≡ o
        → t.lines ≡ s.lines + length (l ∷ ls)
    by more None f = let h = more (sym (run-accept s l ls f) ∙ e) in omega (arith, h)
    by more (Some w) f = absurd (stopped-apart (s.lines + 1) w t (sym (run-refuse s l ls w f) ∙ e))

-- an accepted text has no bad line, ends with a line feed, and its lines are accepted to the end
parts : (p : Progress) (failed : Bool) (rest : List ℕ) → answer_at p failed rest ≡ Checked Accepted
    → (failed ≡ false) × (length rest ≡ 0) × (finish_on p ≡ Accepted)
parts (Stopped n w) failed rest q = absurd (refused-apart n w q)
parts (Going s) failed rest q =
    let r = by failed (length rest == 0) q in
    (r.0, eqb-true (length rest) 0 r.1, r.2)
  where
    by : (f e : Bool) → (if f || not e then BadLine (s.lines + 1) else Checked (finish_on (Going s))) ≡ Checked Accepted
        → (f ≡ false) × (e ≡ true) × (finish_on (Going s) ≡ Accepted)
    by true e q = absurd (bad-apart (s.lines + 1) Accepted q)
    by false false q = absurd (bad-apart (s.lines + 1) Accepted q)
    by false true q = (refl, refl, checked-inner (finish_on (Going s)) Accepted q)

whole : (p : Progress) (failed : Bool) (rest : List ℕ) → failed ≡ false → length rest ≡ 0
    → answer_at p failed rest ≡ Checked (finish_on p)
whole (Stopped n w) failed rest f e = refl
whole (Going s) failed rest f e =
    ap (λ b. if b || not (length rest == 0) then BadLine (s.lines + 1) else Checked (finish_on (Going s))) f
    ∙ ap (λ n. if false || not (n == 0) then BadLine (s.lines + 1) else Checked (finish_on (Going s))) e

pub text-accepted : (s : Clauses) (bits : List Lit) (values : Option (List Bool)) (text : List ℕ) → AllClauses (clauses_of s.entries)
    → (answer_of (begun s bits values) text ≡ Checked Accepted)
    ↔ (((reading text).failed ≡ false) × AtLineStart text × IsLogOf s.vars (clauses_of s.entries) bits values (reading text).lines)
text-accepted s bits values text a = (to, from)
  where
    p : Progress
    p = run_lines (Going (begun s bits values)) (reading text).lines

    log : (finish_on p ≡ Accepted) ↔ IsLogOf s.vars (clauses_of s.entries) bits values (reading text).lines
    log = accepted-is s.vars (clauses_of s.entries) bits values (reading text).lines a (reading-typed text)

    to : answer_of (begun s bits values) text ≡ Checked Accepted
        → ((reading text).failed ≡ false) × AtLineStart text × IsLogOf s.vars (clauses_of s.entries) bits values (reading text).lines
    to q = let r = parts p (reading text).failed (reading text).rest q in (r.0, (line-start text r.0).0 r.1, log.0 r.2)

    from : ((reading text).failed ≡ false) × AtLineStart text × IsLogOf s.vars (clauses_of s.entries) bits values (reading text).lines
        → answer_of (begun s bits values) text ≡ Checked Accepted
    from h = whole p (reading text).failed (reading text).rest h.0 ((line-start text h.0).1 h.1) ∙ ap Checked (log.1 h.2)

-- the lines before a bad one were accepted
pub text-bad : (s : Clauses) (bits : List Lit) (values : Option (List Bool)) (text : List ℕ) (n : ℕ) → AllClauses (clauses_of s.entries)
    → answer_of (begun s bits values) text ≡ BadLine n
    → (n ≡ length (reading text).lines + 1) × IsSoFar s.vars (clauses_of s.entries) bits values (reading text).lines
text-bad s bits values text n a q = by (run_lines (Going (begun s bits values)) (reading text).lines) refl q
  where
    number : (t : CheckerState) (b : Bool) → (if b then BadLine (t.lines + 1) else Checked (finish_on (Going t))) ≡ BadLine n
        → t.lines + 1 ≡ n
    number t true q = bad-inner (t.lines + 1) n q
    number t false q = absurd (bad-apart n (finish_on (Going t)) (sym q))

    by : (p : Progress) → run_lines (Going (begun s bits values)) (reading text).lines ≡ p
        → answer_at p (reading text).failed (reading text).rest ≡ BadLine n
        → (n ≡ length (reading text).lines + 1) × IsSoFar s.vars (clauses_of s.entries) bits values (reading text).lines
    by (Stopped m w) e q = absurd (bad-apart n (Refused m w) (sym q))
    by (Going t) e q =
        let h = number t ((reading text).failed || not (length (reading text).rest == 0)) q in
        let k : t.lines ≡ 0 + length (reading text).lines = run-count (begun s bits values) (reading text).lines t e in (
          omega (arith, h, k),
          (so_far-is s.vars (clauses_of s.entries) bits values (reading text).lines a (reading-typed text)).0 (ap told e),
        )

-- the text of lines that may be written
pub text-written : (s : CheckerState) (lines : List Line) → AreWritable lines
    → answer_of s (log_text lines) ≡ Checked (finish_on (run_lines (Going s) lines))
text-written s lines w =
    ap (λ r. answer_at (run_lines (Going s) r.lines) r.failed r.rest) (log-reads lines w)
    ∙ whole (run_lines (Going s) lines) false [] refl refl
