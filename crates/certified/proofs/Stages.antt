-- A checker of texts: what a piece changes, and what nothing changes any more.
use Rattle.std.proofs.Common.{◌≡◌, ℕ, Bool, true, false, List, [], ◌∷◌, ◌++◌, length, take, drop, refl, sym, ap, ◌∙◌, subst, append_assoc, arith}
use Rattle.std.specs.Prelude.{not}
use Rattle.std.proofs.lemmas.Bool.{true≢false, false≢true}
use Rattle.std.proofs.lemmas.List.{take-append-drop, append-nil}
use Rattle.proof_log.specs.declared.line.Line.{Line}
use Rattle.proof_log.specs.Readings.{reading, reading_from, place_after, at_place, moved}
use Rattle.proof_log.proofs.ReaderLaws.{takes, stays}
use Rattle.log_checker.specs.Steps.{CheckerState, Progress, Going, Stopped, run_lines}
use Rattle.log_checker.proofs.Accepted.{run-append, stopped-stays}
use Rattle.certified.specs.Texts.{answer_at, answer_of, is_settled_at, is_settled_by, Stage, is_settled, IsAfter, IsFed}

-- the lines of a longer text begin with those of the shorter one
grows : (text more : List ℕ) → (came : List Line) × ((reading (text ++ more)).lines ≡ (reading text).lines ++ came)
grows text more =
    let old = place_after text in
    let batch = reading_from (at_place old) more in
    let t = takes old (moved old batch) more [] batch.lines refl refl text refl in
    (t.1, t.2)

pub settled-stays : (s : CheckerState) (text more : List ℕ) → is_settled_by s text ≡ true
    → (answer_of s (text ++ more) ≡ answer_of s text) × (is_settled_by s (text ++ more) ≡ true)
settled-stays s text more h = by (run_lines (Going s) (reading text).lines) refl h
  where
    by : (p : Progress) → run_lines (Going s) (reading text).lines ≡ p → is_settled_at p (reading text).failed ≡ true
        → (answer_of s (text ++ more) ≡ answer_of s text) × (is_settled_by s (text ++ more) ≡ true)
    by (Stopped n w) e q =
        let g = grows text more in
        let stopped : run_lines (Going s) (reading (text ++ more)).lines ≡ Stopped n w =
        ap (run_lines (Going s)) g.1 ∙ run-append (Going s) (reading text).lines g.0 ∙ ap (λ p. run_lines p g.0) e
        ∙ stopped-stays n w g.0 in (
          ap (λ p. answer_at p (reading (text ++ more)).failed (reading (text ++ more)).rest) stopped
              ∙ sym (ap (λ p. answer_at p (reading text).failed (reading text).rest) e),
          ap (λ p. is_settled_at p (reading (text ++ more)).failed) stopped,
        )
    by (Going t) e q =
        let same = stays text more q in (
          ap (λ r. answer_at (run_lines (Going s) r.lines) r.failed r.rest) same,
          ap (λ r. is_settled_at (run_lines (Going s) r.lines) r.failed) same ∙ h,
        )

-- where the answer is settled, a piece is not read
pub after-settled : (s : CheckerState) (text piece : List ℕ) (c : Stage) → is_settled c ≡ true → IsAfter s text c
    → IsAfter s (text ++ piece) c
after-settled s text piece c q a =
    let t = settled-stays s text piece (sym a.settled ∙ q) in
    record {
      ready = a.ready;
      answer = a.answer ∙ sym t.0;
      settled = q ∙ sym t.1;
      whole = λ f. absurd (true≢false (sym t.1 ∙ f));
    }

-- pieces one after the other
pub fed-none : (c : Stage) → IsFed c c []
fed-none c s text a = subst (λ t. IsAfter s t c) (sym (append-nil text)) a

pub fed-more : (a b c : Stage) (front piece : List ℕ) → IsFed a b front → IsFed b c piece → IsFed a c (front ++ piece)
fed-more a b c front piece f g s text h =
    subst (λ t. IsAfter s t c) (append_assoc text front piece) (g s (text ++ front) (f s text h))

pub fed-settled : (a b : Stage) (front rest : List ℕ) → is_settled b ≡ true → IsFed a b front → IsFed a b (front ++ rest)
fed-settled a b front rest q f s text h =
    subst (λ t. IsAfter s t b) (append_assoc text front rest) (after-settled s (text ++ front) rest b q (f s text h))

-- a text that was cut in two
pub cut-again : (text front rest piece later : List ℕ) (k : ℕ) → piece ≡ take k rest → later ≡ drop k rest → front ++ rest ≡ text
    → (front ++ piece) ++ later ≡ text
cut-again text front rest piece later k e f g =
    append_assoc front piece later
    ∙ ap (λ xs. front ++ xs) (ap (λ xs. xs ++ later) e ∙ ap (λ ys. take k rest ++ ys) f ∙ take-append-drop k rest) ∙ g

pub nothing-left : (front rest text : List ℕ) → length rest ≡ 0 → front ++ rest ≡ text → front ≡ text
nothing-left front [] text h e = sym (append-nil front) ∙ e
nothing-left front (x ∷ rest) text h e = absurd (omega (arith, h))

pub settled-where : (b goes_on : Bool) → goes_on ≡ not b → goes_on ≡ false → b ≡ true
settled-where true goes_on e f = refl
settled-where false goes_on e f = absurd (false≢true (sym f ∙ e))
