-- What the reading of a file has decided.
use Rattle.std.proofs.Common.{◌≡◌, refl, sym, ap, subst, ◌∙◌, ℕ, ◌+◌, ◌-◌, ◌<◌, ◌≤◌, min, Bool, true, false, List, ◌++◌, take, drop, length, Err, arith}
use Rattle.std.specs.Prelude.{nat_le, ◌||◌}
use Rattle.std.proofs.lemmas.List.{take_all, take-take}
use Rattle.std.proofs.Math.Seq.{take-add}
use Rattle.log_checker.specs.Steps.{CheckerState}
use Rattle.certified.specs.Texts.{Stage, IsAfter, IsFed, is_settled, answer_at, answer_of, is_settled_by}
use Rattle.certified.proofs.Stages.{settled-stays}
use Rattle.outside_desk.specs.Files.{IsPiece}
use Rattle.run_answers.specs.declared.refusal.Refusal.TheVariants as refusals
use Rattle.run_task.specs.Certificates.{said_of_text, verdict_on_text, most}
use Rattle.run_task.specs.Pieces.{IsReady}

-- a test that holds
short : (n : ℕ) → n ≤ most → nat_le n most ≡ true
short n h = grind (arith, h)

long : (n : ℕ) → most < n → nat_le n most ≡ false
long n h = grind (arith, h)

or_true : (b : Bool) → (b || true) ≡ true
or_true true = refl
or_true false = refl

-- a text within the limit
pub said_short : (s : CheckerState) (text : List ℕ) → length text ≤ most → said_of_text s text ≡ verdict_on_text (answer_of s text)
unfolding said_of_text
said_short s text h = rw (short (length text) h) (ap (λ t. verdict_on_text (answer_of s t)) (take_all most text h))

-- a text whose front decides
pub said_settled : (s : CheckerState) (text : List ℕ) → is_settled_by s (take most text) ≡ true
    → said_of_text s text ≡ verdict_on_text (answer_of s (take most text))
unfolding said_of_text
said_settled s text h = rw h (rw (or_true (nat_le (length text) most)) refl)

-- a longer one whose front does not
pub said_long : (s : CheckerState) (text : List ℕ) → most < length text → is_settled_by s (take most text) ≡ false
    → said_of_text s text ≡ Err refusals.CertificateTooLarge
unfolding said_of_text
said_long s text over open_yet = rw (long (length text) over) (rw open_yet refl)

-- all bytes were taken
pub at_end : (s : CheckerState) (file : List ℕ) (from : ℕ) (c : Stage) → IsReady s file from c → length file ≤ from
    → said_of_text s file ≡ verdict_on_text (answer_at c.progress c.failed c.place.rest)
at_end s file from c ready ends =
    let whole : take from file ≡ file = take_all from file ends in
    said_short s file (let w = ready.within in omega (arith, w, ends))
    ∙ ap (λ t. verdict_on_text (answer_of s t)) (sym whole) ∙ ap verdict_on_text (sym ready.after.answer)

-- the bytes up to the limit, beginning with fewer
front : (n : ℕ) (file : List ℕ) → n ≤ most → take most file ≡ take n file ++ take (most - n) (drop n file)
front n file h =
    let e : most ≡ n + (most - n) = omega (arith, h) in
    ap (λ (m : ℕ). take m file) e ∙ take-add n (most - n) file

-- what was taken decides
pub at_settled : (s : CheckerState) (file : List ℕ) (n : ℕ) (c : Stage) → n ≤ most → IsAfter s (take n file) c
    → is_settled_by s (take n file) ≡ true
    → said_of_text s file ≡ verdict_on_text (answer_at c.progress c.failed c.place.rest)
at_settled s file n c within after settled =
    let stays = settled-stays s (take n file) (take (most - n) (drop n file)) settled in
    said_settled s file (ap (is_settled_by s) (front n file within) ∙ stays.1)
    ∙ ap (λ t. verdict_on_text (answer_of s t)) (front n file within) ∙ ap verdict_on_text (stays.0 ∙ sym after.answer)

-- ---- a piece more

-- what is taken of a piece is what follows in the file
joined : (file piece : List ℕ) (from count taken : ℕ) → take count piece ≡ take count (drop from file) → taken ≤ count
    → take from file ++ take taken piece ≡ take (from + taken) file
joined file piece from count taken same within =
    ap (λ (t : List ℕ). take from file ++ t) (shorter taken count piece (drop from file) same within) ∙ sym (take-add from taken file)
  where
    shorter : (t k : ℕ) (xs ys : List ℕ) → take k xs ≡ take k ys → t ≤ k → take t xs ≡ take t ys
    shorter t k xs ys e h = sym (take-take t k xs h) ∙ ap (take t) e ∙ take-take t k ys h

module _ (s : CheckerState) (file piece : List ℕ) (from count taken : ℕ) (old new : Stage) (ready : IsReady s file from old)
    (is_piece : IsPiece file from piece count) (is_taken : taken ≡ min count (most - from)) (fed : IsFed old new (take taken piece)) where
  -- the checker has taken this much
  pub after : IsAfter s (take (from + taken) file) new
  after = subst (λ (t : List ℕ). IsAfter s t new)
      (joined file piece from count taken is_piece.same (omega (arith, is_taken))) (fed s (take from file) ready.after)

  -- which is within the limit
  pub within : from + taken ≤ most
  within = let w = ready.within in omega (arith, w, is_taken)

  -- what was taken decides
  pub piece_settled : is_settled new ≡ true → said_of_text s file ≡ verdict_on_text (answer_at new.progress new.failed new.place.rest)
  piece_settled settled = at_settled s file (from + taken) new within after (sym after.settled ∙ settled)

  -- what was taken decides nothing yet
  pub piece_open : is_settled new ≡ false → IsReady s file (from + taken) new
  piece_open open_yet = record { within = within; after = after; unsettled = sym after.settled ∙ open_yet }

  -- and there is more than may count
  pub piece_long : is_settled new ≡ false → taken < count → said_of_text s file ≡ Err refusals.CertificateTooLarge
  piece_long open_yet less =
      let w = ready.within in
      let i = is_piece.inside in
      let e : from + taken ≡ most = omega (arith, w, is_taken, less) in
      said_long s file (omega (arith, w, is_taken, less, i))
      (ap (λ (n : ℕ). is_settled_by s (take n file)) (sym e) ∙ (sym after.settled ∙ open_yet))
