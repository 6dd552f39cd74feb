-- The first line of a text.
use Rattle.std.proofs.Common.{◌≡◌, refl, sym, ap, ◌∙◌, ℕ, suc, ◌+◌, ◌-◌, ◌<◌, ◌≤◌, List, [], ◌∷◌, length, take, drop, Bool, true, false, not, cond, ◌==◌, None, Ok, take_while, arith, length-drop, drop-drop}
use Rattle.std.specs.List.{prefix_len}
use Rattle.std.proofs.lemmas.List.Folds.{length-prefix_len}
use Rattle.std.proofs.lemmas.List.{take_all}
use Rattle.scenario_reader.specs.Lines.{lines_of, into_line}
use Rattle.scenario_reader.specs.Sections.{sections_after, sections_of, closed}
use Rattle.scenario_reader.specs.declared.draft.Draft.{Draft}

-- how many bytes stand before the first line feed
abbrev pub until : List ℕ → ℕ
until xs = prefix_len (λ b. not (b == 10)) xs

one_more : (n : ℕ) → 1 + n ≡ suc n
one_more n = omega arith

-- one byte more
pub lines_of-cons : (b : ℕ) (bs : List ℕ) → lines_of (b ∷ bs) ≡ cond (b == 10) ([] ∷ lines_of bs) (into_line b (lines_of bs))
unfolding lines_of
lines_of-cons b bs = refl

-- no byte
pub lines_of-nil : lines_of [] ≡ []
unfolding lines_of
lines_of-nil = refl

-- a first line and the rest
abbrev pub BeginsWith : List ℕ → List ℕ → List ℕ → Type 0
BeginsWith text line rest = lines_of text ≡ line ∷ lines_of rest

behind_first : (t : Bool) (b : ℕ) (bs : List ℕ) → (b == 10) ≡ t
    → (until bs < length bs → BeginsWith bs (take (until bs) bs) (drop (suc (until bs)) bs))
    → cond (not t) (1 + until bs) 0 < length (b ∷ bs)
    → BeginsWith (b ∷ bs) (take (cond (not t) (1 + until bs) 0) (b ∷ bs)) (drop (suc (cond (not t) (1 + until bs) 0)) (b ∷ bs))
behind_first true b bs is rest fits = rw (lines_of-cons b bs, is) refl
behind_first false b bs is rest fits = rw (one_more (until bs)) (lines_of-cons b bs ∙ rw (is, rest (omega arith)) refl)

-- a text with a line feed
pub first_line : (text : List ℕ) → until text < length text → BeginsWith text (take (until text) text) (drop (suc (until text)) text)
first_line [] fits = absurd (omega arith)
first_line (b ∷ bs) fits = behind_first (b == 10) b bs refl (first_line bs) fits

only : (t : Bool) (b : ℕ) (bs : List ℕ) → (b == 10) ≡ t → (until bs ≡ length bs → 0 < length bs → lines_of bs ≡ bs ∷ [])
    → cond (not t) (1 + until bs) 0 ≡ length (b ∷ bs) → lines_of (b ∷ bs) ≡ (b ∷ bs) ∷ []
only true b bs is rest all = absurd (omega arith)
only false b [] is rest all = rw (lines_of-cons b [], is, lines_of-nil) refl
only false b (d ∷ ds) is rest all = rw (lines_of-cons b (d ∷ ds), is, rest (omega arith) (omega arith)) refl

-- a text without one
pub only_line : (text : List ℕ) → until text ≡ length text → 0 < length text → lines_of text ≡ text ∷ []
only_line [] all some = absurd (omega arith)
only_line (b ∷ bs) all some = only (b == 10) b bs refl (only_line bs) all

-- so many bytes stand before the first line feed
abbrev pub Counts : List ℕ → ℕ → Type 0
Counts text n = n ≡ length (take_while (λ b. not (b == 10)) text)

counted : (text : List ℕ) (n : ℕ) → Counts text n → n ≡ until text
counted text n e = e ∙ length-prefix_len (λ b. not (b == 10)) text

-- a line that ends
pub cut_line : (text line rest more : List ℕ) (n : ℕ) → Counts text n → line ≡ take n text → rest ≡ drop n text → more ≡ drop 1 rest
    → 0 < length rest → BeginsWith text line more
cut_line text line rest more n count is_line is_rest is_more some =
    let left : length rest ≡ length text - n = rw is_rest (length-drop n text) in
    let same : n ≡ until text = counted text n count in
    let after : n + 1 ≡ suc (until text) = omega (arith, same) in
    let behind : more ≡ drop (suc (until text)) text = is_more ∙ ap (drop 1) is_rest ∙ drop-drop 1 n text ∙ ap (λ k. drop k text) after in
    rw (is_line, behind, same) (first_line text (omega (arith, left, same, some)))

empty_lines : (rest : List ℕ) → length rest ≡ 0 → lines_of rest ≡ []
empty_lines [] none = lines_of-nil
empty_lines (b ∷ bs) none = absurd (omega arith)

-- the last line, which does not
pub cut_last : (text line rest : List ℕ) (n : ℕ) → Counts text n → n ≤ length text → line ≡ take n text → rest ≡ drop n text
    → length rest ≡ 0 → 0 < length text → BeginsWith text line rest
cut_last text line rest n count fits is_line is_rest none some =
    let left : length rest ≡ length text - n = rw is_rest (length-drop n text) in
    let all : n ≡ length text = omega (arith, left, none, fits) in
    let whole : line ≡ text = is_line ∙ take_all n text (omega (arith, all)) in
    let one : lines_of text ≡ text ∷ [] = only_line text (sym (counted text n count) ∙ all) some in
    one ∙ rw (whole, empty_lines rest none) refl

-- ---- sections

pub begins : (text : List ℕ) → sections_after 1 (record { done = []; current = None }) (lines_of text) ≡ sections_of text
unfolding sections_of
begins text = refl

-- no line is left
pub ends : (number : ℕ) (draft : Draft) (rest : List ℕ) → length rest ≡ 0
    → sections_after number draft (lines_of rest) ≡ Ok (closed draft).done
ends number draft rest none = rw (empty_lines rest none) refl
