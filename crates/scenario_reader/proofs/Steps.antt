-- One step of each loop over a list: what is left begins with the element at hand.
use Rattle.std.proofs.Common.{◌≡◌, refl, sym, ap, ◌∙◌, ℕ, suc, ◌+◌, ◌-◌, ◌*◌, ◌<◌, List, [], ◌∷◌, ◌++◌, length, drop, get_or, ◌&&◌, cond, nat_lt, Some, None, Result, Ok, Err, append_assoc, append-nil, add-one, zero}
use Rattle.std.specs.Option.{option_and_then}
use Rattle.std.specs.Char.{is_ascii_digit}
use Rattle.std.specs.List.{repeat}
use Rattle.std.proofs.lemmas.List.{drop_more}
use Rattle.scenario_reader.specs.Faults.{and_then}
use Rattle.scenario_reader.specs.Kinds.{is_kind}
use Rattle.scenario_reader.specs.Quotes.{next, acted, unquoted}
use Rattle.scenario_reader.specs.Devices.{number_from}
use Rattle.scenario_reader.specs.Sections.{content_of}
use Rattle.scenario_reader.specs.Scenarios.{find, each, files_of}
use Rattle.scenario_reader.specs.declared.entry.Entry.{Entry}
use Rattle.scenario_reader.specs.declared.kind.Kind.{Kind}
use Rattle.scenario_reader.specs.declared.quote_step.Mode.{Mode}
use Rattle.scenario_reader.specs.declared.fault.Fault.{Fault}

-- what is left of a list at an element
pub left_at : {A : Type 0} (xs : List A) (i : ℕ) (x : A) → i < length xs → x ≡ get_or xs i x → drop i xs ≡ x ∷ drop (i + 1) xs
left_at xs i x lt is = drop_more xs i x lt ∙ ap (λ y. y ∷ drop (i + 1) xs) (sym is)

-- texts that are repeated may stand before or behind one more
pub repeat_next : (n : ℕ) (xs : List ℕ) → xs ++ repeat n xs ≡ repeat n xs ++ xs
repeat_next zero xs = append-nil xs
repeat_next (suc n) xs = ap (λ ys. xs ++ ys) (repeat_next n xs) ∙ sym (append_assoc xs (repeat n xs) xs)

-- one repetition more
pub repeat_more : (n : ℕ) (xs : List ℕ) → repeat (n + 1) xs ≡ repeat n xs ++ xs
repeat_more n xs = rw (add-one n) (repeat_next n xs)

-- one byte of a quoted line
pub unquoted_at : (mode : Mode) (text : List ℕ × List ℕ) (line : List ℕ) (i : ℕ) (b : ℕ) → i < length line → b ≡ get_or line i 0
    → unquoted mode text (drop i line) ≡ option_and_then (λ found. unquoted found.0 (acted found.1 text) (drop (i + 1) line)) (next mode b)
unquoted_at mode text line i b lt is = rw (drop_more line i 0 lt, ← is) refl

-- one digit
pub number_at : (value : ℕ) (digits : List ℕ) (i : ℕ) (b : ℕ) → i < length digits → b ≡ get_or digits i 0
    → number_from value (drop i digits) ≡ cond (is_ascii_digit b && nat_lt value 100000000)
    (number_from (value * 10 + (b - 48)) (drop (i + 1) digits)) None
number_at value digits i b lt is = rw (drop_more digits i 0 lt, ← is) refl

-- one entry of a search
pub find_at : (kind : Kind) (entries : List Entry) (i : ℕ) (entry : Entry) → i < length entries → entry ≡ get_or entries i entry
    → find kind (drop i entries) ≡ cond (is_kind entry.kind kind) (Some entry) (find kind (drop (i + 1) entries))
find_at kind entries i entry lt is = rw (left_at entries i entry lt is) refl

-- one entry, which may be a file
pub files_at : (kind : Kind) (entries : List Entry) (i : ℕ) (entry : Entry) → i < length entries → entry ≡ get_or entries i entry
    → files_of kind (drop i entries) ≡ cond (is_kind entry.kind kind)
    ((entry.path, content_of entry) ∷ files_of kind (drop (i + 1) entries)) (files_of kind (drop (i + 1) entries))
files_at kind entries i entry lt is = rw (left_at entries i entry lt is) refl

-- one item
pub each_at : {A : Type 0} (at : ℕ × List ℕ → Result A Fault) (items : List (ℕ × List ℕ)) (i : ℕ) (item : ℕ × List ℕ) → i < length items
    → item ≡ get_or items i item
    → each at (drop i items) ≡ and_then (λ a. and_then (λ more. Ok (a ∷ more)) (each at (drop (i + 1) items))) (at item)
each_at at items i item lt is = rw (left_at items i item lt is) refl

-- one element more that was got
pub each_more : {A : Type 0} (got : List A) (a : A) (rest : Result (List A) Fault)
    → and_then (λ more. Ok (got ++ more)) (and_then (λ more. Ok (a ∷ more)) rest) ≡ and_then (λ more. Ok ((got ++ a ∷ []) ++ more)) rest
each_more got a (Ok more) = ap Ok (sym (append_assoc got (a ∷ []) more))
each_more got a (Err fault) = refl
