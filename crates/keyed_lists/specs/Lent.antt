-- Elements that are lent, each with a text.
use Rattle.std.specs.Prelude.{◌≡◌, ℕ, List, map, filter}
use Rattle.std.specs.Borrow.{Bor}
use Rattle.std.specs.Str.{bytes_eq}

-- what is lent, each behind its text
abbrev pub lent : {T : Type 0} → List (Bor (List ℕ) × Bor T) → List (List ℕ × T)
lent entries = map (λ e. (e.0.now, e.1.now)) entries

-- those with a text
abbrev pub with_text : {T : Type 0} → List ℕ → List (List ℕ × T) → List (List ℕ × T)
with_text text entries = filter (λ e. bytes_eq e.0 text) entries

-- at each text the index has what the list has with it, in the same order
abbrev pub IsIndexOf : {T : Type 0} → (T → List ℕ) → List T → List (List ℕ × T) → Type 0
IsIndexOf text_of items index = (text : List ℕ) → map (λ e. e.1) (with_text text index) ≡ filter (λ x. bytes_eq (text_of x) text) items
