-- Loops that write the elements of a list, each behind a mark.
use Rattle.std.proofs.Common.{◌≡◌, ℕ, ◌<◌, ◌+◌, List, ◌∷◌, ◌++◌, length, drop, sym, ap, ◌∙◌, append_assoc, get_or}
use Rattle.std.proofs.lemmas.List.{drop_more}

-- one element more is written; `spell` is the text of those that are left
pub written : {T : Type 0} (spell : List T → List ℕ) (mark : List ℕ) (text : T → List ℕ)
    → ((x : T) (xs : List T) → spell (x ∷ xs) ≡ mark ++ (text x ++ spell xs))
    → (xs : List T) (i : ℕ) (x : T) (out all : List ℕ) → i < length xs → x ≡ get_or xs i x → out ++ spell (drop i xs) ≡ all
    → ((out ++ mark) ++ text x) ++ spell (drop (i + 1) xs) ≡ all
written spell mark text step xs i x out all lt is so_far =
    let next : drop i xs ≡ x ∷ drop (i + 1) xs = drop_more xs i x lt ∙ ap (λ y. y ∷ drop (i + 1) xs) (sym is) in
    append_assoc (out ++ mark) (text x) (spell (drop (i + 1) xs)) ∙ append_assoc out mark (text x ++ spell (drop (i + 1) xs))
    ∙ ap (λ l. out ++ l) (sym (step x (drop (i + 1) xs))) ∙ ap (λ l. out ++ spell l) (sym next) ∙ so_far
