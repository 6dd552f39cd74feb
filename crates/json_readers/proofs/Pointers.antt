-- One character more of a key in a pointer.
use Rattle.std.proofs.Common.{◌≡◌, refl, sym, ap, ◌∙◌, ℕ, List, [], ◌∷◌, ◌++◌, flat_map, append_assoc}
use Rattle.std.specs.Str.{encode_utf8_all}
use Rattle.std.proofs.lemmas.Str.{encodes-append}
use Rattle.std.proofs.lemmas.Grind.{flat_map-append}
use Rattle.json_readers.specs.Faults.{escaped}

append-nil : (xs : List ℕ) → xs ++ [] ≡ xs
append-nil [] = refl
append-nil (x ∷ xs) = ap (λ l. x ∷ l) (append-nil xs)

-- one character of a pointer more was written
pub escaped_more : (front before after cs : List ℕ) (c : ℕ) → before ≡ front ++ encode_utf8_all (flat_map escaped cs)
    → after ≡ before ++ encode_utf8_all (escaped c)
    → after ≡ front ++ encode_utf8_all (flat_map escaped (cs ++ c ∷ []))
escaped_more front before after cs c was now =
    now ∙ ap (λ p. before ++ encode_utf8_all p) (sym (append-nil (escaped c))) ∙ ap (λ b. b ++ encode_utf8_all (escaped c ++ [])) was
    ∙ append_assoc front _ _ ∙ ap (λ t. front ++ t) (sym (encodes-append (flat_map escaped cs) (escaped c ++ []))
    ∙ ap encode_utf8_all (sym (flat_map-append escaped cs (c ∷ []))))
