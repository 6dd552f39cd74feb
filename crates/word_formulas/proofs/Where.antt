-- The loop over elements that pass a test.
use Rattle.std.proofs.Common.{◌≡◌, refl, sym, ap, ◌∙◌, ℕ, ◌+◌, ◌<◌, Bool, true, false, List, [], ◌∷◌, ◌++◌, map, filter, drop, length, get_or}
use Rattle.std.proofs.lemmas.List.{append_assoc, append-nil}
use Rattle.clause_formulas.specs.Statements.{Statement}
use Rattle.word_formulas.proofs.Steps.{one_further}

module _ {T : Type 0} (p : T → Bool) (formula : T → Statement) where
  abbrev pub parts : List T → List Statement
  parts xs = map formula (filter p xs)

  at_head : (x : T) (rest : List T) → p x ≡ true → parts (x ∷ rest) ≡ formula x ∷ parts rest
  at_head x rest passes = rw passes refl

  no_head : (x : T) (rest : List T) → p x ≡ false → parts (x ∷ rest) ≡ parts rest
  no_head x rest fails = rw fails refl

  -- an element that passes adds its formula
  pub passed : (before after : List Statement) (xs : List T) (i : ℕ) (x : T) (b : Bool) (part : Statement) (whole : List Statement)
      → i < length xs → x ≡ get_or xs i x
      → b ≡ p x → b ≡ true → part ≡ formula x → after ≡ before ++ part ∷ [] → before ++ parts (drop i xs) ≡ whole
      → after ++ parts (drop (i + 1) xs) ≡ whole
  passed before after xs i x b part whole lt is told passes made pushed done =
      ap (λ l. l ++ parts (drop (i + 1) xs)) pushed ∙ append_assoc before (part ∷ []) (parts (drop (i + 1) xs))
      ∙ ap (λ f. before ++ f ∷ parts (drop (i + 1) xs)) made
      ∙ ap (λ l. before ++ l) (sym (at_head x (drop (i + 1) xs) (sym told ∙ passes)) ∙ ap parts (sym (one_further xs i x lt is))) ∙ done

  -- one that does not adds nothing
  pub skipped : (before after : List Statement) (xs : List T) (i : ℕ) (x : T) (b : Bool) (whole : List Statement) → i < length xs
      → x ≡ get_or xs i x
      → b ≡ p x → b ≡ false → after ≡ before → before ++ parts (drop i xs) ≡ whole → after ++ parts (drop (i + 1) xs) ≡ whole
  skipped before after xs i x b whole lt is told fails same done =
      ap (λ l. l ++ parts (drop (i + 1) xs)) same
      ∙ ap (λ l. before ++ l) (sym (no_head x (drop (i + 1) xs) (sym told ∙ fails)) ∙ ap parts (sym (one_further xs i x lt is))) ∙ done

  -- the end of the loop
  pub all_passed : (done : List Statement) (xs : List T) (i : ℕ) → drop i xs ≡ [] → done ++ parts (drop i xs) ≡ parts xs → done ≡ parts xs
  all_passed done xs i over h = sym (append-nil done) ∙ ap (λ l. done ++ parts l) (sym over) ∙ h
