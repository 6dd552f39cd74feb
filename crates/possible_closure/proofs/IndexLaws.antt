-- What stands first among elements that were found by a text, and whether there is one.
use Rattle.std.proofs.Common.{◌≡◌, sym, ap, ◌∙◌, ℕ, ◌+◌, ◌<◌, ◌≤◌, ◌==◌, Bool, not, List, [], ◌∷◌, ◌++◌, length, get_or, take, map, filter, find, Some, None, Bor, arith}
use Rattle.std.specs.List.{list_any, flat_map}
use Rattle.std.proofs.lemmas.List.{length-map, map-append, append_assoc, append-nil, take_more}
use Rattle.std.proofs.lemmas.Grind.{flat_map-append}
use Rattle.keyed_lists.specs.Lent.{lent}
use Rattle.keyed_lists.proofs.Lent.{first_in, find_first, some_kept}

module _ {T : Type 0} where
  abbrev pub seen : List (Bor (List ℕ) × Bor T) → List T
  seen run = map (λ (e : List ℕ × T). e.1) (lent run)

  -- an empty run finds nothing
  pub none_found : (p : T → Bool) (xs : List T) (run : List (Bor (List ℕ) × Bor T)) → seen run ≡ filter p xs → length run < 1
      → find p xs ≡ None
  none_found p xs [] is short = find_first p xs ∙ ap (first_in p) (sym is)
  none_found p xs (e ∷ run) is short = absurd (omega (arith, short))

  -- the first of a run is what is found
  pub first_found : (p : T → Bool) (xs : List T) (run : List (Bor (List ℕ) × Bor T)) (e : Bor (List ℕ) × Bor T) → seen run ≡ filter p xs
      → 1 ≤ length run → e ≡ get_or run 0 e → find p xs ≡ Some e.1.now
  first_found p xs [] e is long at = absurd (omega (arith, long))
  first_found p xs (f ∷ run) e is long at = find_first p xs ∙ ap (first_in p) (sym is)
      ∙ ap (λ (g : Bor (List ℕ) × Bor T). Some g.1.now) (sym at)

  -- a run that is not empty finds something
  pub some_found : (p : T → Bool) (xs : List T) (run : List (Bor (List ℕ) × Bor T)) → seen run ≡ filter p xs
      → not (length run == 0) ≡ list_any p xs
  some_found p xs run is =
      let long : length run ≡ length (filter p xs) =
      sym (length-map run (λ (e : Bor (List ℕ) × Bor T). (e.0.now, e.1.now))) ∙ sym (length-map (lent run) (λ (e : List ℕ × T). e.1))
      ∙ ap length is in
      ap (λ n. not (n == 0)) long ∙ some_kept p xs

  -- one element more
  pub seen_more : {Y : Type 0} (f : T → List Y) (run : List (Bor (List ℕ) × Bor T)) (i : ℕ) (e : Bor (List ℕ) × Bor T) → i < length run
      → e ≡ get_or run i e → (ys : List Y)
      → (ys ++ flat_map f (seen (take i run))) ++ f e.1.now ≡ ys ++ flat_map f (seen (take (i + 1) run))
  seen_more f run i e lt is ys =
      let split : seen (take (i + 1) run) ≡ seen (take i run) ++ e.1.now ∷ [] =
      ap seen (take_more run i e lt ∙ ap (λ z. take i run ++ z ∷ []) (sym is))
      ∙ ap (map (λ (e : List ℕ × T). e.1)) (map-append (λ (e : Bor (List ℕ) × Bor T). (e.0.now, e.1.now)) (take i run) (e ∷ []))
      ∙ map-append (λ (e : List ℕ × T). e.1) (lent (take i run)) (lent (e ∷ [])) in
      append_assoc ys (flat_map f (seen (take i run))) (f e.1.now) ∙ ap (λ zs. ys ++ zs)
      (ap (λ zs. flat_map f (seen (take i run)) ++ zs) (sym (append-nil (f e.1.now)))
      ∙ sym (flat_map-append f (seen (take i run)) (e.1.now ∷ [])) ∙ ap (flat_map f) (sym split))
