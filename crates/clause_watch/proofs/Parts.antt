-- What a table keeps gives its clauses back, and one more fits behind the others.
use Rattle.std.proofs.Common.{◌≡◌, ℕ, zero, suc, ◌+◌, ◌-◌, ◌<◌, ◌≤◌, List, [], ◌∷◌, ◌++◌, length, take, get_or, Some, refl, sym, ap, ◌∙◌, drop, arith, append_assoc}
use Rattle.std.specs.Prelude.{slice_get, slice_index_or, slice_range}
use Rattle.std.proofs.lemmas.List.{drop-append-le, take-append-le, take_all, take_more, length-drop, length-append}
use Rattle.std.proofs.Math.Seq.{drop-append_seam, take-length}
use Rattle.clause_store.specs.declared.Lit.{Lit}
use Rattle.clause_store.specs.Kept.{start_of, IsCut}
use Rattle.clause_store.proofs.Kept.{cut-le, cut-more}
use Rattle.clause_store.specs.Kept.{part_of}
use Rattle.clause_watch.specs.Parts.{parts}

range-last : (lits more : List Lit) (from : ℕ) → from ≡ length lits → slice_range (lits ++ more) from (length lits + length more) ≡ more
range-last lits more from e =
    let n : length lits + length more - from ≡ length more = omega arith in
    rw (n, e, drop-append_seam lits more) (take-length more)

range-before : (lits more : List Lit) (from to : ℕ) → from ≤ to → to ≤ length lits
    → slice_range (lits ++ more) from to ≡ slice_range lits from to
range-before lits more from to h k =
    let n : to - from ≤ length (drop from lits) = omega (arith, length-drop from lits) in
    rw (drop-append-le from lits more (omega arith)) (take-append-le (to - from) (drop from lits) more n)

more-from : (lits more : List Lit) (from : ℕ) (ends : List ℕ) → IsCut from ends (length lits)
    → parts (lits ++ more) from (ends ++ (length lits + length more) ∷ []) ≡ parts lits from ends ++ more ∷ []
more-from lits more from [] c = rw (range-last lits more from c) refl
more-from lits more from (to ∷ ends) c =
    rw (range-before lits more from to c.0 (cut-le to (length lits) ends c.1), more-from lits more to ends c.1) refl

-- there are as many parts as ends
pub length-parts : (lits : List Lit) (from : ℕ) (ends : List ℕ) → length (parts lits from ends) ≡ length ends
length-parts lits from [] = refl
length-parts lits from (to ∷ ends) = ap suc (length-parts lits to ends)

-- the clause at a place lies from its start to its end
part-from : (lits : List Lit) (from : ℕ) (ends : List ℕ) (j : ℕ) → j < length ends
    → slice_get (parts lits from ends) j ≡ Some (slice_range lits (start_of from ends j) (slice_index_or ends j 0))
part-from lits from [] j h = absurd (omega (arith, h))
part-from lits from (to ∷ ends) zero h = refl
part-from lits from (to ∷ ends) (suc zero) h = part-from lits to ends zero (omega (arith, h))
part-from lits from (to ∷ ends) (suc (suc j)) h = part-from lits to ends (suc j) (omega (arith, h))

module _ (lits : List Lit) (ends : List ℕ) (cs : List (List Lit)) (place : ℕ) (view : parts lits 0 ends ≡ cs)
    (within : place < length cs) where
  pub place-kept : place < length ends
  place-kept = rw (← view, length-parts lits 0 ends) at within

  pub part-at : slice_get cs place ≡ Some (part_of lits ends place)
  part-at = ap (λ xs. slice_get xs place) (sym view) ∙ part-from lits 0 ends place place-kept

-- what was appended goes again
pub cut-back : (start more : List Lit) (n : ℕ) → n ≡ length start → take n (start ++ more) ≡ start
cut-back start more n e =
    rw (e, take-append-le (length start) start more (omega arith)) (take_all (length start) start (omega arith))

-- one more of the literals that are appended
pub appended-more : (start old new lits : List Lit) (i : ℕ) (l d : Lit) → i < length lits → old ≡ start ++ take i lits
    → l ≡ get_or lits i d → new ≡ old ++ l ∷ [] → new ≡ start ++ take (i + 1) lits
appended-more start old new lits i l d h a b c = rw (c, a, b, append_assoc) (ap (λ xs. start ++ xs) (sym (take_more lits i d h)))

-- one more clause behind the others
module _ (lits codes more : List Lit) (ends tos : List ℕ) (end : ℕ) (cut : IsCut 0 ends (length lits)) (a : codes ≡ lits ++ more)
    (b : end ≡ length codes) (c : tos ≡ ends ++ end ∷ []) where
  all : length codes ≡ length lits + length more
  all = ap length a ∙ length-append lits more

  pub parts-more : parts codes 0 tos ≡ parts lits 0 ends ++ more ∷ []
  parts-more = rw (c, b, all, a) (more-from lits more 0 ends cut)

  pub cut-grown : IsCut 0 tos (length codes)
  cut-grown = rw (c, b) (cut-more 0 (length lits) (length codes) ends (omega (arith, all)) cut)
