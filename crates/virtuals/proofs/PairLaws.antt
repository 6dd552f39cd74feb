-- Pairs of texts in order: the run of one first text.
use Rattle.std.proofs.Common.{◌≡◌, refl, ℕ, suc, ◌+◌, ◌||◌, Bool, true, false, cond, not, ◌==◌, List, [], ◌∷◌, length, filter, get_or, arith}
use Rattle.std.proofs.lemmas.List.Elements.{filter_agree}
use Rattle.std.proofs.lemmas.List.Sorted.{searchable_from_sorted}
use Rattle.std.proofs.lemmas.Map.Keys.{Less-from_sorted}
use Rattle.std.specs.Cmp.Lexicographic.{nat_list_cmp_total}
use Rattle.std.specs.List.{list_any}
use Rattle.std.specs.List.Sorted.{IsStrictlySortedBy, IsNonDecreasingBy}
use Rattle.std.specs.Ordering.{ordering_then, ordering_reverse, ordering_index, is_lt, is_eq}
use Rattle.std.specs.Str.{bytes_eq}
use Rattle.std.specs.declared.cmp.Ordering.{Ordering}
use Rattle.std.specs.declared.cmp.Ordering.TheVariants.{Less, Equal, Greater}
use Rattle.recipe_data.specs.OfVariantValues.Texts.{byte_cmp}
use Rattle.recipe_data.specs.OfGraphCore.Graphs.{Text, pair_cmp}
use Rattle.recipe_data.proofs.OfGraphCore.PairLaws.{tells_alike}
use Rattle.virtuals.specs.Virtuals.{Pairs}

not_above : (p q : Text) (s : Ordering) → ordering_then (byte_cmp p q) s ≡ Less → is_lt (byte_cmp q p) ≡ false
not_above p q s e = rw (nat_list_cmp_total.antisymm q p) (not_below_by_order (byte_cmp p q) e)
  where
    not_below_by_order : (r : Ordering) → ordering_then r s ≡ Less → is_lt (ordering_reverse r) ≡ false
    not_below_by_order Less e = refl
    not_below_by_order Equal e = refl
    not_below_by_order Greater e = absurd (cc)

-- in the order of pairs their first texts rise
pub firsts_rise : (pairs : Pairs) (name : Text) → IsStrictlySortedBy pair_cmp pairs
    → IsNonDecreasingBy (λ p. ordering_index (byte_cmp p.0 name)) pairs
firsts_rise pairs name ordered = searchable_from_sorted nat_list_cmp_total (λ (p : Text × Text). p.0) pairs name (λ k d a b.
    not_above (get_or pairs k d).0 (get_or pairs (k + 1) d).0 (byte_cmp (get_or pairs k d).1 (get_or pairs (k + 1) d).1)
    (Less-from_sorted pair_cmp pairs k (k + 1) d ordered (omega arith) b))

-- pairs whose first text compares as equal are those whose first text is the same
pub firsts_alike : (pairs : Pairs) (name : Text) → filter (λ p. is_eq (byte_cmp p.0 name)) pairs ≡ filter (λ p. bytes_eq p.0 name) pairs
firsts_alike pairs name = filter_agree (λ (p : Text × Text). is_eq (byte_cmp p.0 name)) (λ p. bytes_eq p.0 name)
    (λ p. tells_alike p.0 name) pairs

not_none : (n : ℕ) → not (suc n == 0) ≡ true
not_none n = grind arith

-- some element passes where the list of those that do is not empty
module _ {X : Type 0} (p : X → Bool) where
  -- some are left where one passes
  pub some_kept : (xs : List X) → not (length (filter p xs) == 0) ≡ list_any p xs
  some_kept [] = refl
  some_kept (x ∷ xs) = step (p x) (filter p xs) (list_any p xs) (some_kept xs)
    where
      step : (b : Bool) (kept : List X) (some : Bool) → not (length kept == 0) ≡ some
          → not (length (cond b (x ∷ kept) kept) == 0) ≡ (b || some)
      step true kept some e = not_none (length kept)
      step false kept some e = e
