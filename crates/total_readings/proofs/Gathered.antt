-- A list in order of a key, of the elements of any list that come first of theirs.
use Rattle.std.proofs.Common.{◌≡◌, refl, sym, ◌∙◌, Bool, true, false, cond, Option, Some, None, List, [], ◌∷◌, All, ◌↔◌, IsTrue}
use Rattle.std.specs.Prelude.{is_none}
use Rattle.std.specs.declared.cmp.Ordering.{Ordering}
use Rattle.std.specs.Cmp.{IsTotalOrder}
use Rattle.std.specs.FinMap.{IsAntisymmetric}
use Rattle.std.proofs.lemmas.List.Elements.{All-head, All-tail}
use Rattle.std.proofs.lemmas.Option.{none-some}
use Rattle.keyed_lists.specs.Keyed.{IsInOrder, find_key, with_one}
use Rattle.keyed_lists.proofs.KeyedLaws.{all-with_one, in_order-with_one, told_false, told_true}
use Rattle.lockfile.specs.Named.{later}
use Rattle.lockfile.proofs.Adding.{later_none, taken}

module _ {X K : Type 0} (R : K → K → Ordering) (key : X → K) where
  -- an element more, unless its key is there
  abbrev pub more_of : List X → X → List X
  more_of xs x = cond (is_none (find_key R key xs (key x))) (with_one R key xs x) xs

  -- those of a list more
  abbrev pub gathered : List X → List X → List X
  gathered xs [] = xs
  gathered xs (x ∷ rest) = gathered (more_of xs x) rest

none_tells : {X : Type 0} (r : Option X) → IsTrue (is_none r) ↔ (r ≡ None)
none_tells None = told_true refl
none_tells (Some x) = told_false (λ e. none-some x (sym e))

module _ {X K : Type 0} {R : K → K → Ordering} (o : IsTotalOrder R) (exact : IsAntisymmetric R) (key : X → K) where
  -- what is found is what comes first
  pub gathered_found : (xs rest : List X) (k : K)
      → find_key R key (gathered R key xs rest) k ≡ later (find_key R key xs k) (find_key R key rest k)
  gathered_found xs [] k = sym (later_none (find_key R key xs k))
  gathered_found xs (x ∷ rest) k =
      gathered_found (more_of R key xs x) rest k
      ∙ taken o exact key xs rest x (is_none (find_key R key xs (key x))) (more_of R key xs x)
      (none_tells (find_key R key xs (key x))) refl k

  more_in_order : (xs : List X) (x : X) (b : Bool) → IsInOrder R key xs → IsInOrder R key (cond b (with_one R key xs x) xs)
  more_in_order xs x true ordered = in_order-with_one o exact key xs x ordered
  more_in_order xs x false ordered = ordered

  pub gathered_in_order : (xs rest : List X) → IsInOrder R key xs → IsInOrder R key (gathered R key xs rest)
  gathered_in_order xs [] ordered = ordered
  gathered_in_order xs (x ∷ rest) ordered =
      gathered_in_order (more_of R key xs x) rest (more_in_order xs x (is_none (find_key R key xs (key x))) ordered)

  all_more : (P : X → Type 0) (xs : List X) (x : X) (b : Bool) → All P xs → P x → All P (cond b (with_one R key xs x) xs)
  all_more P xs x true all this = all-with_one o exact key P xs x all this
  all_more P xs x false all this = all

  pub all_gathered : (P : X → Type 0) (xs rest : List X) → All P xs → All P rest → All P (gathered R key xs rest)
  all_gathered P xs [] all each = all
  all_gathered P xs (x ∷ rest) all each =
      all_gathered P (more_of R key xs x) rest
      (all_more P xs x (is_none (find_key R key xs (key x))) all (All-head P x rest each)) (All-tail P x rest each)
