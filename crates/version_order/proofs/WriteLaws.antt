-- The text of items, one item more at its end.
use Rattle.std.proofs.Common.{◌≡◌, ℕ, ◌<◌, ◌+◌, List, [], ◌∷◌, ◌++◌, length, take, get_or, sym, ap, ◌∙◌, append_assoc, Result, Ok, Err}
use Rattle.std.specs.Result.{OnErr}
use Rattle.std.proofs.lemmas.List.{append-nil, take_more}
use Rattle.version_order.specs.Items.{spell, spell_more, IsFront}
use Rattle.version_order.specs.declared.item.Item.{Item}

more-append : (items : List Item) (x : Item) → spell_more (items ++ x ∷ []) ≡ spell_more items ++ 44 ∷ spell x
more-append [] x = ap (λ (l : List ℕ). 44 ∷ l) (append-nil (spell x))
more-append (y ∷ items) x = ap (λ (l : List ℕ). 44 ∷ l) (ap (λ (l : List ℕ). spell y ++ l) (more-append items x)
    ∙ sym (append_assoc (spell y) (spell_more items) (44 ∷ spell x)))

-- the text of one item more
pub more-take : (items : List Item) (i : ℕ) (d : Item) → i < length items → spell_more (take (i + 1) items) ≡ spell_more (take i items)
    ++ 44 ∷ spell (get_or items i d)
more-take items i d lt = rw (take_more items i d lt) (more-append (take i items) (get_or items i d))

-- what stands behind a front is still behind it
pub front_more : (front middle : List ℕ) (before now : List ℕ) → middle ≡ front ++ before → IsFront middle now → IsFront front now
front_more front middle before now e (rest, r) = (before ++ rest, r ∙ ap (λ (l : List ℕ). l ++ rest) e ∙ append_assoc front before rest)

-- a front that is kept anyhow is kept on an error
pub kept_on_err : {T E : Type 0} (r : Result T E) (front now : List ℕ) → IsFront front now → OnErr r (IsFront front now)
kept_on_err (Ok v) front now h = tt
kept_on_err (Err e) front now h = h
