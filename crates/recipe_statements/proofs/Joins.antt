-- Items behind each other.
use Rattle.std.proofs.Common.{◌≡◌, ℕ, List, [], ◌∷◌, ◌++◌, append_assoc, refl, ap, sym, zero, suc, drop}
use Rattle.std.specs.Prelude.{Ok, Err}
use Rattle.recipe_statements.specs.Blocks.{StatementBlock, top_block, others, followed, all_blocks}
use Rattle.recipe_statements.specs.Statements.{Items, join_items}
use Rattle.recipe_statements.specs.declared.item.ClassItem.{ClassItem}

-- nothing before items leaves them
pub join_none : (a : Items) → join_items (Ok []) a ≡ a
join_none (Ok items) = refl
join_none (Err e) = refl

-- items join in any grouping
pub join_assoc : (a b c : Items) → join_items a (join_items b c) ≡ join_items (join_items a b) c
join_assoc (Ok xs) (Ok ys) (Ok zs) = ap (λ (items : List ClassItem). let r : Items = Ok items in r) (sym (append_assoc xs ys zs))
join_assoc (Ok xs) (Ok ys) (Err e) = refl
join_assoc (Ok xs) (Err e) c = refl
join_assoc (Err e) b c = refl

-- one item more
pub join_push : (items : List ClassItem) (item : ClassItem) (a : Items)
    → join_items (Ok (items ++ item ∷ [])) a ≡ join_items (Ok items) (join_items (Ok (item ∷ [])) a)
join_push items item a = sym (join_assoc (Ok items) (Ok (item ∷ [])) a)

-- ---- lists of blocks

-- the top block and the others are all of them
pub top_followed : (bs : List StatementBlock) → followed (top_block bs) (all_blocks (others bs)) ≡ all_blocks bs
top_followed [] = refl
top_followed (b ∷ bs) = refl

-- one block fewer of the others is one more of all
pub drop_others : (n : ℕ) (bs : List StatementBlock) → drop n (others bs) ≡ drop (suc n) bs
drop_others zero [] = refl
drop_others (suc n) [] = refl
drop_others n (b ∷ bs) = refl
