-- Items stand in the heads before them.
use Rattle.std.proofs.Common.{ℕ, ◌+◌, ◌≤◌, Bool, true, false, cond, List, [], ◌∷◌, ◌++◌, arith}
use Rattle.std.specs.Prelude.{Ok, Err, IfOk, nat_lt, ◌||◌}
use Rattle.recipe_lexer.specs.declared.token.Token.{Token}
use Rattle.recipe_statements.specs.Lines.{plain_form, head_form}
use Rattle.recipe_statements.specs.Blocks.{LogicalLine, StatementBlock, Empty, Plain, Headed, file_of}
use Rattle.recipe_statements.specs.Statements.{Items, join_items, deepest, place, call_item, when_item, plain_items, headed_items, body, outer_plain, outer_headed, is_class, at_end, outer, items}
use Rattle.recipe_statements.specs.Order.{depth_of, depth_behind, AreNested}
use Rattle.recipe_statements.specs.declared.form.PlainForm.{PlainForm}
use Rattle.recipe_statements.specs.declared.form.PlainForm.TheVariants as plain
use Rattle.recipe_statements.specs.declared.form.HeadForm.{HeadForm}
use Rattle.recipe_statements.specs.declared.form.HeadForm.TheVariants as head
use Rattle.recipe_statements.specs.declared.item.ClassItem.{ClassItem}
use Rattle.recipe_statements.specs.declared.item.ClassItem.TheVariants.{With, Call}
use Rattle.recipe_statements.specs.declared.item.StatementFault.TheVariants as fault

-- all items stand in that many heads at least
abbrev pub AreInside : ℕ → List ClassItem → Type 0
AreInside depth [] = Unit {0}
AreInside depth (item ∷ others) = (depth ≤ depth_of item) × AreInside depth others

-- the items of a block that stands in that many heads
abbrev pub Fit : ℕ → List ClassItem → Type 0
Fit depth found = AreNested depth found × AreInside depth found

nested_more : (m n : ℕ) (found : List ClassItem) → m ≤ n → AreNested m found → AreNested n found
nested_more m n [] le nested = tt
nested_more m n (item ∷ others) le nested = (omega (arith, le, nested.0), nested.1)

inside_more : (m n : ℕ) (found : List ClassItem) → m ≤ n → AreInside n found → AreInside m found
inside_more m n [] le inside = tt
inside_more m n (item ∷ others) le inside = (omega (arith, le, inside.0), inside_more m n others le inside.1)

behind_le : (item : ClassItem) → depth_of item ≤ depth_behind item
behind_le (With first last depth) = omega arith
behind_le (Call first last depth) = omega arith

nested_append : (most depth : ℕ) (xs ys : List ClassItem) → depth ≤ most → AreNested most xs → AreInside depth xs → AreNested depth ys
    → AreNested most (xs ++ ys)
nested_append most depth [] ys le xs_nested xs_inside ys_nested = nested_more depth most ys le ys_nested
nested_append most depth (x ∷ xs) ys le xs_nested xs_inside ys_nested =
    (xs_nested.0, nested_append (depth_behind x) depth xs ys (omega (arith, behind_le x, xs_inside.0)) xs_nested.1 xs_inside.1 ys_nested)

inside_append : (depth : ℕ) (xs ys : List ClassItem) → AreInside depth xs → AreInside depth ys → AreInside depth (xs ++ ys)
inside_append depth [] ys xs_inside ys_inside = ys_inside
inside_append depth (x ∷ xs) ys xs_inside ys_inside = (xs_inside.0, inside_append depth xs ys xs_inside.1 ys_inside)

join_fit : (depth : ℕ) (a b : Items) → IfOk a (Fit depth) → IfOk b (Fit depth) → IfOk (join_items a b) (Fit depth)
join_fit depth (Ok xs) (Ok ys) x y = (nested_append depth depth xs ys (omega arith) x.0 x.1 y.0, inside_append depth xs ys x.1 y.1)
join_fit depth (Ok xs) (Err e) x y = tt
join_fit depth (Err e) b x y = tt

plain_fit : (form : PlainForm) (line : LogicalLine) (depth : ℕ) (rest : Items) → IfOk rest (Fit depth)
    → IfOk (plain_items form line depth rest) (Fit depth)
plain_fit plain.Passed line depth rest fits = fits
plain_fit plain.Directive line depth rest fits =
    join_fit depth (Ok (call_item line depth ∷ [])) rest ((omega arith, tt), (omega arith, tt)) fits
plain_fit plain.Other line depth rest fits = tt

-- a head, and the items of its block
with_fit : (line : LogicalLine) (depth : ℕ) (inner rest : Items) → IfOk inner (Fit (depth + 1)) → IfOk rest (Fit depth)
    → IfOk (join_items (Ok (when_item line depth ∷ [])) (join_items inner rest)) (Fit depth)
with_fit line depth (Ok xs) (Ok ys) x y = (
  (omega arith, nested_append (depth + 1) depth xs ys (omega arith) x.0 (inside_more depth (depth + 1) xs (omega arith) x.1) y.0),
  (omega arith, inside_append depth xs ys (inside_more depth (depth + 1) xs (omega arith) x.1) y.1),
)
with_fit line depth (Ok xs) (Err e) x y = tt
with_fit line depth (Err e) rest x y = tt

headed_fit : (form : HeadForm) (line : LogicalLine) (depth : ℕ) (inner rest : Items) → IfOk inner (Fit (depth + 1)) → IfOk rest (Fit depth)
    → IfOk (headed_items form line depth inner rest) (Fit depth)
headed_fit head.Passed line depth inner rest inside fits = fits
headed_fit head.Class line depth inner rest inside fits = tt
headed_fit head.When line depth inner rest inside fits =
    let more = with_fit line depth inner rest inside fits in
    elim (nat_lt depth deepest) as
    (λ c. IfOk (cond c (join_items (Ok (when_item line depth ∷ [])) (join_items inner rest)) (Err (fault.TooDeep (place line))))
    (Fit depth))
    [ true ↦ more | false ↦ tt ]
headed_fit head.Other line depth inner rest inside fits = tt

body_fits : (bytes : List ℕ) (depth : ℕ) (block : StatementBlock) → IfOk (body bytes depth block) (Fit depth)
unfolding body
body_fits bytes depth Empty = (tt, tt)
body_fits bytes depth (Plain line rest) = plain_fit (plain_form bytes line.tokens) line depth (body bytes depth rest)
    (body_fits bytes depth rest)
body_fits bytes depth (Headed line inner rest) =
    headed_fit (head_form bytes line.tokens) line depth (body bytes (depth + 1) inner) (body bytes depth rest)
    (body_fits bytes (depth + 1) inner) (body_fits bytes depth rest)

outer_plain_fit : (form : PlainForm) (line : LogicalLine) (rest : Items) → IfOk rest (Fit 0) → IfOk (outer_plain form line rest) (Fit 0)
outer_plain_fit plain.Passed line rest fits = fits
outer_plain_fit plain.Directive line rest fits = tt
outer_plain_fit plain.Other line rest fits = tt

outer_headed_fit : (form : HeadForm) (line : LogicalLine) (seen : Bool) (inner rest : Items) → IfOk inner (Fit 0) → IfOk rest (Fit 0)
    → IfOk (outer_headed form line seen inner rest) (Fit 0)
outer_headed_fit head.Passed line seen inner rest inside fits = fits
outer_headed_fit head.Class line false inner rest inside fits = join_fit 0 inner rest inside fits
outer_headed_fit head.Class line true inner rest inside fits = tt
outer_headed_fit head.When line seen inner rest inside fits = tt
outer_headed_fit head.Other line seen inner rest inside fits = tt

end_fits : (seen : Bool) → IfOk (at_end seen) (Fit 0)
end_fits true = (tt, tt)
end_fits false = tt

outer_fits : (bytes : List ℕ) (seen : Bool) (block : StatementBlock) → IfOk (outer bytes seen block) (Fit 0)
unfolding outer
outer_fits bytes seen Empty = end_fits seen
outer_fits bytes seen (Plain line rest) = outer_plain_fit (plain_form bytes line.tokens) line (outer bytes seen rest)
    (outer_fits bytes seen rest)
outer_fits bytes seen (Headed line inner rest) =
    let after : Bool = seen || is_class (head_form bytes line.tokens) in
    outer_headed_fit (head_form bytes line.tokens) line seen (body bytes 0 inner) (outer bytes after rest) (body_fits bytes 0 inner)
    (outer_fits bytes after rest)

nested_of : (found : Items) → IfOk found (Fit 0) → IfOk found (AreNested 0)
nested_of (Ok xs) fits = fits.0
nested_of (Err e) fits = tt

-- an item of a file stands at most one block deeper than the head before it
pub items_nested : (bytes : List ℕ) (tokens : List Token) → IfOk (items bytes tokens) (AreNested 0)
unfolding items
items_nested bytes tokens = nested_of (outer bytes false (file_of tokens)) (outer_fits bytes false (file_of tokens))
