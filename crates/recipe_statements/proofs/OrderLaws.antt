-- Items stand in order.
use Rattle.std.proofs.Common.{◌≡◌, ℕ, ◌+◌, ◌<◌, ◌≤◌, Bool, true, false, cond, List, [], ◌∷◌, ◌++◌, length, refl, arith}
use Rattle.std.specs.Prelude.{Ok, Err, IfOk, nat_lt, ◌||◌}
use Rattle.recipe_lexer.specs.declared.token.Token.{Token}
use Rattle.recipe_statements.specs.Lines.{plain_form, head_form, are_texts, is_definition, is_passed_by_start, call_form, called}
use Rattle.recipe_statements.specs.Blocks.{LogicalLine, StatementBlock, Empty, Plain, Headed, file_of}
use Rattle.recipe_statements.specs.Statements.{Items, join_items, deepest, place, call_item, when_item, plain_items, headed_items, body, outer_plain, outer_headed, is_class, at_end, outer, items}
use Rattle.recipe_statements.specs.Order.{last_of, AreInOrder}
use Rattle.recipe_statements.specs.declared.form.PlainForm.{PlainForm}
use Rattle.recipe_statements.specs.declared.form.PlainForm.TheVariants as plain
use Rattle.recipe_statements.specs.declared.form.HeadForm.{HeadForm}
use Rattle.recipe_statements.specs.declared.form.HeadForm.TheVariants as head
use Rattle.recipe_statements.specs.declared.item.ClassItem.{ClassItem}
use Rattle.recipe_statements.specs.declared.item.StatementFault.TheVariants as fault
use Rattle.recipe_statements.proofs.LineLaws.{line_end, LinesFit, file_fits}

-- ---- lists

order_earlier : (from later to : ℕ) (found : List ClassItem) → from ≤ later → AreInOrder later to found → AreInOrder from to found
order_earlier from later to [] le ordered = omega (arith, le, ordered)
order_earlier from later to (item ∷ others) le (start, long, more) = (omega (arith, le, start), long, more)

order_append : (from m to : ℕ) (xs ys : List ClassItem) → AreInOrder from m xs → AreInOrder m to ys → AreInOrder from to (xs ++ ys)
order_append from m to [] ys x y = order_earlier from m to ys x y
order_append from m to (item ∷ xs) ys (start, long, more) y = (start, long, order_append (last_of item + 1) m to xs ys more y)

ok_earlier : (from later to : ℕ) (found : Items) → from ≤ later → IfOk found (AreInOrder later to) → IfOk found (AreInOrder from to)
ok_earlier from later to (Ok xs) le ordered = order_earlier from later to xs le ordered
ok_earlier from later to (Err e) le ordered = tt

join_order : (from m to : ℕ) (a b : Items) → IfOk a (AreInOrder from m) → IfOk b (AreInOrder m to)
    → IfOk (join_items a b) (AreInOrder from to)
join_order from m to (Ok xs) (Ok ys) x y = order_append from m to xs ys x y
join_order from m to (Ok xs) (Err e) x y = tt
join_order from m to (Err e) b x y = tt

-- ---- items have two tokens and more

passed_or : (c : Bool) (form : PlainForm) → (form ≡ plain.Directive → ⊥) → cond c plain.Passed form ≡ plain.Directive → ⊥
passed_or true form differs is = cc
passed_or false form differs is = differs is

directive_long : (bytes : List ℕ) (tokens : List Token) → plain_form bytes tokens ≡ plain.Directive → 1 < length tokens
unfolding plain_form
directive_long bytes [] is = absurd cc
directive_long bytes (t ∷ []) is =
    absurd (passed_or (are_texts (t ∷ []) || is_definition bytes (t ∷ []) || is_passed_by_start bytes (t ∷ []))
    (call_form (called bytes (t ∷ []))) (λ e. cc) is)
directive_long bytes (t ∷ u ∷ rest) is = omega arith

passed_or_other : (c : Bool) → cond c head.Passed head.Other ≡ head.When → ⊥
passed_or_other true is = cc
passed_or_other false is = cc

when_long : (bytes : List ℕ) (tokens : List Token) → head_form bytes tokens ≡ head.When → 1 < length tokens
unfolding head_form
when_long bytes [] is = absurd cc
when_long bytes (t ∷ []) is = absurd (passed_or_other (is_definition bytes (t ∷ [])) is)
when_long bytes (t ∷ u ∷ rest) is = omega arith

-- ---- blocks

plain_order : (form : PlainForm) (line : LogicalLine) (depth from to : ℕ) (rest : Items) → (form ≡ plain.Directive → 1 < length line.tokens)
    → from ≤ line.first → IfOk rest (AreInOrder (line_end line) to) → IfOk (plain_items form line depth rest) (AreInOrder from to)
plain_order plain.Passed line depth from to rest long start ordered = ok_earlier from (line_end line) to rest (omega (arith, start)) ordered
plain_order plain.Directive line depth from to rest long start ordered =
    join_order from (line_end line) to (Ok (call_item line depth ∷ [])) rest
    (start, omega (arith, long refl), omega (arith, long refl)) ordered
plain_order plain.Other line depth from to rest long start ordered = tt

with_order : (line : LogicalLine) (depth from m to : ℕ) (inner rest : Items) → 1 < length line.tokens → from ≤ line.first
    → IfOk inner (AreInOrder (line_end line) m) → IfOk rest (AreInOrder m to)
    → IfOk (join_items (Ok (when_item line depth ∷ [])) (join_items inner rest)) (AreInOrder from to)
with_order line depth from m to inner rest long start inside ordered =
    join_order from (line_end line) to (Ok (when_item line depth ∷ [])) (join_items inner rest)
    (start, omega (arith, long), omega (arith, long))
    (join_order (line_end line) m to inner rest inside ordered)

order_le : (from to : ℕ) (b : StatementBlock) → LinesFit from to b → from ≤ to
order_le from to Empty fits = fits
order_le from to (Plain line rest) fits = omega (arith, fits.0, order_le (line_end line) to rest fits.1)
order_le from to (Headed line inner rest) (start, (m, inside, behind)) =
    omega (arith, start, order_le (line_end line) m inner inside, order_le m to rest behind)

headed_order : (form : HeadForm) (line : LogicalLine) (depth from m to : ℕ) (inner rest : Items)
    → (form ≡ head.When → 1 < length line.tokens)
    → from ≤ line.first → line_end line ≤ m → IfOk inner (AreInOrder (line_end line) m) → IfOk rest (AreInOrder m to)
    → IfOk (headed_items form line depth inner rest) (AreInOrder from to)
headed_order head.Passed line depth from m to inner rest long start le inside ordered =
    ok_earlier from m to rest (omega (arith, start, le)) ordered
headed_order head.Class line depth from m to inner rest long start le inside ordered = tt
headed_order head.When line depth from m to inner rest long start le inside ordered =
    let more = with_order line depth from m to inner rest (long refl) start inside ordered in
    elim (nat_lt depth deepest) as
    (λ c. IfOk (cond c (join_items (Ok (when_item line depth ∷ [])) (join_items inner rest)) (Err (fault.TooDeep (place line))))
    (AreInOrder from to)) [ true ↦ more | false ↦ tt ]
headed_order head.Other line depth from m to inner rest long start le inside ordered = tt

body_order : (bytes : List ℕ) (depth from to : ℕ) (b : StatementBlock) → LinesFit from to b → IfOk (body bytes depth b) (AreInOrder from to)
unfolding body
body_order bytes depth from to Empty fits = fits
body_order bytes depth from to (Plain line rest) fits =
    plain_order (plain_form bytes line.tokens) line depth from to (body bytes depth rest) (directive_long bytes line.tokens) fits.0
    (body_order bytes depth (line_end line) to rest fits.1)
body_order bytes depth from to (Headed line inner rest) (start, (m, inside, behind)) =
    headed_order (head_form bytes line.tokens) line depth from m to (body bytes (depth + 1) inner) (body bytes depth rest)
    (when_long bytes line.tokens) start (order_le (line_end line) m inner inside)
    (body_order bytes (depth + 1) (line_end line) m inner inside) (body_order bytes depth m to rest behind)

-- ---- the outer level

outer_plain_order : (form : PlainForm) (line : LogicalLine) (from to : ℕ) (rest : Items) → from ≤ line.first
    → IfOk rest (AreInOrder (line_end line) to) → IfOk (outer_plain form line rest) (AreInOrder from to)
outer_plain_order plain.Passed line from to rest start ordered = ok_earlier from (line_end line) to rest (omega (arith, start)) ordered
outer_plain_order plain.Directive line from to rest start ordered = tt
outer_plain_order plain.Other line from to rest start ordered = tt

outer_headed_order : (form : HeadForm) (line : LogicalLine) (seen : Bool) (from m to : ℕ) (inner rest : Items) → from ≤ line.first
    → line_end line ≤ m → IfOk inner (AreInOrder (line_end line) m) → IfOk rest (AreInOrder m to)
    → IfOk (outer_headed form line seen inner rest) (AreInOrder from to)
outer_headed_order head.Passed line seen from m to inner rest start le inside ordered =
    ok_earlier from m to rest (omega (arith, start, le)) ordered
outer_headed_order head.Class line false from m to inner rest start le inside ordered =
    join_order from m to inner rest (ok_earlier from (line_end line) m inner (omega (arith, start)) inside) ordered
outer_headed_order head.Class line true from m to inner rest start le inside ordered = tt
outer_headed_order head.When line seen from m to inner rest start le inside ordered = tt
outer_headed_order head.Other line seen from m to inner rest start le inside ordered = tt

end_order : (seen : Bool) (from to : ℕ) → from ≤ to → IfOk (at_end seen) (AreInOrder from to)
end_order true from to le = le
end_order false from to le = tt

outer_order : (bytes : List ℕ) (seen : Bool) (from to : ℕ) (b : StatementBlock) → LinesFit from to b
    → IfOk (outer bytes seen b) (AreInOrder from to)
unfolding outer
outer_order bytes seen from to Empty fits = end_order seen from to fits
outer_order bytes seen from to (Plain line rest) fits =
    outer_plain_order (plain_form bytes line.tokens) line from to (outer bytes seen rest) fits.0
    (outer_order bytes seen (line_end line) to rest fits.1)
outer_order bytes seen from to (Headed line inner rest) (start, (m, inside, behind)) =
    let after : Bool = seen || is_class (head_form bytes line.tokens) in
    outer_headed_order (head_form bytes line.tokens) line seen from m to (body bytes 0 inner) (outer bytes after rest) start
    (order_le (line_end line) m inner inside)
    (body_order bytes 0 (line_end line) m inner inside) (outer_order bytes after m to rest behind)

-- the items of a file stand in order inside of its tokens
pub items_in_order : (bytes : List ℕ) (tokens : List Token) → IfOk (items bytes tokens) (AreInOrder 0 (length tokens))
unfolding items
items_in_order bytes tokens = outer_order bytes false 0 (length tokens) (file_of tokens) (file_fits tokens)
