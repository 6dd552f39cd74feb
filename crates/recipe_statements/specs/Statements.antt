-- The items of a recipe: which statements are passed over, which give items, and which are not read.
use Rattle.std.specs.Prelude.{◌≡◌, ℕ, ◌+◌, ◌-◌, ◌||◌, nat_lt, Bool, true, false, List, [], ◌∷◌, ◌++◌, length, Result, Ok, Err, if◌then◌else◌}
use Rattle.recipe_lexer.specs.declared.token.Token.{Token}
use Rattle.recipe_statements.specs.Lines.{plain_form, head_form}
use Rattle.recipe_statements.specs.Blocks.{LogicalLine, StatementBlock, Empty, Plain, Headed, file_of}
use Rattle.recipe_statements.specs.declared.form.PlainForm.{PlainForm}
use Rattle.recipe_statements.specs.declared.form.PlainForm.TheVariants as plain
use Rattle.recipe_statements.specs.declared.form.HeadForm.{HeadForm}
use Rattle.recipe_statements.specs.declared.form.HeadForm.TheVariants as head
use Rattle.recipe_statements.specs.declared.item.ClassItem.{ClassItem}
use Rattle.recipe_statements.specs.declared.item.ClassItem.TheVariants.{With, Call}
use Rattle.recipe_statements.specs.declared.item.StatementFault.{StatementFault}
use Rattle.recipe_statements.specs.declared.item.StatementFault.TheVariants as fault

abbrev pub Items : Type 0
Items = Result (List ClassItem) StatementFault

-- the items of one text behind those of another; the first fault counts
abbrev pub join_items : Items → Items → Items
join_items (Ok items) (Ok others) = Ok (items ++ others)
join_items (Ok items) (Err e) = Err e
join_items (Err e) others = Err e

-- the most `with when` heads that may stand inside each other
abbrev pub deepest : ℕ
deepest = 16

-- ---- lines

abbrev pub start_of : List Token → ℕ
start_of [] = 0
start_of (t ∷ rest) = t.start

-- the byte at which a line starts
abbrev pub place : LogicalLine → ℕ
place line = start_of line.tokens

-- the place of its last token in the list of tokens
abbrev pub last : LogicalLine → ℕ
last line = line.first + length line.tokens - 1

abbrev pub call_item : LogicalLine → ℕ → ClassItem
call_item line depth = Call line.first (last line) depth

abbrev pub when_item : LogicalLine → ℕ → ClassItem
when_item line depth = With line.first (last line) depth

-- ---- the block of the class, and of `with when` heads in it

-- a line without a block; `rest` is what stands behind it
abbrev pub plain_items : PlainForm → LogicalLine → ℕ → Items → Items
plain_items plain.Passed line depth rest = rest
plain_items plain.Directive line depth rest = join_items (Ok (call_item line depth ∷ [])) rest
plain_items plain.Other line depth rest = Err (fault.Unsupported (place line))

-- a line with a block, whose items are `inner`
abbrev pub headed_items : HeadForm → LogicalLine → ℕ → Items → Items → Items
headed_items head.Passed line depth inner rest = rest
headed_items head.When line depth inner rest =
    if nat_lt depth deepest then join_items (Ok (when_item line depth ∷ [])) (join_items inner rest) else Err (fault.TooDeep (place line))
headed_items head.Class line depth inner rest = Err (fault.Unsupported (place line))
headed_items head.Other line depth inner rest = Err (fault.Unsupported (place line))

-- the items of a block that stands in `depth` heads
unfoldable pub body : List ℕ → ℕ → StatementBlock → Items
body bytes depth Empty = Ok []
body bytes depth (Plain line rest) = plain_items (plain_form bytes line.tokens) line depth (body bytes depth rest)
body bytes depth (Headed line inner rest) =
    headed_items (head_form bytes line.tokens) line depth (body bytes (depth + 1) inner) (body bytes depth rest)

-- ---- the outer level

abbrev pub outer_plain : PlainForm → LogicalLine → Items → Items
outer_plain plain.Passed line rest = rest
outer_plain plain.Directive line rest = Err (fault.Unsupported (place line))
outer_plain plain.Other line rest = Err (fault.Unsupported (place line))

-- `seen`: whether a class stands before the line
abbrev pub outer_headed : HeadForm → LogicalLine → Bool → Items → Items → Items
outer_headed head.Passed line seen inner rest = rest
outer_headed head.Class line false inner rest = join_items inner rest
outer_headed head.Class line true inner rest = Err (fault.TwoClasses (place line))
outer_headed head.When line seen inner rest = Err (fault.Unsupported (place line))
outer_headed head.Other line seen inner rest = Err (fault.Unsupported (place line))

abbrev pub is_class : HeadForm → Bool
is_class head.Class = true
is_class form = false

abbrev pub at_end : Bool → Items
at_end true = Ok []
at_end false = Err fault.NoClass

unfoldable pub outer : List ℕ → Bool → StatementBlock → Items
outer bytes seen Empty = at_end seen
outer bytes seen (Plain line rest) = outer_plain (plain_form bytes line.tokens) line (outer bytes seen rest)
outer bytes seen (Headed line inner rest) =
    outer_headed (head_form bytes line.tokens) line seen (body bytes 0 inner)
    (outer bytes (seen || is_class (head_form bytes line.tokens)) rest)

-- the items of the file with these tokens, or its first fault
unfoldable pub items : List ℕ → List Token → Items
items bytes tokens = outer bytes false (file_of tokens)

-- what a reader answers, unless memory ran out
abbrev pub Fails : {X : Type 0} → StatementFault → Result X StatementFault → Type 0
Fails fault.OutOfMemory step = Unit {0}
Fails (fault.Unsupported p) step = step ≡ Err (fault.Unsupported p)
Fails fault.NoClass step = step ≡ Err fault.NoClass
Fails (fault.TwoClasses p) step = step ≡ Err (fault.TwoClasses p)
Fails (fault.TooDeep p) step = step ≡ Err (fault.TooDeep p)
