-- The reader of the program: what stands between two tokens, and what a token does.
use Rattle.std.specs.Prelude.{◌≡◌, ℕ, ◌+◌, ◌-◌, ◌==◌, nat_lt, zero, suc, Bool, true, false, List, [], ◌∷◌, ◌++◌, take, drop, Result, Ok, Err, if◌then◌else◌}
use Rattle.recipe_lexer.specs.declared.token.Token.{Token}
use Rattle.recipe_lexer.specs.declared.token.TokenKind.{TokenKind}
use Rattle.recipe_lexer.specs.declared.token.TokenKind.TheVariants.{NewLine, Indent, Dedent}
use Rattle.recipe_statements.specs.Lines.{plain_form, head_form}
use Rattle.recipe_statements.specs.Blocks.{LogicalLine, StatementBlock, top_block, others, begins_block, blocks, all_blocks}
use Rattle.recipe_statements.specs.Statements.{Items, join_items, deepest, place, call_item, when_item, body, outer, Fails}
use Rattle.recipe_statements.specs.declared.form.PlainForm.{PlainForm}
use Rattle.recipe_statements.specs.declared.form.PlainForm.TheVariants as plain
use Rattle.recipe_statements.specs.declared.form.HeadForm.{HeadForm}
use Rattle.recipe_statements.specs.declared.form.HeadForm.TheVariants as head
use Rattle.recipe_statements.specs.declared.item.ClassItem.{ClassItem}
use Rattle.recipe_statements.specs.declared.item.StatementFault.{StatementFault}
use Rattle.recipe_statements.specs.declared.item.StatementFault.TheVariants as fault
use Rattle.recipe_statements.specs.declared.reader.Reader.{Reader}

-- whether a class was seen; 0 at the outer level, else one more than the heads around; how many open blocks are passed
-- over; the place of the line's first token; and the items so far
pub record State : Type 0 where
  pub seen : Bool
  pub level : ℕ
  pub passed : ℕ
  pub first : ℕ
  pub items : List ClassItem

abbrev pub view : Reader → State
view r = record { seen = r.seen; level = r.level; passed = r.passed; first = r.first; items = r.items.items }

abbrev pub Step : Type 0
Step = Result State StatementFault

-- ---- what a line, the end of a block and a token do

abbrev pub took_plain : PlainForm → LogicalLine → State → Step
took_plain plain.Passed line s = Ok s
took_plain plain.Directive line s =
    if s.level == 0 then Err (fault.Unsupported (place line))
    else Ok (record s { items = s.items ++ call_item line (s.level - 1) ∷ [] })
took_plain plain.Other line s = Err (fault.Unsupported (place line))

abbrev pub took_class : ℕ → State → Step
took_class start s = if s.seen then Err (fault.TwoClasses start) else Ok (record s { seen = true; level = 1 })

abbrev pub took_when : LogicalLine → State → Step
took_when line s =
    if nat_lt (s.level - 1) deepest then Ok (record s { level = s.level + 1; items = s.items ++ when_item line (s.level - 1) ∷ [] })
    else Err (fault.TooDeep (place line))

abbrev pub took_headed : HeadForm → LogicalLine → State → Step
took_headed head.Passed line s = Ok (record s { passed = 1 })
took_headed head.Class line s = if s.level == 0 then took_class (place line) s else Err (fault.Unsupported (place line))
took_headed head.When line s = if s.level == 0 then Err (fault.Unsupported (place line)) else took_when line s
took_headed head.Other line s = Err (fault.Unsupported (place line))

-- a line without or with a block
unfoldable pub took : List ℕ → LogicalLine → Bool → State → Step
took bytes line has_block s =
    if nat_lt 0 s.passed then Ok (record s { passed = if has_block then s.passed + 1 else s.passed })
    else if has_block then took_headed (head_form bytes line.tokens) line s
    else took_plain (plain_form bytes line.tokens) line s

-- the end of a block
unfoldable pub closed : State → State
closed s = if nat_lt 0 s.passed then record s { passed = s.passed - 1 } else record s { level = s.level - 1 }

-- the tokens from one place up to another
abbrev pub between : List Token → ℕ → ℕ → List Token
between tokens first i = take (i - first) (drop first tokens)

-- the next line starts at this token
abbrev pub then_first : ℕ → Step → Step
then_first n (Ok s) = Ok (record s { first = n })
then_first n (Err e) = Err e

-- the token at place i
abbrev pub stepped : List ℕ → List Token → ℕ → TokenKind → State → Step
stepped bytes tokens i NewLine s =
    then_first (i + 1) (took bytes (record { first = s.first; tokens = between tokens s.first i }) (begins_block (drop (i + 1) tokens)) s)
stepped bytes tokens i Indent s = Ok (record s { first = i + 1 })
stepped bytes tokens i Dedent s = then_first (i + 1) (Ok (closed s))
stepped bytes tokens i kind s = Ok s

-- ---- what is still to come

-- the items of the open blocks, the innermost first
unfoldable pub rest_of : List ℕ → Bool → ℕ → List StatementBlock → Items
rest_of bytes seen zero following = outer bytes seen (all_blocks following)
rest_of bytes seen (suc depth) following = join_items (body bytes depth (top_block following)) (rest_of bytes seen depth (others following))

-- the items so far, and those of what follows
unfoldable pub remaining : List ℕ → State → List StatementBlock → Items
remaining bytes s following = join_items (Ok s.items) (rest_of bytes s.seen s.level (drop s.passed following))

-- the items of the whole file, where the tokens up to place i led to this state
unfoldable pub whole : List ℕ → List Token → ℕ → State → Items
whole bytes tokens i s = remaining bytes s (blocks s.first (between tokens s.first i) (drop i tokens))

-- what a call did, unless memory ran out
abbrev pub Gives : {X : Type 0} → Result X StatementFault → Reader → Step → Type 0
Gives (Ok x) new step = step ≡ Ok (view new)
Gives (Err e) new step = Fails e step

-- the items, where a class was seen
abbrev pub finished : List ClassItem → Bool → Items
finished found true = Ok found
finished found false = Err fault.NoClass

-- what the whole reading did, unless memory ran out
abbrev pub Ends : {X : Type 0} → Result X StatementFault → Reader → Items → Type 0
Ends (Ok x) new items = items ≡ finished new.items.items new.seen
Ends (Err e) new items = Fails e items
