-- Forms of statements: what the tokens of a logical line make it.
use Rattle.std.specs.Prelude.{ℕ, ◌+◌, ◌-◌, ◌==◌, ◌&&◌, ◌||◌, nat_lt, nat_eq, Bool, true, false, List, [], ◌∷◌, length, drop, Option, Some, None, if◌then◌else◌, codes}
use Rattle.std.specs.List.{prefix_len, ends_with}
use Rattle.std.specs.Option.{option_map_or}
use Rattle.std.specs.Str.{bytes_eq}
use Rattle.recipe_lexer.specs.Layout.{slice}
use Rattle.recipe_lexer.specs.declared.token.Token.{Token}
use Rattle.recipe_lexer.specs.declared.token.TokenKind.{TokenKind}
use Rattle.recipe_lexer.specs.declared.token.TokenKind.TheVariants.{Word, Text, Op}
use Rattle.recipe_statements.specs.declared.form.PlainForm.{PlainForm}
use Rattle.recipe_statements.specs.declared.form.PlainForm.TheVariants as plain
use Rattle.recipe_statements.specs.declared.form.HeadForm.{HeadForm}
use Rattle.recipe_statements.specs.declared.form.HeadForm.TheVariants as head

-- ---- tokens

-- the text of a word, none for another token
abbrev pub word_by : List ℕ → TokenKind → ℕ → ℕ → List ℕ
word_by bytes Word start end = slice bytes start end
word_by bytes kind start end = []

abbrev pub word : List ℕ → Token → List ℕ
word bytes t = word_by bytes t.kind t.start t.end

abbrev pub is_word_kind : TokenKind → Bool
is_word_kind Word = true
is_word_kind kind = false

abbrev pub is_text_kind : TokenKind → Bool
is_text_kind Text = true
is_text_kind kind = false

abbrev pub is_sign : ℕ → TokenKind → Bool
is_sign sign (Op b) = b == sign
is_sign sign kind = false

-- ---- brackets

-- how many brackets are open inside an open one behind a token, None where the token closes that one
abbrev pub turned : ℕ → TokenKind → Option ℕ
turned inner (Op b) =
    if b == 40 || b == 91 || b == 123 then Some (inner + 1)
    else if b == 41 || b == 93 || b == 125 then (if inner == 0 then None else Some (inner - 1))
    else Some inner
turned inner kind = Some inner

-- what stands behind the partner of an open bracket, inside which so many are open
unfoldable pub behind_bracket : ℕ → List Token → Option (List Token)
behind_bracket inner [] = None
behind_bracket inner (t ∷ rest) = option_map_or (λ now. behind_bracket now rest) (turned inner t.kind) (Some rest)

-- ---- lines without a block

abbrev pub are_texts : List Token → Bool
are_texts tokens = prefix_len (λ t. is_text_kind t.kind) tokens == length tokens

abbrev pub is_import_word : List ℕ → Bool
is_import_word w = bytes_eq w (codes "import") || bytes_eq w (codes "from")

-- `import ..`, `from ..`, `@..`, and a word alone if it is `pass`
abbrev pub is_passed_by_start : List ℕ → List Token → Bool
is_passed_by_start bytes [] = false
is_passed_by_start bytes (t ∷ []) = is_import_word (word bytes t) || is_sign 64 t.kind || bytes_eq (word bytes t) (codes "pass")
is_passed_by_start bytes (t ∷ u ∷ rest) =
    is_import_word (word bytes t) || is_sign 64 t.kind || (is_word_kind t.kind && is_sign 61 u.kind)

abbrev pub is_directive : List ℕ → Bool
is_directive w =
    bytes_eq w (codes "version") || bytes_eq w (codes "variant") || bytes_eq w (codes "depends_on")
    || bytes_eq w (codes "provides") || bytes_eq w (codes "conflicts") || bytes_eq w (codes "requires")

abbrev pub is_passed_call : List ℕ → Bool
is_passed_call w =
    bytes_eq w (codes "license") || bytes_eq w (codes "maintainers") || bytes_eq w (codes "patch")
    || bytes_eq w (codes "resource") || bytes_eq w (codes "filter_compiler_wrappers")

abbrev pub is_end : Option (List Token) → Bool
is_end (Some []) = true
is_end rest = false

-- the name of the call that a line is, none where it is no call
abbrev pub called : List ℕ → List Token → List ℕ
called bytes (t ∷ u ∷ rest) = if is_sign 40 u.kind && is_end (behind_bracket 0 rest) then word bytes t else []
called bytes tokens = []

abbrev pub call_form : List ℕ → PlainForm
call_form name = if is_directive name then plain.Directive else if is_passed_call name then plain.Passed else plain.Other

-- the first word of a line, none where it has none
abbrev pub first_word : List ℕ → List Token → List ℕ
first_word bytes [] = []
first_word bytes (t ∷ rest) = word bytes t

abbrev pub is_definition : List ℕ → List Token → Bool
is_definition bytes tokens = bytes_eq (first_word bytes tokens) (codes "def")

-- the form of a line without a block
unfoldable pub plain_form : List ℕ → List Token → PlainForm
plain_form bytes tokens =
    if are_texts tokens || is_definition bytes tokens || is_passed_by_start bytes tokens then plain.Passed
    else call_form (called bytes tokens)

-- ---- heads of blocks

abbrev pub is_lone_colon : List Token → Bool
is_lone_colon (t ∷ []) = is_sign 58 t.kind
is_lone_colon tokens = false

abbrev pub is_colon_behind : Option (List Token) → Bool
is_colon_behind (Some rest) = is_lone_colon rest
is_colon_behind None = false

-- `:`, or `(..):`
abbrev pub ends_class_head : List Token → Bool
ends_class_head [] = false
ends_class_head (t ∷ rest) = if is_sign 40 t.kind then is_colon_behind (behind_bracket 0 rest) else is_lone_colon (t ∷ rest)

-- the name of the class whose head a line is, none where it is no such head
abbrev pub class_name : List ℕ → List Token → List ℕ
class_name bytes (t ∷ u ∷ rest) = if bytes_eq (word bytes t) (codes "class") && ends_class_head rest then word bytes u else []
class_name bytes tokens = []

abbrev pub closes_head : List Token → Bool
closes_head (t ∷ rest) = is_sign 41 t.kind && is_lone_colon rest
closes_head tokens = false

-- strings beside each other, at least one, and `):`
abbrev pub ends_when_head : List Token → Bool
ends_when_head tokens =
    nat_lt 0 (prefix_len (λ t. is_text_kind t.kind) tokens) && closes_head (drop (prefix_len (λ t. is_text_kind t.kind) tokens) tokens)

-- `with when(TEXT):`
abbrev pub is_when_head : List ℕ → List Token → Bool
is_when_head bytes (t ∷ u ∷ v ∷ rest) =
    bytes_eq (word bytes t) (codes "with") && bytes_eq (word bytes u) (codes "when") && is_sign 40 v.kind && ends_when_head rest
is_when_head bytes tokens = false

abbrev pub is_none : List ℕ → Bool
is_none w = length w == 0

abbrev pub class_form : List ℕ → HeadForm
class_form name = if ends_with nat_eq name (codes "Builder") then head.Passed else head.Class

-- the form of a line whose block follows
unfoldable pub head_form : List ℕ → List Token → HeadForm
head_form bytes tokens =
    if is_definition bytes tokens then head.Passed
    else if is_when_head bytes tokens then head.When
    else if is_none (class_name bytes tokens) then head.Other
    else class_form (class_name bytes tokens)
