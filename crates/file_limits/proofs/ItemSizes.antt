-- The items of a file add no more rows and members than its tokens have bytes.
use Rattle.std.proofs.Common.{◌≡◌, ◌∙◌, refl, ap, subst, ℕ, ◌+◌, ◌-◌, ◌<◌, ◌≤◌, List, [], ◌∷◌, length, take, drop, sum_by, arith, suc}
use Rattle.std.specs.Prelude.{Option, Some, None, IfSome}
use Rattle.std.proofs.lemmas.List.{drop-take, take-take}
use Rattle.std.proofs.lemmas.List.Sums.{sum_by-cons, sum_by-take-drop, sum_by-take-le}
use Rattle.recipe_lexer.specs.declared.token.Token.{Token}
use Rattle.recipe_lexer.specs.declared.token.TokenKind.{TokenKind}
use Rattle.recipe_lexer.specs.declared.token.TokenKind.TheVariants.{Word, Text, Op, NewLine, Indent, Dedent, End}
use Rattle.recipe_statements.specs.Lines.{word, word_by}
use Rattle.recipe_statements.specs.Order.{AreInOrder, first_of, last_of}
use Rattle.recipe_statements.specs.declared.item.ClassItem.{ClassItem}
use Rattle.recipe_statements.specs.declared.item.ClassItem.TheVariants.{With, Call}
use Rattle.recipe_values.specs.Strings.{strings_text, first_start}
use Rattle.recipe_values.specs.Brackets.{arguments_of}
use Rattle.recipe_values.specs.declared.segment.Segment.{Segment}
use Rattle.directive_arguments.specs.declared.directive.Directive.{Directive}
use Rattle.directive_arguments.specs.Table.{directive_of}
use Rattle.directive_arguments.proofs.ListLaws.{ok_then, any_then}
use Rattle.recipe_reader.specs.declared.state.Head.{Head}
use Rattle.recipe_reader.specs.declared.state.State.{State}
use Rattle.recipe_reader.specs.Results.{as_recipe_step}
use Rattle.recipe_reader.specs.Recipes.{between, byte_at, first_token_word, innermost, head, with_head, call_by, item, count_call, read_items}
use Rattle.file_limits.proofs.Sizes.{size_by, token_size, tokens_size, segment_size}
use Rattle.file_limits.proofs.TokenCounts.{no-more}
use Rattle.file_limits.proofs.StringSizes.{slice-few}
use Rattle.file_limits.proofs.BracketSizes.{arguments-size}
use Rattle.file_limits.proofs.RowSizes.{state_size, StateGrowsTo, call-grows, word-long}

-- ---- tokens of an item

word_by-few : (bytes : List ℕ) (k : TokenKind) (from to : ℕ) → length (word_by bytes k from to) ≤ size_by k from to
word_by-few bytes Word from to = omega (arith, slice-few bytes from to)
word_by-few bytes Text from to = omega arith
word_by-few bytes (Op b) from to = omega arith
word_by-few bytes NewLine from to = omega arith
word_by-few bytes Indent from to = omega arith
word_by-few bytes Dedent from to = omega arith
word_by-few bytes End from to = omega arith

word-few : (bytes : List ℕ) (t : Token) → length (word bytes t) ≤ token_size t
word-few bytes t = word_by-few bytes t.kind t.start t.end

drop-less : (n : ℕ) (ts : List Token) → tokens_size (drop n ts) ≤ tokens_size ts
drop-less n ts = omega (arith, sum_by-take-drop token_size ts n)

front-less : (m n : ℕ) (ts : List Token) → m ≤ n → tokens_size (take m ts) ≤ tokens_size (take n ts)
front-less m n ts le = omega (arith, sum_by-take-le token_size (take n ts) m, ap tokens_size (take-take m n ts le))

-- what an item has and what stands behind it are no more than what stands from a place before it on
parts-less : (from first last : ℕ) (ts : List Token) → from ≤ first → first ≤ last
    → tokens_size (between ts first last) + tokens_size (drop (last + 1) ts) ≤ tokens_size (drop from ts)
parts-less from first last ts le next =
    let a = sum_by-take-drop token_size (take last ts) first in
    let b = sum_by-take-drop token_size ts (last + 1) in
    let c = sum_by-take-drop token_size ts from in
    omega (
      arith,
      a,
      b,
      c,
      front-less first last ts next,
      front-less from first ts le,
      front-less last (last + 1) ts (omega arith),
      ap
          tokens_size (take-take first last ts next),
    )

-- ---- calls

call_by-grows : (bytes : List ℕ) (w : List ℕ) (place number : ℕ) (segments : List Segment) (around : Option Head) (s : State) (n : ℕ)
    → (o : Option Directive) → IfSome o (λ d. 7 ≤ length w) → (7 ≤ length w → sum_by segment_size segments + 7 ≤ n)
    → StateGrowsTo (state_size s + n) (call_by o bytes place number segments around s)
call_by-grows bytes w place number segments around s n None long pays = tt
call_by-grows bytes w place number segments around s n (Some d) long pays =
    no-more state_size (state_size s + (sum_by segment_size segments + 7)) (state_size s + n) _
    (call-grows bytes d place number segments around s) (omega (arith, pays long))

-- the word of a directive pays for what is not paid by its arguments
word-pays : (bytes : List ℕ) (ts : List Token) (first last : ℕ) → first < last → 7 ≤ length (first_token_word bytes (drop first ts))
    → tokens_size (drop 2 (between ts first last)) + 7 ≤ tokens_size (between ts first last)
word-pays bytes ts first last less long = along (drop first ts) refl
  where
    along : (rest : List Token) → drop first ts ≡ rest
        → tokens_size (drop 2 (between ts first last)) + 7 ≤ tokens_size (between ts first last)
    along [] is = absurd (let none = subst (λ (r : List Token). 7 ≤ length (first_token_word bytes r)) is long in omega arith)
    along (t ∷ more) is = along-cases (last - (first + 1)) refl
      where
        along-cases : (k : ℕ) → last - (first + 1) ≡ k
            → tokens_size (drop 2 (between ts first last)) + 7 ≤ tokens_size (between ts first last)
        along-cases k e =
            let all : last ≡ first + suc k = omega arith in
            let cut : between ts first last ≡ t ∷ take k more =
            ap (λ (n : ℕ). drop first (take n ts)) all ∙ drop-take first (suc k) ts ∙ ap (take (suc k)) is in
            let here : 7 ≤ length (word bytes t) = subst (λ (r : List Token). 7 ≤ length (first_token_word bytes r)) is long in
            rw cut (omega (arith, here, word-few bytes t, drop-less 1 (take k more), sum_by-cons token_size t (take k more)))

-- ---- items

head-keeps : (bytes : List ℕ) (texts : List Token) (depth n : ℕ) (s : State)
    → StateGrowsTo (state_size s + n) (with_head bytes texts depth s)
unfolding with_head
head-keeps bytes texts depth n s =
    let P : State → Type 0 = λ t. state_size t ≤ state_size s + n in
    any_then P (as_recipe_step (strings_text bytes texts)) _ (λ text.
    any_then P (head (innermost s.heads depth) (first_start texts) text) _ (λ h. omega arith))

item-grows : (bytes : List ℕ) (ts : List Token) (number : ℕ) (i : ClassItem) (s : State) → first_of i < last_of i
    → StateGrowsTo (state_size s + tokens_size (between ts (first_of i) (last_of i))) (item bytes ts number i s)
item-grows bytes ts number (With first last depth) s less =
    head-keeps bytes (drop 3 (between ts first (last - 1))) depth (tokens_size (between ts first last)) s
item-grows bytes ts number (Call first last depth) s less =
    let w : List ℕ = first_token_word bytes (drop first ts) in
    let inner : List Token = drop 2 (between ts first last) in
    call_by-grows bytes w (byte_at ts first) number (arguments_of bytes (byte_at ts last) inner) (innermost s.heads depth) s
    (tokens_size (between ts first last)) (directive_of w) (word-long w)
    (λ long. omega (arith, word-pays bytes ts first last less long, arguments-size bytes (byte_at ts last) inner))

-- items of a file add no more than their tokens have
pub items-grow : (bytes : List ℕ) (ts : List Token) (from to number : ℕ) (all : List ClassItem) (s : State) → AreInOrder from to all
    → StateGrowsTo (state_size s + tokens_size (drop from ts)) (read_items bytes ts number all s)
unfolding read_items
items-grow bytes ts from to number [] s order = omega arith
items-grow bytes ts from to number (i ∷ more) s order =
    let here : ℕ = state_size s + tokens_size (between ts (first_of i) (last_of i)) in
    let n : ℕ = state_size s + tokens_size (drop from ts) in
    ok_then (λ (t : State). state_size t ≤ here) (λ (t : State). state_size t ≤ n) (item bytes ts number i s)
    (read_items bytes ts (count_call i number) more) (item-grows bytes ts number i s order.1) (λ t h.
    no-more state_size (state_size t + tokens_size (drop (last_of i + 1) ts)) n (read_items bytes ts (count_call i number) more t)
    (items-grow bytes ts (last_of i + 1) to (count_call i number) more t order.2)
    (omega (arith, h, parts-less from (first_of i) (last_of i) ts order.0 (omega (arith, order.1)))))
