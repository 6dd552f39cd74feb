-- The lines of a file stand in order.
use Rattle.std.proofs.Common.{◌≡◌, ℕ, ◌+◌, ◌≤◌, Bool, true, false, cond, List, [], ◌∷◌, ◌++◌, length, subst, arith}
use Rattle.std.proofs.lemmas.List.{length-append}
use Rattle.recipe_lexer.specs.declared.token.Token.{Token}
use Rattle.recipe_lexer.specs.declared.token.TokenKind.{TokenKind}
use Rattle.recipe_lexer.specs.declared.token.TokenKind.TheVariants as kind
use Rattle.recipe_statements.specs.Blocks.{LogicalLine, StatementBlock, Empty, Plain, Headed, top_block, others, line_in_front, begins_block, is_between, ended_by, blocks, followed, all_blocks, file_of}

-- the place behind a line and its end
abbrev pub line_end : LogicalLine → ℕ
line_end line = line.first + length line.tokens + 1

-- the lines of a block stand between two places of the list of tokens
abbrev pub LinesFit : ℕ → ℕ → StatementBlock → Type 0
LinesFit from to Empty = from ≤ to
LinesFit from to (Plain line rest) = (from ≤ line.first) × LinesFit (line_end line) to rest
LinesFit from to (Headed line inner rest) = (from ≤ line.first) × ((m : ℕ) × LinesFit (line_end line) m inner × LinesFit m to rest)

-- and those of several blocks, one after the other
abbrev pub BlocksFit : ℕ → ℕ → List StatementBlock → Type 0
BlocksFit from to [] = from ≤ to
BlocksFit from to (b ∷ bs) = (m : ℕ) × LinesFit from m b × BlocksFit m to bs

lines_earlier : (from later to : ℕ) (b : StatementBlock) → from ≤ later → LinesFit later to b → LinesFit from to b
lines_earlier from later to Empty le fits = omega (arith, le, fits)
lines_earlier from later to (Plain line rest) le fits = (omega (arith, le, fits.0), fits.1)
lines_earlier from later to (Headed line inner rest) le fits = (omega (arith, le, fits.0), fits.1)

blocks_earlier : (from later to : ℕ) (bs : List StatementBlock) → from ≤ later → BlocksFit later to bs → BlocksFit from to bs
blocks_earlier from later to [] le fits = omega (arith, le, fits)
blocks_earlier from later to (b ∷ bs) le fits = (fits.0, lines_earlier from later fits.0 b le fits.1, fits.2)

-- the first block, and the others
top_fits : (from to : ℕ) (bs : List StatementBlock) → BlocksFit from to bs → (m : ℕ) × LinesFit from m (top_block bs)
    × BlocksFit m to (others bs)
top_fits from to [] fits = (from, omega arith, fits)
top_fits from to (b ∷ bs) fits = fits

add_fits : (line : LogicalLine) (has : Bool) (to : ℕ) (bs : List StatementBlock) → BlocksFit (line_end line) to bs
    → BlocksFit line.first to (line_in_front line has bs)
add_fits line false to bs fits =
    let t = top_fits (line_end line) to bs fits in (t.0, (omega arith, t.1), t.2)
add_fits line true to bs fits =
    let t = top_fits (line_end line) to bs fits in
    let u = top_fits t.0 to (others bs) t.2 in (u.0, (omega arith, (t.0, t.1, u.1)), u.2)

blocks_to : (from to there : ℕ) (bs : List StatementBlock) → to ≡ there → BlocksFit from to bs → BlocksFit from there bs
blocks_to from to there bs e fits = subst (λ (n : ℕ). BlocksFit from n bs) e fits

blocks_by : (k : TokenKind) (first : ℕ) (front : List Token) (t : Token) (rest : List Token)
    → BlocksFit (first + length front + 1) (first + length front + length (t ∷ rest)) (blocks (first + length front + 1) [] rest)
    → BlocksFit first (first + length front + length (t ∷ rest)) (blocks first (front ++ t ∷ []) rest)
    → BlocksFit first (first + length front + length (t ∷ rest))
    (ended_by k (record { first = first; tokens = front }) rest
    (blocks (cond (is_between k) (first + length front + 1) first) (cond (is_between k) [] (front ++ t ∷ [])) rest))
blocks_by kind.NewLine first front t rest next more =
    add_fits (record { first = first; tokens = front }) (begins_block rest) (first + length front + length (t ∷ rest))
    (blocks (first + length front + 1) [] rest) next
blocks_by kind.Indent first front t rest next more =
    blocks_earlier first (first + length front + 1) (first + length front + length (t ∷ rest)) (blocks (first + length front + 1) [] rest)
    (omega arith) next
blocks_by kind.Dedent first front t rest next more = (first + length front + 1, omega arith, next)
blocks_by kind.Word first front t rest next more = more
blocks_by kind.Text first front t rest next more = more
blocks_by (kind.Op b) first front t rest next more = more
blocks_by kind.End first front t rest next more = more

blocks_fit : (first : ℕ) (front tokens : List Token) → BlocksFit first (first + length front + length tokens) (blocks first front tokens)
unfolding blocks
blocks_fit first front [] = omega arith
blocks_fit first front (t ∷ rest) =
    let to : ℕ = first + length front + length (t ∷ rest) in
    let next : ℕ = first + length front + 1 in
    let none : List Token = [] in
    let one : List Token = front ++ t ∷ [] in
    blocks_by t.kind first front t rest
    (blocks_to next (next + length none + length rest) to (blocks next none rest) (omega arith) (blocks_fit next none rest))
    (blocks_to first (first + length one + length rest) to (blocks first one rest) (omega (arith, length-append front (t ∷ [])))
    (blocks_fit first one rest))

followed_fits : (from m to : ℕ) (a b : StatementBlock) → LinesFit from m a → LinesFit m to b → LinesFit from to (followed a b)
followed_fits from m to Empty b a_fits b_fits = lines_earlier from m to b a_fits b_fits
followed_fits from m to (Plain line rest) b a_fits b_fits = (a_fits.0, followed_fits (line_end line) m to rest b a_fits.1 b_fits)
followed_fits from m to (Headed line inner rest) b (start, (n, inside, behind)) b_fits =
    (start, (n, inside, followed_fits n m to rest b behind b_fits))

all_fits : (from to : ℕ) (bs : List StatementBlock) → BlocksFit from to bs → LinesFit from to (all_blocks bs)
all_fits from to [] fits = fits
all_fits from to (b ∷ bs) (m, first, others_fit) = followed_fits from m to b (all_blocks bs) first (all_fits m to bs others_fit)

-- the lines of a file stand one behind the other inside of its tokens
pub file_fits : (tokens : List Token) → LinesFit 0 (length tokens) (file_of tokens)
file_fits tokens =
    let none : List Token = [] in
    all_fits 0 (length tokens) (blocks 0 none tokens)
    (blocks_to 0 (0 + length none + length tokens) (length tokens) (blocks 0 none tokens) (omega arith) (blocks_fit 0 none tokens))
