-- One token after the other.
use Rattle.std.proofs.Common.{◌≡◌, ◌∙◌, ℕ, ◌+◌, ◌-◌, ◌<◌, ◌≤◌, Bool, true, false, cond, List, [], ◌∷◌, ◌++◌, length, get_or, take, drop, append-nil, refl, ap, subst, arith, zero, suc}
use Rattle.std.specs.Prelude.{Ok, Err, Some, None}
use Rattle.std.proofs.lemmas.List.{length-take, length-drop, drop-drop, drop_all, drop_more}
use Rattle.std.proofs.Math.Seq.{drop-nil}
use Rattle.recipe_lexer.specs.declared.token.Token.{Token}
use Rattle.recipe_lexer.specs.declared.token.TokenKind.{TokenKind}
use Rattle.recipe_lexer.specs.declared.token.TokenKind.TheVariants as kind
use Rattle.recipe_statements.specs.Lines.{turned, behind_bracket}
use Rattle.recipe_statements.specs.Blocks.{LogicalLine, StatementBlock, Empty, line_in_front, begins_block, is_between, ended_by, blocks, all_blocks}
use Rattle.recipe_statements.specs.Statements.{Items, join_items, at_end, body, outer, items, Fails}
use Rattle.recipe_statements.specs.Inside.{State, Step, view, Gives, took, closed, between, then_first, stepped, rest_of, remaining, whole, finished}
use Rattle.recipe_statements.specs.declared.item.ClassItem.{ClassItem}
use Rattle.recipe_statements.specs.declared.item.StatementFault.{StatementFault}
use Rattle.recipe_statements.specs.declared.item.StatementFault.TheVariants as fault
use Rattle.recipe_statements.specs.declared.reader.Reader.{Reader}
use Rattle.recipe_statements.proofs.Joins.{join_none}
use Rattle.recipe_statements.proofs.StepLaws.{Agrees, closed_law, took_law}

-- ---- slices of the list of tokens

-- what a list of tokens has behind its end
abbrev pub nothing : Token
nothing = record { kind = kind.Word; start = 0; end = 0 }

-- the token at a place stands before those behind it
pub drop_at : (tokens : List Token) (i : ℕ) → i < length tokens → drop i tokens ≡ get_or tokens i nothing ∷ drop (i + 1) tokens
drop_at tokens i lt = drop_more tokens i nothing lt

take_one : (n : ℕ) (xs : List Token) (t : Token) (rest : List Token) → drop n xs ≡ t ∷ rest → take (suc n) xs ≡ take n xs ++ t ∷ []
take_one zero [] t rest e = absurd cc
take_one (suc n) [] t rest e = absurd cc
take_one zero (x ∷ xs) t rest e = let same : x ≡ t = cc in ap (λ (y : Token). y ∷ []) same
take_one (suc n) (x ∷ xs) t rest e = ap (λ (ys : List Token). x ∷ ys) (take_one n xs t rest e)

-- one token more between two places
pub between_more : (tokens : List Token) (first i : ℕ) (t : Token) (rest : List Token) → first ≤ i → drop i tokens ≡ t ∷ rest
    → between tokens first (i + 1) ≡ between tokens first i ++ t ∷ []
between_more tokens first i t rest le e =
    let more : i + 1 - first ≡ suc (i - first) = omega arith in
    let there : first + (i - first) ≡ i = omega arith in
    rw more (take_one (i - first) (drop first tokens) t rest (drop-drop (i - first) first tokens ∙ rw there e))

-- between a place and itself is no token
pub between_none : (tokens : List Token) (i : ℕ) → between tokens i i ≡ []
between_none tokens i = let none : i - i ≡ zero = omega arith in rw none refl

length_between : (tokens : List Token) (first i : ℕ) → first ≤ i → i ≤ length tokens → first + length (between tokens first i) + 1 ≡ i + 1
length_between tokens first i le within = omega (arith, length-take (i - first) (drop first tokens), length-drop first tokens)

-- ---- a token

-- a step led to a state, or to a fault, of which the whole file's items are `all`
abbrev pub Keeps : List ℕ → List Token → ℕ → Items → Step → Type 0
Keeps bytes tokens i all (Ok t) = whole bytes tokens i t ≡ all
Keeps bytes tokens i all (Err e) = all ≡ Err e

keeps_first : (bytes : List ℕ) (tokens : List Token) (i : ℕ) (all : Items) (step : Step)
    → Agrees bytes (blocks (i + 1) [] (drop (i + 1) tokens)) all step → Keeps bytes tokens (i + 1) all (then_first (i + 1) step)
unfolding whole remaining
keeps_first bytes tokens i all (Ok t) agrees = rw (between_none tokens (i + 1)) agrees
keeps_first bytes tokens i all (Err e) agrees = agrees

-- a token of a line
more : (bytes : List ℕ) (tokens : List Token) (i : ℕ) (s : State) (t : Token) → s.first ≤ i → drop i tokens ≡ t ∷ drop (i + 1) tokens
    → whole bytes tokens (i + 1) s ≡ remaining bytes s (blocks s.first (between tokens s.first i ++ t ∷ []) (drop (i + 1) tokens))
unfolding whole
more bytes tokens i s t le e = ap (λ (front : List Token). remaining bytes s (blocks s.first front (drop (i + 1) tokens)))
    (between_more tokens s.first i t (drop (i + 1) tokens) le e)

by_kind : (bytes : List ℕ) (tokens : List Token) (i : ℕ) (s : State) (t : Token) (k : TokenKind) → s.first ≤ i → i < length tokens
    → drop i tokens ≡ t ∷ drop (i + 1) tokens → let front : List Token = between tokens s.first i in
    Keeps bytes tokens (i + 1) (remaining bytes s
    (ended_by k (record { first = s.first; tokens = front }) (drop (i + 1) tokens)
    (blocks (cond (is_between k) (s.first + length front + 1) s.first) (cond (is_between k) [] (front ++ t ∷ [])) (drop (i + 1) tokens))))
    (stepped bytes tokens i k s)
by_kind bytes tokens i s t kind.NewLine le lt e =
    let line : LogicalLine = record { first = s.first; tokens = between tokens s.first i } in
    let rest : List Token = drop (i + 1) tokens in
    rw (length_between tokens s.first i le (omega arith))
    (keeps_first bytes tokens i (remaining bytes s (line_in_front line (begins_block rest) (blocks (i + 1) [] rest)))
    (took bytes line (begins_block rest) s)
    (took_law bytes line (begins_block rest) s (blocks (i + 1) [] rest)))
by_kind bytes tokens i s t kind.Indent le lt e =
    rw (length_between tokens s.first i le (omega arith))
    (keeps_first bytes tokens i (remaining bytes s (blocks (i + 1) [] (drop (i + 1) tokens))) (Ok s) refl)
by_kind bytes tokens i s t kind.Dedent le lt e =
    rw (length_between tokens s.first i le (omega arith))
    (keeps_first bytes tokens i (remaining bytes s (Empty ∷ blocks (i + 1) [] (drop (i + 1) tokens))) (Ok (closed s))
    (closed_law bytes s (blocks (i + 1) [] (drop (i + 1) tokens))))
by_kind bytes tokens i s t kind.Word le lt e = more bytes tokens i s t le e
by_kind bytes tokens i s t kind.Text le lt e = more bytes tokens i s t le e
by_kind bytes tokens i s t (kind.Op b) le lt e = more bytes tokens i s t le e
by_kind bytes tokens i s t kind.End le lt e = more bytes tokens i s t le e

-- a step keeps what the whole file gives
pub step_keeps : (bytes : List ℕ) (tokens : List Token) (i : ℕ) (s : State) (t : Token) → s.first ≤ i → i < length tokens
    → drop i tokens ≡ t ∷ drop (i + 1) tokens → Keeps bytes tokens (i + 1) (whole bytes tokens i s) (stepped bytes tokens i t.kind s)
unfolding whole blocks
step_keeps bytes tokens i s t le lt e = rw e (by_kind bytes tokens i s t t.kind le lt e)

-- what a call of a step says, in terms of what is still to come
pub ok_keeps : {X : Type 0} (x : X) (new : Reader) (bytes : List ℕ) (tokens : List Token) (i : ℕ) (all : Items) (step : Step)
    → Gives {X = X} (Ok x) new step → Keeps bytes tokens i all step → whole bytes tokens i (view new) ≡ all
ok_keeps x new bytes tokens i all step gives keeps = subst (Keeps bytes tokens i all) gives keeps

-- a step that fails is the fault of the file
pub err_fails : (f : StatementFault) (bytes : List ℕ) (tokens : List Token) (i : ℕ) (all : Items) (step : Step) → Fails f step
    → Keeps bytes tokens i all step → Fails f all
err_fails fault.OutOfMemory bytes tokens i all step gives keeps = tt
err_fails (fault.Unsupported p) bytes tokens i all step gives keeps = subst (Keeps bytes tokens i all) gives keeps
err_fails fault.NoClass bytes tokens i all step gives keeps = subst (Keeps bytes tokens i all) gives keeps
err_fails (fault.TwoClasses p) bytes tokens i all step gives keeps = subst (Keeps bytes tokens i all) gives keeps
err_fails (fault.TooDeep p) bytes tokens i all step gives keeps = subst (Keeps bytes tokens i all) gives keeps

-- ---- the start and the end

rest_end : (bytes : List ℕ) (seen : Bool) (level : ℕ) → rest_of bytes seen level [] ≡ at_end seen
unfolding rest_of outer body
rest_end bytes seen zero = refl
rest_end bytes seen (suc d) = join_none (rest_of bytes seen d []) ∙ rest_end bytes seen d

finished_by : (found : List ClassItem) (seen : Bool) → join_items (Ok found) (at_end seen) ≡ finished found seen
finished_by found true = ap (λ (xs : List ClassItem). let r : Items = Ok xs in r) (append-nil found)
finished_by found false = refl

-- behind the last token the file is finished
pub whole_end : (bytes : List ℕ) (tokens : List Token) (i : ℕ) (s : State) → length tokens ≤ i
    → whole bytes tokens i s ≡ finished s.items s.seen
unfolding whole blocks remaining
whole_end bytes tokens i s le =
    rw (drop_all i tokens le, drop-nil {A = StatementBlock} s.passed) (ap (join_items (Ok s.items)) (rest_end bytes s.seen s.level)
    ∙ finished_by s.items s.seen)

-- before the first token the whole file is left
pub whole_start : (bytes : List ℕ) (tokens : List Token) (found : List ClassItem) → found ≡ []
    → whole bytes tokens 0 (record { seen = false; level = 0; passed = 0; first = 0; items = found }) ≡ items bytes tokens
unfolding whole remaining rest_of items
whole_start bytes tokens found e = rw e (join_none (outer bytes false (all_blocks (blocks 0 [] tokens))))

-- ---- brackets

-- a token inside of brackets is passed over
pub behind_more : (inner now i : ℕ) (tokens : List Token) (t : Token) → drop i tokens ≡ t ∷ drop (i + 1) tokens
    → turned inner t.kind ≡ Some now → behind_bracket inner (drop i tokens) ≡ behind_bracket now (drop (i + 1) tokens)
unfolding behind_bracket
behind_more inner now i tokens t e turns = rw (e, turns) refl

-- the bracket that closes ends the search
pub behind_closed : (inner i : ℕ) (tokens : List Token) (t : Token) → drop i tokens ≡ t ∷ drop (i + 1) tokens → turned inner t.kind ≡ None
    → behind_bracket inner (drop i tokens) ≡ Some (drop (i + 1) tokens)
unfolding behind_bracket
behind_closed inner i tokens t e turns = rw (e, turns) refl

-- brackets that nothing closes have no end
pub behind_none : (inner i : ℕ) (tokens : List Token) → length tokens ≤ i → behind_bracket inner (drop i tokens) ≡ None
unfolding behind_bracket
behind_none inner i tokens le = rw (drop_all i tokens le) refl
