-- What the words of formulas say.
use Rattle.std.proofs.Common.{◌≡◌, ℕ, zero, suc, ◌<◌, Bool, true, false, not, ◌&&◌, ◌||◌, List, [], ◌∷◌, ◌++◌, map, refl, sym, ap, ◌∙◌}
use Rattle.std.specs.Prelude.{if◌then◌else◌}
use Rattle.clause_store.specs.declared.Lit.{Lit}
use Rattle.clause_store.specs.Lits.{var_of, lit_true, AllBelow}
use Rattle.clause_formulas.specs.Statements.{Statement, atom, never, or, no, eval, opposite, any_statement, all_statements, both_statements, implication_of, not_both, apart, one_of, truths, none_true, one_true, all_eval, SaidBelow}
use Rattle.clause_formulas.specs.declared.defined.Defined.{Defined}
use Rattle.clause_formulas.specs.declared.defined.Defined.TheVariants.{Known, By}
use Rattle.clause_formulas.specs.Drafts.{statement_of, defined_true, DefinedBelow, statement_at, part_at}
use Rattle.clause_circuits.specs.Growth.{MeetsSince}
use Rattle.clause_formulas.specs.Gated.{Gated, Fits}
use Rattle.clause_formulas.specs.Values.{MeanEach}
use Rattle.clause_store.proofs.Meaning.{lit_true-negation}
use Rattle.clause_formulas.proofs.DraftLaws.{or-false}

not-not : (a : Bool) → not (not a) ≡ a
not-not true = refl
not-not false = refl

not-or : (a b : Bool) → not (not a || not b) ≡ (a && b)
not-or true true = refl
not-or true false = refl
not-or false b = refl

and-true : (a : Bool) → (a && true) ≡ a
and-true true = refl
and-true false = refl

pub eval-opposite : (v : ℕ → Bool) (f : Statement) → eval v (opposite f) ≡ not (eval v f)
eval-opposite v (atom l) = lit_true-negation v l
eval-opposite v never = refl
eval-opposite v (or f g) = refl
eval-opposite v (no f) = sym (not-not (eval v f))

pub eval-all_of : (v : ℕ → Bool) (fs : List Statement) → eval v (all_statements fs) ≡ all_eval v fs
eval-all_of v [] = refl
eval-all_of v (f ∷ fs) =
    ap (λ b. not (b || eval v (any_statement (map opposite fs)))) (eval-opposite v f)
    ∙ ap (λ b. not (not (eval v f) || b)) (sym (not-not (eval v (any_statement (map opposite fs)))))
    ∙ not-or (eval v f) (eval v (all_statements fs)) ∙ ap (λ b. eval v f && b) (eval-all_of v fs)

pub eval-both : (v : ℕ → Bool) (f g : Statement) → eval v (both_statements f g) ≡ (eval v f && eval v g)
eval-both v f g = eval-all_of v (f ∷ g ∷ []) ∙ ap (λ b. eval v f && b) (and-true (eval v g))

pub eval-implies : (v : ℕ → Bool) (f g : Statement) → eval v (implication_of f g) ≡ (not (eval v f) || eval v g)
eval-implies v f g = rw (eval-opposite v f, or-false (eval v g)) refl

pub eval-said_of : (v : ℕ → Bool) (x : Defined) → eval v (statement_of x) ≡ defined_true v x
eval-said_of v (Known true) = refl
eval-said_of v (Known false) = refl
eval-said_of v (By l) = refl

-- exactly one
eval-atoms : (v : ℕ → Bool) (ls : List Lit) → eval v (any_statement (map atom ls)) ≡ not (none_true (truths v ls))
eval-atoms v [] = refl
eval-atoms v (l ∷ ls) = ap (λ b. lit_true v l || b) (eval-atoms v ls) ∙ by-bools (lit_true v l) (none_true (truths v ls))
  where
    by-bools : (a b : Bool) → (a || not b) ≡ not (not a && b)
    by-bools true b = refl
    by-bools false b = refl

pub all_eval-append : (v : ℕ → Bool) (fs gs : List Statement) → all_eval v (fs ++ gs) ≡ (all_eval v fs && all_eval v gs)
all_eval-append v [] gs = refl
all_eval-append v (f ∷ fs) gs = rw (all_eval-append v fs gs) (and-assoc (eval v f) (all_eval v fs) (all_eval v gs))
  where
    and-assoc : (a b c : Bool) → (a && (b && c)) ≡ ((a && b) && c)
    and-assoc true b c = refl
    and-assoc false b c = refl

eval-apart : (v : ℕ → Bool) (l : Lit) (ls : List Lit) → all_eval v (map (not_both l) ls) ≡ (not (lit_true v l) || none_true (truths v ls))
eval-apart v l [] = sym (or-true (not (lit_true v l)))
  where
    or-true : (a : Bool) → (a || true) ≡ true
    or-true true = refl
    or-true false = refl
eval-apart v l (k ∷ ls) = rw (lit_true-negation v l, lit_true-negation v k, eval-apart v l ls)
    (by-bools (lit_true v l) (lit_true v k) (none_true (truths v ls)))
  where
    by-bools : (a b c : Bool) → ((not a || (not b || false)) && (not a || c)) ≡ (not a || (not b && c))
    by-bools true true c = refl
    by-bools true false c = refl
    by-bools false b c = refl

apart-eval : (v : ℕ → Bool) (l : Lit) (ls : List Lit)
    → all_eval v (apart (l ∷ ls)) ≡ ((not (lit_true v l) || none_true (truths v ls)) && all_eval v (apart ls))
apart-eval v l ls = all_eval-append v (map (not_both l) ls) (apart ls) ∙ ap (λ b. b && all_eval v (apart ls)) (eval-apart v l ls)

none-apart : (v : ℕ → Bool) (ls : List Lit) → (none_true (truths v ls) && all_eval v (apart ls)) ≡ none_true (truths v ls)
none-apart v [] = refl
none-apart v (l ∷ ls) = ap (λ b. none_true (truths v (l ∷ ls)) && b) (apart-eval v l ls)
    ∙ by-bools (lit_true v l) (none_true (truths v ls)) (all_eval v (apart ls)) (none-apart v ls)
  where
    by-bools : (t n a : Bool) → (n && a) ≡ n → ((not t && n) && ((not t || n) && a)) ≡ (not t && n)
    by-bools true n a e = refl
    by-bools false n a e = e

-- at least one, and at most one
one-apart : (v : ℕ → Bool) (ls : List Lit) → (not (none_true (truths v ls)) && all_eval v (apart ls)) ≡ one_true (truths v ls)
one-apart v [] = refl
one-apart v (l ∷ ls) = ap (λ b. not (none_true (truths v (l ∷ ls))) && b) (apart-eval v l ls)
    ∙ by-bools (lit_true v l) (none_true (truths v ls)) (all_eval v (apart ls)) _ (none-apart v ls) (one-apart v ls)
  where
    by-bools : (t n a o : Bool) → (n && a) ≡ n → (not n && a) ≡ o → (not (not t && n) && ((not t || n) && a)) ≡ (if t then n else o)
    by-bools true n a o e f = e
    by-bools false n a o e f = f

pub eval-one_of : (v : ℕ → Bool) (ls : List Lit) → eval v (one_of ls) ≡ one_true (truths v ls)
eval-one_of v ls = eval-all_of v (any_statement (map atom ls) ∷ apart ls) ∙ ap (λ b. b && all_eval v (apart ls)) (eval-atoms v ls)
    ∙ one-apart v ls

-- the variables of the words
pub opposite-below : (n : ℕ) (f : Statement) → SaidBelow n f → SaidBelow n (opposite f)
opposite-below n (atom l) b = b
opposite-below n never b = tt
opposite-below n (or f g) b = b
opposite-below n (no f) b = b

pub any_of-below : (n : ℕ) (fs gs : List Statement) → SaidBelow n (any_statement fs) → SaidBelow n (any_statement gs)
    → SaidBelow n (any_statement (fs ++ gs))
any_of-below n [] gs a b = b
any_of-below n (f ∷ fs) gs a b = (a.0, any_of-below n fs gs a.1 b)

pub all_of-below : (n : ℕ) (fs : List Statement) → SaidBelow n (any_statement fs) → SaidBelow n (all_statements fs)
all_of-below n [] b = tt
all_of-below n (f ∷ fs) b = (opposite-below n f b.0, all_of-below n fs b.1)

pub implies-below : (n : ℕ) (f g : Statement) → SaidBelow n f → SaidBelow n g → SaidBelow n (implication_of f g)
implies-below n f g a b = (opposite-below n f a, (b, tt))

pub said_of-below : (n : ℕ) (x : Defined) → DefinedBelow n x → SaidBelow n (statement_of x)
said_of-below n (Known true) b = tt
said_of-below n (Known false) b = tt
said_of-below n (By l) b = b

not_both-below : (n : ℕ) (l : Lit) (ls : List Lit) → var_of l < n → AllBelow n ls → SaidBelow n (any_statement (map (not_both l) ls))
not_both-below n l [] h b = tt
not_both-below n l (k ∷ ls) h b = ((h, (b.0, tt)), not_both-below n l ls h b.1)

apart-below : (n : ℕ) (ls : List Lit) → AllBelow n ls → SaidBelow n (any_statement (apart ls))
apart-below n [] b = tt
apart-below n (l ∷ ls) b = any_of-below n (map (not_both l) ls) (apart ls) (not_both-below n l ls b.0 b.1) (apart-below n ls b.1)

atoms-below : (n : ℕ) (ls : List Lit) → AllBelow n ls → SaidBelow n (any_statement (map atom ls))
atoms-below n [] b = tt
atoms-below n (l ∷ ls) b = (b.0, atoms-below n ls b.1)

pub one_of-below : (n : ℕ) (ls : List Lit) → AllBelow n ls → SaidBelow n (one_of ls)
one_of-below n ls b = all_of-below n (any_statement (map atom ls) ∷ apart ls) (atoms-below n ls b, apart-below n ls b)

-- a table of values, each of which means its formula
pub value-said : (s t : Gated) (asked v : ℕ → Bool) → Fits v s.gates → MeetsSince asked v s.list t.list → (ds : List Defined)
    (fs : List Statement) → MeanEach s t ds fs → (k : ℕ) → eval v (statement_at ds k) ≡ eval v (part_at fs k)
value-said s t asked v i m [] [] h k = refl
value-said s t asked v i m [] (f ∷ fs) h k = elim h [ ]
value-said s t asked v i m (d ∷ ds) [] h k = elim h [ ]
value-said s t asked v i m (d ∷ ds) (f ∷ fs) h zero = eval-said_of v d ∙ h.0.value asked v i m
value-said s t asked v i m (d ∷ ds) (f ∷ fs) h (suc k) = value-said s t asked v i m ds fs h.1 k

pub value-below : (s t : Gated) (ds : List Defined) (fs : List Statement) → MeanEach s t ds fs → (k : ℕ)
    → SaidBelow t.list.vars (statement_at ds k)
value-below s t [] fs h k = tt
value-below s t (d ∷ ds) [] h k = elim h [ ]
value-below s t (d ∷ ds) (f ∷ fs) h zero = said_of-below t.list.vars d h.0.below
value-below s t (d ∷ ds) (f ∷ fs) h (suc k) = value-below s t ds fs h.1 k

pub part-below : (n : ℕ) (fs : List Statement) → SaidBelow n (any_statement fs) → (k : ℕ) → SaidBelow n (part_at fs k)
part-below n [] b k = tt
part-below n (f ∷ fs) b zero = b.0
part-below n (f ∷ fs) b (suc k) = part-below n fs b.1 k
