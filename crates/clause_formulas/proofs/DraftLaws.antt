-- Formulas, drafts and values under assignments.
use Rattle.std.proofs.Common.{◌≡◌, ℕ, ◌<◌, ◌≤◌, Bool, true, false, not, ◌||◌, List, [], ◌∷◌, ◌++◌, refl, sym, ap, ◌∙◌, arith}
use Rattle.clause_store.specs.declared.Lit.{Lit}
use Rattle.clause_store.specs.Lits.{var_of, lit_true, clause_true, AllBelow}
use Rattle.clause_formulas.specs.declared.defined.Defined.{Defined}
use Rattle.clause_formulas.specs.declared.defined.Defined.TheVariants.{Known, By}
use Rattle.clause_formulas.specs.Statements.{Statement, atom, never, or, no, eval, SaidBelow}
use Rattle.clause_formulas.specs.Drafts.{ClauseDraft, draft_true, draft_with, defined_true, DefinedBelow, reverse_of}
use Rattle.clause_circuits.specs.Growth.{Agree}
use Rattle.clause_store.proofs.Meaning.{lit_true-negation}
use Rattle.clause_circuits.proofs.Composed.{lit_true-agree}

-- a formula rests on the values of its variables alone
pub eval-agree : (n : ℕ) (v w : ℕ → Bool) → Agree n v w → (f : Statement) → SaidBelow n f → eval v f ≡ eval w f
eval-agree n v w a (atom l) b = lit_true-agree n v w a l b
eval-agree n v w a never b = refl
eval-agree n v w a (or f g) b = rw (eval-agree n v w a f b.0, eval-agree n v w a g b.1) refl
eval-agree n v w a (no f) b = ap not (eval-agree n v w a f b)

pub SaidBelow-le : (m n : ℕ) (f : Statement) → m ≤ n → SaidBelow m f → SaidBelow n f
SaidBelow-le m n (atom l) h b = omega arith
SaidBelow-le m n never h b = tt
SaidBelow-le m n (or f g) h b = (SaidBelow-le m n f h b.0, SaidBelow-le m n g h b.1)
SaidBelow-le m n (no f) h b = SaidBelow-le m n f h b

pub or-false : (a : Bool) → (a || false) ≡ a
or-false true = refl
or-false false = refl

pub or-assoc : (a b c : Bool) → ((a || b) || c) ≡ (a || (b || c))
or-assoc true b c = refl
or-assoc false b c = refl

or-inner : (a b c : Bool) → ((a || c) || b) ≡ ((a || b) || c)
or-inner true b c = refl
or-inner false true true = refl
or-inner false true false = refl
or-inner false false true = refl
or-inner false false false = refl

clause_true-last : (v : ℕ → Bool) (ls : List Lit) (l : Lit) → clause_true v (ls ++ l ∷ []) ≡ (clause_true v ls || lit_true v l)
clause_true-last v [] l = or-false (lit_true v l)
clause_true-last v (k ∷ ls) l = rw (clause_true-last v ls l) (sym (or-assoc (lit_true v k) (clause_true v ls) (lit_true v l)))

pub AllBelow-last : (n : ℕ) (ls : List Lit) (l : Lit) → AllBelow n ls → var_of l < n → AllBelow n (ls ++ l ∷ [])
AllBelow-last n [] l b h = (h, tt)
AllBelow-last n (k ∷ ls) l b h = (b.0, AllBelow-last n ls l b.1 h)

-- one more part of a draft
pub with_defined-true : (v : ℕ → Bool) (d : ClauseDraft) (x : Defined)
    → draft_true v (draft_with d x) ≡ (draft_true v d || defined_true v x)
with_defined-true v d (Known b) = or-inner d.always (clause_true v d.lits) b
with_defined-true v d (By l) = ap (λ b. d.always || b) (clause_true-last v d.lits l)
    ∙ sym (or-assoc d.always (clause_true v d.lits) (lit_true v l))

pub with_defined-below : (n : ℕ) (d : ClauseDraft) (x : Defined) → AllBelow n d.lits → DefinedBelow n x → AllBelow n (draft_with d x).lits
with_defined-below n d (Known b) h t = h
with_defined-below n d (By l) h t = AllBelow-last n d.lits l h t

pub reverse-true : (v : ℕ → Bool) (x : Defined) → defined_true v (reverse_of x) ≡ not (defined_true v x)
reverse-true v (Known b) = refl
reverse-true v (By l) = lit_true-negation v l

pub reverse-below : (n : ℕ) (x : Defined) → DefinedBelow n x → DefinedBelow n (reverse_of x)
reverse-below n (Known b) t = tt
reverse-below n (By l) t = t
