-- The code of a formula, step by step.
use Rattle.std.proofs.Common.{◌≡◌, ℕ, zero, suc, ◌<◌, ◌≤◌, List, [], ◌∷◌, length, get_or, sym, ap, subst, ◌∙◌, arith}
use Rattle.clause_store.specs.Lits.{AllBelow}
use Rattle.clause_formulas.specs.Statements.{Statement, any_statement, weight, SaidBelow}
use Rattle.clause_formulas.specs.Drafts.{ClauseDraft, empty}
use Rattle.clause_formulas.specs.Gated.{Gated, GatesBelow}
use Rattle.clause_formulas.specs.Built.{Shared}
use Rattle.clause_formulas.specs.Built.{spread_in, ask_in}
use Rattle.clause_formulas.proofs.DraftLaws.{SaidBelow-le}
use Rattle.clause_formulas.proofs.SpreadLaws.{Spreads, spread_is}
use Rattle.clause_formulas.proofs.AskLaws.{Asks, ask_is}

-- the code's draft means what the definition's does
pub spread_at : (s t : Gated) (d e : ClauseDraft) (f : Statement) → AllBelow s.list.vars d.lits → GatesBelow s.list.vars s.gates
    → SaidBelow s.list.vars f → spread_in s d f ≡ record { state = t; answer = e } → Spreads s d t e f
spread_at s t d e f h i b q = let P : Shared ClauseDraft → Type 0 = λ m. Spreads s d m.state m.answer f in subst P q (spread_is f s d h i b)

-- from a new draft
pub spread-below : (s t : Gated) (d e : ClauseDraft) (f : Statement) → d ≡ empty → GatesBelow s.list.vars s.gates → SaidBelow s.list.vars f
    → spread_in s d f ≡ record { state = t; answer = e } → AllBelow t.list.vars e.lits
spread-below s t d e f n i b q = (spread_at s t empty e f tt i b (ap (λ k. spread_in s k f) (sym n) ∙ q)).below

-- so does the one that is asked for
pub ask_at : (s t : Gated) (d e : ClauseDraft) (f : Statement) → AllBelow s.list.vars d.lits → GatesBelow s.list.vars s.gates
    → SaidBelow s.list.vars f → ask_in s d f ≡ record { state = t; answer = e } → Asks s d t e f
ask_at s t d e f h i b q = let P : Shared ClauseDraft → Type 0 = λ m. Asks s d m.state m.answer f in subst P q (ask_is f s d h i b)

pub ask-below : (s t : Gated) (d e : ClauseDraft) (f : Statement) → d ≡ empty → GatesBelow s.list.vars s.gates → SaidBelow s.list.vars f
    → ask_in s d f ≡ record { state = t; answer = e } → AllBelow t.list.vars e.lits
ask-below s t d e f n i b q = (ask_at s t empty e f tt i b (ap (λ k. ask_in s k f) (sym n) ∙ q)).below

-- a part of a list
part-below : (m n : ℕ) (fs : List Statement) (i : ℕ) (d : Statement) → m ≤ n → i < length fs → SaidBelow m (any_statement fs)
    → SaidBelow n (get_or fs i d)
part-below m n [] i d h k b = absurd (omega arith)
part-below m n (f ∷ fs) zero d h k b = SaidBelow-le m n f h b.0
part-below m n (f ∷ fs) (suc i) d h k b = part-below m n fs i d h (omega arith) b.1

-- a part is over the variables of the whole
pub SaidBelow-at : (m n : ℕ) (fs : List Statement) (i : ℕ) (f : Statement) → m ≤ n → i < length fs → f ≡ get_or fs i f
    → SaidBelow m (any_statement fs) → SaidBelow n f
SaidBelow-at m n fs i f h k e b = subst (SaidBelow n) (sym e) (part-below m n fs i f h k b)

part-weight : (fs : List Statement) (i : ℕ) (d : Statement) → i < length fs → weight (get_or fs i d) < weight (any_statement fs)
part-weight [] i d h = absurd (omega arith)
part-weight (f ∷ fs) zero d h = omega arith
part-weight (f ∷ fs) (suc i) d h = let r = part-weight fs i d (omega arith) in omega arith

-- a part is smaller than the whole
pub weight-at : (fs : List Statement) (i : ℕ) (f : Statement) → i < length fs → f ≡ get_or fs i f → weight f < weight (any_statement fs)
weight-at fs i f h e = omega (arith, part-weight fs i f h, ap weight e)
