-- Gates as data, plans of them, and their clauses.
use Rattle.std.specs.Prelude.{◌≡◌, ℕ, ◌+◌, Bool, true, not, ◌&&◌, List, [], ◌∷◌, ◌++◌, Option, Some, None, length, map, take, ◌⊎◌}
use Rattle.clause_store.specs.declared.Lit.{Lit}
use Rattle.clause_store.specs.declared.Label.{Label}
use Rattle.clause_store.specs.declared.Label.TheVariants.{Structure}
use Rattle.clause_store.specs.Lits.{negation, clause_true, clause_of, AllBelow}
use Rattle.clause_store.specs.declared.list.Entry.{Entry}
use Rattle.clause_store.specs.Clauses.{Clauses, with_structure}

-- a gate is true where a clause of `on` fails, and false where one of `off` does
pub record Sides : Type 0 where
  pub on : List (List Lit)
  pub off : List (List Lit)

-- whether each clause of a list holds
abbrev pub rules_true : (ℕ → Bool) → List (List Lit) → Bool
rules_true v [] = true
rules_true v (r ∷ rs) = clause_true v r && rules_true v rs

-- the value of a gate, and what it owes: exactly one side holds
abbrev pub value_of : (ℕ → Bool) → Sides → Bool
value_of v g = rules_true v g.off

abbrev pub Agrees : (ℕ → Bool) → Sides → Type 0
Agrees v g = rules_true v g.on ≡ not (rules_true v g.off)

-- gates for the variables from a first one on, the last gate first
pub record Planned : Type 0 where
  pub first : ℕ
  pub gates : List Sides

-- a longer plan, and what was answered
pub record Made (A : Type 0) : Type 0 where
  pub plan : Planned
  pub answer : A

-- the true literal of a variable
abbrev pub lit_of : ℕ → Lit
lit_of x = record { var = record { 0 = x }; positive = true }

-- the variable of the next gate
abbrev pub next : Planned → ℕ
next p = p.first + length p.gates

abbrev pub with_gate : Planned → Sides → Made Lit
with_gate p g = record { plan = record { first = p.first; gates = g ∷ p.gates }; answer = lit_of (next p) }

-- an assignment gives each gate's variable the gate's value
abbrev pub Follows : (ℕ → Bool) → ℕ → List Sides → Type 0
Follows v n [] = Unit {0}
Follows v n (g ∷ gs) = (v (n + length gs) ≡ value_of v g) × Follows v n gs

abbrev pub AllAgree : (ℕ → Bool) → List Sides → Type 0
AllAgree v [] = Unit {0}
AllAgree v (g ∷ gs) = Agrees v g × AllAgree v gs

abbrev pub AllClausesBelow : ℕ → List (List Lit) → Type 0
AllClausesBelow n [] = Unit {0}
AllClausesBelow n (c ∷ cs) = AllBelow n c × AllClausesBelow n cs

-- each gate speaks of earlier variables alone
abbrev pub InOrder : ℕ → List Sides → Type 0
InOrder n [] = Unit {0}
InOrder n (g ∷ gs) = AllClausesBelow (n + length gs) g.on × AllClausesBelow (n + length gs) g.off × InOrder n gs

-- a plan that defines its variables: on each assignment that follows it, the sides of its gates agree
pub record IsSound (p : Planned) : Type 0 where
  pub in_order : InOrder p.first p.gates
  pub agrees : (v : ℕ → Bool) → Follows v p.first p.gates → AllAgree v p.gates

abbrev pub option_list : {A : Type 0} → Option A → List A
option_list None = []
option_list (Some x) = x ∷ []

-- the clause of a list of literals, if it doesn't always hold
unfoldable pub kept_clauses : List Lit → List (List Lit)
kept_clauses ls = option_list (clause_of ls)

-- the clauses of some rules
abbrev pub clauses_from : List (List Lit) → List (List Lit)
clauses_from [] = []
clauses_from (r ∷ rs) = kept_clauses r ++ clauses_from rs

abbrev pub labelled : Label → List Lit → Entry
labelled label c = record { clause = c; label = label }

-- one more variable, with clauses of the structure
abbrev pub with_defined : Clauses → List (List Lit) → Clauses
with_defined s cs = record { entries = s.entries ++ map (labelled Structure) cs; vars = s.vars + 1 }

-- a list with the clauses of some rules, one after the other
abbrev pub with_rules : Clauses → List (List Lit) → Clauses
with_rules s [] = s
with_rules s (r ∷ rs) = with_rules (with_structure s (clause_of r)) rs

-- a list with the clauses of the first rules
abbrev pub Partly : Clauses → Clauses → List (List Lit) → Type 0
Partly old new rs = (front : List (List Lit)) × (back : List (List Lit)) × (rs ≡ front ++ back) × (new ≡ with_rules old front)

-- the list as it was, or with the variable and some of the clauses
abbrev pub Partial : Clauses → Clauses → List (List Lit) → Type 0
Partial old new cs = (new ≡ old) ⊎ ((k : ℕ) × (new ≡ with_defined old (take k cs)))

-- each list with one literal more
abbrev pub headed : Lit → List (List Lit) → List (List Lit)
headed x [] = []
headed x (c ∷ cs) = (x ∷ c) ∷ headed x cs

-- the rules that give a literal the meaning of a gate
abbrev pub gate_rules : Lit → Sides → List (List Lit)
gate_rules x g = headed x g.on ++ headed (negation x) g.off

-- a list of clauses with those of a plan that begins at its next variable
abbrev pub with_gates : Clauses → List Sides → Clauses
with_gates s [] = s
with_gates s (g ∷ gs) =
    with_defined (with_gates s gs) (clauses_from (gate_rules (lit_of (with_gates s gs).vars) g))
