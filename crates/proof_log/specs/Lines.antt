-- Lines of a log: what each adds to the known clauses and the settled bits, and facts of lines.
use Rattle.std.specs.Prelude.{◌≡◌, ℕ, ◌+◌, Bool, true, false, List, [], ◌∷◌, ◌++◌, Option, Some, None, slice_get}
use Rattle.std.specs.Option.{option_map}
use Rattle.clause_store.specs.declared.Lit.{Lit}
use Rattle.clause_store.specs.Lits.{negation}
use Rattle.proof_log.specs.declared.line.Line.{Line}
use Rattle.proof_log.specs.declared.line.Line.TheVariants.{Learnt, Zero, One, Unsat, Spent, End}

-- the clause that a line makes known, over the literals of the bits
abbrev pub added : List Lit → Line → Option (List Lit)
added bits (Learnt id c chain) = Some c
added bits (Zero id b) = option_map (λ l. negation l ∷ []) (slice_get bits b)
added bits (One id b chain) = option_map (λ l. l ∷ []) (slice_get bits b)
added bits _ = None

-- a list and what is added to it, if anything is
abbrev pub with_added : {A : Type 0} → List A → Option A → List A
with_added xs None = xs
with_added xs (Some x) = xs ++ x ∷ []

-- the clause that a line learns
abbrev pub learnt : Line → Option (List Lit)
learnt (Learnt id c chain) = Some c
learnt _ = None

-- how many bits a line settles
abbrev pub settles : Line → ℕ
settles (Zero id b) = 1
settles (One id b chain) = 1
settles _ = 0

abbrev pub SettlesNone : Line → Type 0
SettlesNone l = settles l ≡ 0

-- nothing follows such a line
abbrev pub ends : Line → Bool
ends (Unsat chain) = true
ends Spent = true
ends End = true
ends _ = false

-- the known clauses and the number of settled bits after some lines
abbrev pub known_after : List Lit → List (List Lit) → List Line → List (List Lit)
known_after bits known [] = known
known_after bits known (l ∷ ls) = known_after bits (with_added known (added bits l)) ls

abbrev pub settled_after : ℕ → List Line → ℕ
settled_after n [] = n
settled_after n (l ∷ ls) = settled_after (n + settles l) ls

-- how many clauses were learnt
abbrev pub learnt_count : Line → ℕ
learnt_count (Learnt id c chain) = 1
learnt_count _ = 0

abbrev pub learnt_in : List Line → ℕ
learnt_in [] = 0
learnt_in (l ∷ ls) = learnt_count l + learnt_in ls

-- a fact of each line, of the last one, and of what is learnt
abbrev pub AllLines : (Line → Type 0) → List Line → Type 0
AllLines P [] = Unit {0}
AllLines P (l ∷ ls) = P l × AllLines P ls

abbrev pub LastIs : (Line → Type 0) → List Line → Type 0
LastIs P [] = ⊥
LastIs P (l ∷ []) = P l
LastIs P (l ∷ k ∷ ls) = LastIs P (k ∷ ls)

abbrev pub AllLearnt : List Line → Type 0
AllLearnt ls = AllLines (λ l. learnt_count l ≡ 1) ls

abbrev pub OfLearnt : (List Lit → Type 0) → Line → Type 0
OfLearnt P (Learnt id c chain) = P c
OfLearnt P _ = Unit {0}

-- a fact of each line, the clauses known before it and the number of bits settled before it
abbrev pub EachLine : (List (List Lit) → ℕ → Line → Type 0) → List Lit → List (List Lit) → ℕ → List Line → Type 0
EachLine P bits known n [] = Unit {0}
EachLine P bits known n (l ∷ ls) = P known n l × EachLine P bits (with_added known (added bits l)) (n + settles l) ls

-- no line but the last ends the log; none does
abbrev pub EndsLast : List Line → Type 0
EndsLast [] = Unit {0}
EndsLast (l ∷ ls) = (ends l ≡ true → ls ≡ []) × EndsLast ls

abbrev pub IsOpen : List Line → Type 0
IsOpen ls = AllLines (λ l. ends l ≡ false) ls
