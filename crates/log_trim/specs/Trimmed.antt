-- A log without the learnt lines that no later line uses, with ids anew.
use Rattle.std.specs.Prelude.{ℕ, ◌+◌, Bool, true, false, ◌&&◌, ◌||◌, ◌==◌, List, [], ◌∷◌, Option, Some, None, map, if◌then◌else◌}
use Rattle.clause_store.specs.declared.Lit.{Lit}
use Rattle.proof_log.specs.declared.line.Line.{Line}
use Rattle.proof_log.specs.declared.line.Line.TheVariants.{Header, Learnt, Zero, One, Unsat, Spent}
use Rattle.proof_log.specs.Logs.{IsSound}
pub use Rattle.proof_log.specs.Marks.{stands}

-- the ids that a line names
abbrev pub chain_of : Line → List ℕ
chain_of (Learnt id c chain) = chain
chain_of (One id b chain) = chain
chain_of (Unsat chain) = chain
chain_of _ = []

-- a learnt line stays where its clause is used, and each other line
abbrev pub stays : (ℕ → Bool) → Line → Bool
stays used (Learnt id c chain) = used id
stays used _ = true

-- the lines that stay use a clause
abbrev pub used_by : List Line → ℕ → Bool
used_by [] x = false
used_by (l ∷ ls) x = used_by ls x || (stays (used_by ls) l && stands (chain_of l) x)

-- which lines stay
abbrev pub staying : List Line → List Bool
staying [] = []
staying (l ∷ ls) = stays (used_by ls) l ∷ staying ls

-- the id of the clause that a line makes known
abbrev pub id_of : Line → Option ℕ
id_of (Learnt id c chain) = Some id
id_of (Zero id b) = Some id
id_of (One id b chain) = Some id
id_of _ = None

-- a line with another id and other names
abbrev pub renamed : (ℕ → ℕ) → ℕ → Line → Line
renamed names id (Learnt _ c chain) = Learnt id c (map names chain)
renamed names id (Zero _ b) = Zero id b
renamed names id (One _ b chain) = One id b (map names chain)
renamed names id (Unsat chain) = Unsat (map names chain)
renamed names id l = l

-- names with one more, and how many ids there are then
abbrev pub with_name : (ℕ → ℕ) → Option ℕ → ℕ → ℕ → ℕ
with_name names None new x = names x
with_name names (Some id) new x = if id == x then new else names x

abbrev pub next_id : Option ℕ → ℕ → ℕ
next_id None n = n
next_id (Some id) n = n + 1

-- the lines that stay, where so many ids have been given
abbrev pub anew : (ℕ → ℕ) → ℕ → List Line → List Bool → List Line
anew names n [] bs = []
anew names n (l ∷ ls) [] = []
anew names n (l ∷ ls) (b ∷ bs) =
    if b then renamed names (n + 1) l ∷ anew (with_name names (id_of l) (n + 1)) (next_id (id_of l) n) ls bs else anew names n ls bs

-- the number of input clauses that a first line says
abbrev pub inputs_of : Line → ℕ
inputs_of (Header vars clauses bits) = clauses
inputs_of _ = 0

abbrev pub own_name : ℕ → ℕ
own_name x = x

abbrev pub shorter : List Line → List Line
shorter [] = []
shorter (l ∷ ls) = l ∷ anew own_name (inputs_of l) ls (staying ls)

-- each line of a log whose budget is spent counts
abbrev pub is_spent : Line → Bool
is_spent Spent = true
is_spent _ = false

abbrev pub has_spent : List Line → Bool
has_spent [] = false
has_spent (l ∷ ls) = is_spent l || has_spent ls

abbrev pub trimmed : List Line → List Line
trimmed ls = if has_spent ls then ls else shorter ls

-- the log is sound over some clauses and bits
abbrev pub IsSoundLog : List Line → Type 0
IsSoundLog lines = (vars : ℕ) × (input : List (List Lit)) × (bits : List Lit) × IsSound vars input bits lines
