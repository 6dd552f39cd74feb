-- How a list keeps its clauses: literals as numbers, clause after clause; where each ends; and which are there for a demand.
use Prim.Native.Nat.{zero, suc}
use Rattle.std.specs.Prelude.{◌≡◌, ℕ, ◌+◌, ◌*◌, ◌/◌, ◌%◌, ◌<◌, ◌≤◌, ◌==◌, List, [], ◌∷◌, ◌++◌, length, map, slice_index_or, slice_range, if◌then◌else◌}
use Rattle.clause_store.specs.declared.Lit.{Lit}
use Rattle.clause_store.specs.declared.Label.{Label}
use Rattle.clause_store.specs.declared.Label.TheVariants.{Structure, Demand}
use Rattle.clause_store.specs.declared.demands.Demanded.{Demanded}
use Rattle.clause_store.specs.declared.list.Entry.{Entry}
use Rattle.clause_store.specs.Lits.{var_of, IsClause}
use Rattle.clause_store.specs.Clauses.{AllInRange}

-- twice the variable, and one more where the literal is true with it
abbrev pub code_of : Lit → ℕ
code_of l = var_of l * 2 + (if l.positive then 1 else 0)

abbrev pub lit_of_code : ℕ → Lit
lit_of_code c = record { var = record { 0 = c / 2 }; positive = c % 2 == 1 }

abbrev pub codes_of : List Lit → List ℕ
codes_of ls = map code_of ls

abbrev pub lits_of_codes : List ℕ → List Lit
lits_of_codes cs = map lit_of_code cs

-- the demands that are noted, and one more if the label names one
abbrev pub with_label : List Demanded → ℕ → Label → List Demanded
with_label ds place Structure = ds
with_label ds place (Demand d) = ds ++ record { place = place; demand = d } ∷ []

-- the label of the clause at a place
abbrev pub label_at : List Demanded → ℕ → Label
label_at [] place = Structure
label_at (d ∷ ds) place = if d.place == place then Demand d.demand else label_at ds place

-- the clauses from a place on, of which the first begins where `from` says
abbrev pub entries_from : List Demanded → List ℕ → ℕ → ℕ → List ℕ → List Entry
entries_from ds codes place from [] = []
entries_from ds codes place from (to ∷ ends) =
    record { clause = lits_of_codes (slice_range codes from to); label = label_at ds place } ∷ entries_from ds codes (suc place) to ends

abbrev pub entries_of : List Demanded → List ℕ → List ℕ → List Entry
entries_of ds codes ends = entries_from ds codes 0 0 ends

-- where the part at a place begins
abbrev pub start_of : ℕ → List ℕ → ℕ → ℕ
start_of from ends zero = from
start_of from ends (suc place) = slice_index_or ends place 0

-- the part at a place
abbrev pub part_of : {T : Type 0} → List T → List ℕ → ℕ → List T
part_of items ends place = slice_range items (start_of 0 ends place) (slice_index_or ends place 0)

-- the ends never fall, and the last is the end of all
abbrev pub IsCut : ℕ → List ℕ → ℕ → Type 0
IsCut from [] all = from ≡ all
IsCut from (to ∷ ends) all = (from ≤ to) × IsCut to ends all

abbrev pub AllBehind : ℕ → List Demanded → Type 0
AllBehind n [] = Unit {0}
AllBehind n (d ∷ ds) = (n < d.place) × AllBehind n ds

abbrev pub AllBefore : ℕ → List Demanded → Type 0
AllBefore n [] = Unit {0}
AllBefore n (d ∷ ds) = (d.place < n) × AllBefore n ds

-- each place once, in rising order
abbrev pub AreRising : List Demanded → Type 0
AreRising [] = Unit {0}
AreRising (d ∷ ds) = AllBehind d.place ds × AreRising ds

abbrev pub AllInOrder : List Entry → Type 0
AllInOrder [] = Unit {0}
AllInOrder (e ∷ es) = IsClause e.clause × AllInOrder es

-- the parts fit one another, and hold clauses over the variables
pub record IsKept (vars : ℕ) (ds : List Demanded) (codes ends : List ℕ) : Type 0 where
  pub cut : IsCut 0 ends (length codes)
  pub rising : AreRising ds
  pub before : AllBefore (length ends) ds
  pub in_range : AllInRange vars (entries_of ds codes ends)
  pub in_order : AllInOrder (entries_of ds codes ends)
