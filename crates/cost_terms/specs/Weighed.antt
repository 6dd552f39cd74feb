-- Weighted formulas, the literals that stand for them, and their sums as bits.
use Rattle.std.specs.Prelude.{◌≡◌, ℕ, ◌*◌, ◌≤◌, Bool, true, false, List, [], ◌∷◌, ◌++◌, Option, Some, None, option_to_list, map, sum_by}
use Rattle.clause_store.specs.declared.Lit.{Lit}
use Rattle.clause_store.specs.Lits.{AllBelow}
use Rattle.clause_store.specs.Clauses.{Clauses}
use Rattle.clause_circuits.specs.Growth.{Defines, MeetsSince}
use Rattle.clause_circuits.specs.Cells.{bit}
use Rattle.clause_circuits.specs.Trees.{total, weight, TermsBelow}
use Rattle.clause_formulas.specs.declared.defined.Defined.{Defined}
use Rattle.clause_formulas.specs.declared.defined.Defined.TheVariants.{Known, By}
use Rattle.clause_formulas.specs.Statements.{eval, SaidBelow}
use Rattle.clause_formulas.specs.Gated.{Gated, gated, bare, Fits, Keeps}
use Rattle.clause_formulas.specs.Built.{Grown, Shared, define_in, literal_on}
use Rattle.criteria_totals.specs.Spellings.{compare_bits, compare_numbers, bits_for}
use Rattle.criteria_totals.specs.Totals.{values_at}
use Rattle.cost_terms.specs.declared.weighted.Weighted.{Weighted}

-- ---- what is summed

-- the weight of a formula, where it is true
abbrev pub weight_said : (ℕ → Bool) → Weighted → ℕ
weight_said v t = t.weight * bit (eval v t.formula)

-- the sum of the weights of true formulas, and of all
abbrev pub sum_said : (ℕ → Bool) → List Weighted → ℕ
sum_said v ts = sum_by (weight_said v) ts

abbrev pub sums_said : (ℕ → Bool) → List (List Weighted) → List ℕ
sums_said v lists = map (sum_said v) lists

abbrev pub top_said : List Weighted → ℕ
top_said ts = sum_by (λ t. t.weight) ts

abbrev pub tops_said : List (List Weighted) → List ℕ
tops_said lists = map top_said lists

-- each formula's variables are below a number
abbrev pub WeighedBelow : ℕ → List Weighted → Type 0
WeighedBelow n [] = Unit {0}
WeighedBelow n (t ∷ ts) = SaidBelow n t.formula × WeighedBelow n ts

abbrev pub AllWeighedBelow : ℕ → List (List Weighted) → Type 0
AllWeighedBelow n [] = Unit {0}
AllWeighedBelow n (ts ∷ lists) = WeighedBelow n ts × AllWeighedBelow n lists

-- ---- literals that stand for the formulas

abbrev pub with_weight : ℕ → Grown Lit → Grown (Option (ℕ × Lit))
with_weight weight m = record { list = m.list; answer = Some (weight, m.answer) }

-- the term of a value: none for one that is never true
abbrev pub term_on : Clauses → ℕ → Defined → Grown (Option (ℕ × Lit))
term_on s weight (Known false) = record { list = s; answer = None }
term_on s weight (Known true) = with_weight weight (literal_on s (Known true))
term_on s weight (By l) = with_weight weight (literal_on s (By l))

-- the term of one formula
unfoldable pub one_in : Gated → Weighted → Shared (Option (ℕ × Lit))
one_in s t =
    let m = define_in s t.formula in
    let n = term_on m.state.list t.weight m.answer in
    record { state = gated n.list m.state.gates; answer = n.answer }

abbrev pub terms_in : Gated → List Weighted → Shared (List (ℕ × Lit))
terms_in s [] = record { state = s; answer = [] }
terms_in s (t ∷ ts) =
    let m = one_in s t in
    let n = terms_in m.state ts in
    record { state = n.state; answer = option_to_list m.answer ++ n.answer }

abbrev pub lists_in : Gated → List (List Weighted) → Shared (List (List (ℕ × Lit)))
lists_in s [] = record { state = s; answer = [] }
lists_in s (ts ∷ lists) =
    let m = terms_in s ts in
    let n = lists_in m.state lists in
    record { state = n.state; answer = m.answer ∷ n.answer }

-- the terms of all lists, over gates of their own: no gate is made twice
abbrev pub lists_on : Clauses → List (List Weighted) → Grown (List (List (ℕ × Lit)))
lists_on s lists = let m = lists_in (bare s) lists in record { list = m.state.list; answer = m.answer }

-- the longer list defines terms that weigh what the formulas weigh, where an assignment gives the old gates their values
pub record DefinesTerms (old new : Gated) (terms : List (ℕ × Lit)) (ts : List Weighted) : Type 0 where
  pub defines : Defines old.list new.list
  pub keeps : Keeps old new
  pub below : TermsBelow new.list.vars terms
  pub small : total terms ≤ top_said ts
  pub weighs : (asked v : ℕ → Bool) → Fits v old.gates → MeetsSince asked v old.list new.list → weight v terms ≡ sum_said v ts

-- ---- their sums as bits

-- the longer list defines bits that spell the sums, and compare as they do
pub record AreTotals (old new : Clauses) (bits : List Lit) (tops : List ℕ) (lists : List (List Weighted)) : Type 0 where
  pub defines : Defines old new
  pub below : AllBelow new.vars bits
  pub found : (asked v : ℕ → Bool) → MeetsSince asked v old new → bits_for tops (sums_said v lists) ≡ Some (values_at v bits)
  pub order : (asked v w : ℕ → Bool) → MeetsSince asked v old new → MeetsSince asked w old new
      → compare_bits (values_at v bits) (values_at w bits) ≡ compare_numbers (sums_said v lists) (sums_said w lists)
  pub equal : (asked v w : ℕ → Bool) → MeetsSince asked v old new → MeetsSince asked w old new → values_at v bits ≡ values_at w bits
      → sums_said v lists ≡ sums_said w lists
