-- What the terms of definitions, edges and choices add up to.
use Rattle.std.proofs.Common.{◌≡◌, refl, ◌∙◌, ℕ, ◌+◌, ◌≤◌, Bool, true, false, not, cond, List, [], ◌∷◌, map, length, Option, Some, None, arith}
use Rattle.std.specs.List.{filter, flat_map, sum_by}
use Rattle.std.specs.Str.{bytes_eq}
use Rattle.std.proofs.lemmas.List.Sums.{sum_by-cons, length-filter, count_by-le-length}
use Rattle.clause_store.specs.declared.Lit.{Lit}
use Rattle.clause_formulas.specs.Statements.{Statement, atom, no, both_statements, all_statements}
use Rattle.graph_core.specs.Graphs.{Text}
use Rattle.recipe_data.specs.declared.recipe.VariantRow.{VariantRow}
use Rattle.condition_rules.specs.Words.{is_one_text}
use Rattle.literal_table.specs.Choices.{Choices, passing, any_choice}
use Rattle.literal_table.specs.Tables.{Table, block_of}
use Rattle.literal_table.specs.declared.block.Block.{Block}
use Rattle.literal_table.specs.declared.block.EdgeLits.{EdgeLits}
use Rattle.table_plan.specs.Numbers.{positive_lit, numbered}
use Rattle.cost_terms.specs.declared.weighted.Weighted.{Weighted}
use Rattle.cost_terms.specs.Weighed.{top_said}
use Rattle.cost_terms.specs.Differ.{differ_said, differ_terms, can_differ}
use Rattle.cost_terms.specs.Blocks.{none_among}
use Rattle.cost_terms.specs.Governing.{Row, with_formulas, formulas_of, governing_rows, weighed_once as once_term, other_terms, unused_terms}
use Rattle.literal_table.specs.Edges.{edge_there}
use Rattle.cost_terms.specs.Terms.{child_terms, edge_terms, edges_terms}
use Rattle.cost_terms.proofs.Lists.{sum-map, sum-flat}
use Rattle.ranked_costs.proofs.Sums.{sum-le-in, sum-ones}

-- ---- variants: what their definitions add

-- terms that weigh one each
ones-top : {X : Type 0} (said : X → Statement) (xs : List X) → top_said (map (λ x. once_term (said x)) xs) ≡ length xs
ones-top said xs = sum-map (λ (t : Weighted). t.weight) (λ x. once_term (said x)) xs ∙ sum-ones xs

-- values that are no defaults
pub other-top : (r : Row) (values : Choices Text) → top_said (other_terms r values) ≤ length values
other-top r values =
    let test = λ (c : Text × Lit). not (is_one_text r.0.default c.0) in
    omega (
      arith,
      ones-top (λ (c : Text × Lit). both_statements (atom c.1) r.1) (filter test values),
      length-filter test values,
      count_by-le-length test values,
    )

-- defaults that are not used
pub unused-top : (r : Row) (values : Choices Text) → top_said (unused_terms r values) ≤ length r.0.default
unused-top r values =
    omega (
      arith,
      ones-top (λ (text : Text). all_statements (any_choice (λ value. true) values ∷ r.1 ∷ no (any_choice (bytes_eq text) values) ∷ []))
          r.0.default,
    )

module _ (terms : Row → Choices Text → List Weighted) (f : VariantRow → ℕ) where
  governing-sum : (values : Choices Text) → ((r : Row) → top_said (terms r values) ≤ f r.0) → (rs : List Row)
      → sum_by (λ r. top_said (terms r values)) (governing_rows rs) ≤ sum_by (λ (r : Row). f r.0) rs
  governing-sum values le [] = omega arith
  governing-sum values le (r ∷ rs) =
      let governs : Row = (r.0, both_statements r.1 (none_among (formulas_of rs))) in
      let here = le governs in
      let rest = governing-sum values le rs in
      omega (
        arith,
        here,
        rest,
        sum_by-cons (λ (s : Row). top_said (terms s values)) governs (governing_rows rs),
        sum_by-cons
            (λ (s : Row). f s.0) r rs,
      )

  -- all definitions
  pub governing-top : (values : Choices Text) → ((r : Row) → top_said (terms r values) ≤ f r.0) → (rs : List Row)
      → top_said (flat_map (λ r. terms r values) (governing_rows rs)) ≤ sum_by (λ (r : Row). f r.0) rs
  governing-top values le rs =
      omega (arith, governing-sum values le rs, sum-flat (λ (t : Weighted). t.weight) (λ r. terms r values) (governing_rows rs))

-- definitions with formulas are no more than the rows
pub formulas-sum : (f : VariantRow → ℕ) (rows : List VariantRow) (fs : List Statement)
    → sum_by (λ (r : Row). f r.0) (with_formulas rows fs) ≤ sum_by f rows
formulas-sum f [] fs = omega arith
formulas-sum f (row ∷ rows) [] = omega arith
formulas-sum f (row ∷ rows) (said ∷ fs) =
    let pair : Row = (row, said) in
    omega (arith, formulas-sum f rows fs, sum_by-cons (λ (r : Row). f r.0) pair (with_formulas rows fs), sum_by-cons f row rows)

-- ---- edges

-- one edge adds one at most
pub differ-top : {T : Type 0} (filled : T → Bool) (same : T → T → Bool) (there : Statement) (xs ys : Choices T)
    → top_said (differ_terms filled same there xs ys) ≤ 1
differ-top filled same there xs ys = differ-top-cases (can_differ filled same xs ys)
  where
    differ-top-cases : (b : Bool) → top_said (cond b (record { weight = 1; formula = differ_said filled same there xs ys } ∷ []) []) ≤ 1
    differ-top-cases true = omega arith
    differ-top-cases false = omega arith

edge-top : (terms : Statement → Block → Block → List Weighted) → ((there : Statement) (a b : Block) → top_said (terms there a b) ≤ 1)
    → (table : Table) (b : Block) (e : EdgeLits) → top_said (edge_terms terms table b e) ≤ 1
edge-top terms le table b e = edge-top-cases (bytes_eq e.parent b.name) (block_of table e.child)
  where
    edge-top-cases : (c : Bool) (o : Option Block) → top_said (cond c (child_terms terms (edge_there e) b o) []) ≤ 1
    edge-top-cases true None = omega arith
    edge-top-cases true (Some child) = le (edge_there e) b child
    edge-top-cases false o = omega arith

-- so the edges
pub edges-top : (terms : Statement → Block → Block → List Weighted) → ((there : Statement) (a b : Block) → top_said (terms there a b) ≤ 1)
    → (table : Table) (b : Block) → top_said (edges_terms terms table b) ≤ length table.edges
edges-top terms le table b =
    let each = sum-le-in (λ e. top_said (edge_terms terms table b e)) (λ e. 1) table.edges (λ e there. edge-top terms le table b e) in
    omega (arith, each, sum-ones table.edges, sum-flat (λ (t : Weighted). t.weight) (edge_terms terms table b) table.edges)

-- ---- providers

-- numbered literals that pass a test
pub passing-numbered : (test : Text → Bool) (m : ℕ) (xs : List Text) → length (passing test (numbered m xs)) ≡ length (filter test xs)
passing-numbered test m [] = refl
passing-numbered test m (x ∷ xs) = passing-numbered-cases (passing-numbered test (m + 1) xs) (test x)
  where
    passing-numbered-cases : length (passing test (numbered (m + 1) xs)) ≡ length (filter test xs) → (b : Bool)
        → length (cond b ((x, positive_lit m) ∷ passing test (numbered (m + 1) xs)) (passing test (numbered (m + 1) xs)))
        ≡ length (cond b (x ∷ filter test xs) (filter test xs))
    passing-numbered-cases rest true = omega arith
    passing-numbered-cases rest false = rest
