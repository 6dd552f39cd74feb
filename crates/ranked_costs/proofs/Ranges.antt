-- What the totals of costs ask for: variables below a number.
use Prim.Native.Nat.{suc, zero}
use Rattle.std.proofs.Common.{◌≡◌, refl, sym, subst, Bool, true, false, cond, ℕ, ◌≤◌, List, [], ◌∷◌, ◌++◌, map, flat_map, length, get_or, take, drop, All, Some, arith}
use Rattle.std.specs.Prelude.{find}
use Rattle.std.specs.Str.{bytes_eq}
use Rattle.std.proofs.lemmas.List.Concat.{flat_map-cons}
use Rattle.clause_store.specs.declared.Lit.{Lit}
use Rattle.clause_store.specs.Lits.{AllBelow}
use Rattle.clause_store.proofs.Range.{AllBelow-le}
use Rattle.clause_formulas.specs.Statements.{any_statement, SaidBelow}
use Rattle.clause_formulas.specs.declared.defined.Defined.{Defined}
use Rattle.clause_formulas.specs.Drafts.{statement_of, statement_at}
use Rattle.graph_core.specs.Graphs.{Text}
use Rattle.problem.specs.Problems.{Problem, variants_at, depends_at, conflicts_at, requirements_at, required_at}
use Rattle.literal_table.specs.Choices.{Choices, choice_lits}
use Rattle.literal_table.specs.Tables.{Table, block_name}
use Rattle.graph_encoding.specs.Formulas.{MetBelow}
use Rattle.literal_table.specs.Ranges as numbers
use Rattle.cost_terms.specs.Ranges.{IsTableBelow, AreHeldBelow}
use Rattle.term_builder.specs.Held.{defined_in, held_in}
use Rattle.ranked_costs.specs.Given.{passed, held_from, held_for}

-- ---- tables

left-below : (n : ℕ) (ks ls : List Lit) → AllBelow n (ks ++ ls) → AllBelow n ks
left-below n [] ls b = tt
left-below n (k ∷ ks) ls b = (b.0, left-below n ks ls b.1)

right-below : (n : ℕ) (ks ls : List Lit) → AllBelow n (ks ++ ls) → AllBelow n ls
right-below n [] ls b = b
right-below n (k ∷ ks) ls b = right-below n ks ls b.1

values-below : (n : ℕ) (ws : List (Text × Choices Text)) → AllBelow n (flat_map (λ w. choice_lits w.1) ws)
    → All (λ (w : Text × Choices Text). AllBelow n (choice_lits w.1)) ws
values-below n [] b k d lt = absurd (omega (arith, lt))
values-below n (w ∷ ws) b zero d lt = left-below n (choice_lits w.1) (flat_map (λ w. choice_lits w.1) ws)
    (subst (AllBelow n) (flat_map-cons (λ w. choice_lits w.1) w ws) b)
values-below n (w ∷ ws) b (suc k) d lt =
    values-below n ws (right-below n (choice_lits w.1) (flat_map (λ w. choice_lits w.1) ws)
    (subst (AllBelow n) (flat_map-cons (λ w. choice_lits w.1) w ws) b)) k d (omega (arith, lt))

-- a table below a number is below a greater one
pub table-below : (m n : ℕ) (t : Table) → m ≤ n → numbers.IsTableBelow m t → IsTableBelow n t
table-below m n t h below = record {
  blocks = λ k d lt. let b = below.blocks k d lt in record {
    present = omega (arith, h, b.present);
    origins = AllBelow-le m n _ h b.origins;
    versions = AllBelow-le m n _ h b.versions;
    values = values-below n _ (AllBelow-le m n _ h b.values);
    compilers = AllBelow-le m n _ h b.compilers;
    os = AllBelow-le m n _ h b.os;
    targets = AllBelow-le m n _ h b.targets;
  };
  edges = λ k d lt. let e = get_or t.edges k d in AllBelow-le m n (e.build ∷ e.link ∷ e.run ∷ []) h (below.edges k d lt);
  providers = λ k d lt. AllBelow-le m n _ h (below.providers k d lt);
}

-- ---- values of conditions

abbrev ValuesBelow : ℕ → List Defined → Type 0
ValuesBelow n ds = SaidBelow n (any_statement (map statement_of ds))

all-below : (n : ℕ) (ds : List Defined) → MetBelow n (statement_at ds) → ValuesBelow n ds
all-below n [] h = tt
all-below n (d ∷ ds) h = (h zero, all-below n ds (λ k. h (suc k)))

take-below : (n k : ℕ) (ds : List Defined) → ValuesBelow n ds → ValuesBelow n (take k ds)
take-below n zero ds b = tt
take-below n (suc k) [] b = tt
take-below n (suc k) (d ∷ ds) b = (b.0, take-below n k ds b.1)

drop-below : (n k : ℕ) (ds : List Defined) → ValuesBelow n ds → ValuesBelow n (drop k ds)
drop-below n zero ds b = b
drop-below n (suc k) [] b = tt
drop-below n (suc k) (d ∷ ds) b = drop-below n k ds b.1

passed-below : (n : ℕ) (problem : Problem) (name : Text) (ds : List Defined) → ValuesBelow n ds → ValuesBelow n (passed problem name ds)
passed-below n problem name ds b =
    drop-below n (length (required_at problem name)) _ (drop-below n (length (requirements_at problem name)) _
    (drop-below n (length (conflicts_at problem name)) _
    (drop-below n (length (depends_at problem name)) _ (drop-below n (length (variants_at problem name)) ds b))))

from-below : (n : ℕ) (problem : Problem) (names : List Text) (values : List Defined) → ValuesBelow n values
    → AreHeldBelow n (held_in (held_from problem names values))
from-below n problem [] values b name = tt
from-below n problem (x ∷ names) values b name =
    from-below-cases (bytes_eq name x) refl (from-below n problem names (passed problem x values) (passed-below n problem x values b) name)
  where
    from-below-cases : (same : Bool) → bytes_eq name x ≡ same
        → SaidBelow n (any_statement (held_in (held_from problem names (passed problem x values)) name))
        → SaidBelow n (any_statement (held_in (held_from problem (x ∷ names) values) name))
    from-below-cases true is later =
        let there : Bool → Type 0 =
        λ same. SaidBelow n (any_statement (map statement_of (defined_in (cond same (Some (x, take (length (variants_at problem x)) values))
        (find (λ h. bytes_eq name h.0) (held_from problem names (passed problem x values))))))) in
        subst there (sym is) (take-below n (length (variants_at problem x)) values b)
    from-below-cases false is later =
        let there : Bool → Type 0 =
        λ same. SaidBelow n (any_statement (map statement_of (defined_in (cond same (Some (x, take (length (variants_at problem x)) values))
        (find (λ h. bytes_eq name h.0) (held_from problem names (passed problem x values))))))) in
        subst there (sym is) later

-- so are the formulas of conditions
pub held-below : (n : ℕ) (problem : Problem) (t : Table) (values : List Defined) → MetBelow n (statement_at values)
    → AreHeldBelow n (held_in (held_for problem t values))
held-below n problem t values b = from-below n problem (map block_name t.blocks) values (all-below n values b)
