-- The rows that are built are those of the rules.
use Rattle.std.proofs.Common.{◌≡◌, refl, ap, ◌∙◌, List, [], ◌∷◌, ◌++◌, map}
use Rattle.std.proofs.lemmas.List.{append_assoc}
use Rattle.clause_formulas.specs.Statements.{Statement, all_statements, implication_of}
use Rattle.graph_core.specs.Graphs.{Text}
use Rattle.recipe_data.specs.OfSpecGrammar.Condition.{Condition}
use Rattle.problem.specs.Problems.{Problem}
use Rattle.literal_table.specs.Tables.{Table, table_names, children_of}
use Rattle.graph_formulas.specs.Facts.{has_origin}
use Rattle.graph_formulas.specs.Words.{names_for}
use Rattle.graph_formulas.specs.Terms.{known_rule, where_built}
use Rattle.problem.specs.Nodes.{builds}
use Rattle.graph_formulas.specs.Built.{version_rule, machine_rule}
use Rattle.graph_formulas.specs.Edges.{extra_edges_rule, used_rule, of_provider}
use Rattle.graph_formulas.specs.Together.{together_rule}
use Rattle.graph_formulas.specs.Variants.{variants_rule}
use Rattle.graph_formulas.specs.Laws.{term_formula, virtuals_of, virtuals_on, may_use, variants_of}
use Rattle.valid_models.specs.Joined.{rule_rows, row_said}
use Rattle.rule_formulas.specs.OfWordFormulas.Builders.{node_said, plain_said}
use Rattle.node_formulas.specs.Rows.{built_row}
use Rattle.node_formulas.proofs.RowLaws.{buildable-row, compiler-row, kept-row, provider-row}
use Rattle.rule_formulas.proofs.Plain.{extras-agree, provider-agree}
use Rattle.rule_formulas.proofs.PlainTogether.{together-agree}
use Rattle.rule_formulas.proofs.Governing.{variants-agree}
use Rattle.problem_formulas.specs.Rows.{variant_row, extra_row, used_row, together_row, together_said, rows_said}

-- three more formulas
pub three : (xs ys zs us : List Statement) (a b c f g h : Statement) → a ≡ f → b ≡ g → c ≡ h → ys ≡ xs ++ a ∷ [] → zs ≡ ys ++ b ∷ []
    → us ≡ zs ++ c ∷ []
    → us ≡ xs ++ f ∷ g ∷ h ∷ []
three xs ys zs us a b c f g h p q r first second third =
    third ∙ ap (λ l. l ++ c ∷ []) (second ∙ ap (λ l. l ++ b ∷ []) first)
    ∙ ap (λ l. l ++ c ∷ []) (append_assoc xs (a ∷ []) (b ∷ [])) ∙ append_assoc xs (a ∷ b ∷ []) (c ∷ [])
    ∙ ap (λ s. xs ++ s ∷ b ∷ c ∷ []) p ∙ ap (λ s. xs ++ f ∷ s ∷ c ∷ []) q ∙ ap (λ s. xs ++ f ∷ g ∷ s ∷ []) r

-- and one behind them
pub fourth : (xs us vs : List Statement) (f g h d k : Statement) → us ≡ xs ++ f ∷ g ∷ h ∷ [] → d ≡ k → vs ≡ us ++ d ∷ []
    → vs ≡ xs ++ f ∷ g ∷ h ∷ k ∷ []
fourth xs us vs f g h d k three_more p last =
    last ∙ ap (λ l. l ++ d ∷ []) three_more ∙ append_assoc xs (f ∷ g ∷ h ∷ []) (d ∷ []) ∙ ap (λ s. xs ++ f ∷ g ∷ h ∷ s ∷ []) p

map-agree : {T : Type 0} (f g : T → Statement) → ((x : T) → f x ≡ g x) → (xs : List T) → map f xs ≡ map g xs
map-agree f g same [] = refl
map-agree f g same (x ∷ xs) = rw (same x, map-agree f g same xs) refl

cons-same : (x y : Statement) (xs ys : List Statement) → x ≡ y → xs ≡ ys → x ∷ xs ≡ y ∷ ys
cons-same x y xs ys p q = rw (p, q) refl

no-more : ◌≡◌ {A = List Statement} [] []
no-more = refl

module _ (path : Text → Text → Statement) (condition : Text → Condition → Statement) (t : Table) (problem : Problem) where
  variants-same : all_statements
      (map (λ name. term_formula path condition t (where_built name (variants_rule problem (variants_of t name) name)))
      (table_names t)) ≡ variant_row problem t condition
  variants-same =
      ap all_statements (map-agree _ _ (λ name. ap (λ s. implication_of (node_said t name (has_origin builds)) s)
      (variants-agree path condition t problem (variants_of t name) name)) (table_names t))

  extra-same : all_statements
      (map (λ name. term_formula path condition t
      (where_built name (extra_edges_rule problem (names_for t) (virtuals_on t name) (children_of t name) name)))
      (table_names t)) ≡ extra_row problem t condition
  extra-same = ap all_statements
      (map-agree _ _ (λ name. ap (λ s. implication_of (node_said t name (has_origin builds)) s)
      (extras-agree path condition t problem (virtuals_on t name) (children_of t name) name)) (table_names t))

  used-same : all_statements
      (map (λ name. term_formula path condition t (of_provider (names_for t) (used_rule (may_use t) (table_names t)) name))
      (virtuals_of t)) ≡ used_row t
  used-same = ap all_statements (map-agree _ _ (provider-agree path condition t (may_use t) (table_names t)) (virtuals_of t))

  together-same : all_statements
      (map (λ name. term_formula path condition t (of_provider (names_for t) (together_rule problem (names_for t)) name))
      (virtuals_of t)) ≡ together_row problem t
  unfolding together_said
  together-same = ap all_statements (map-agree _ _ (together-agree path condition t problem) (virtuals_of t))

  version-same : all_statements (map (λ name. term_formula path condition t (where_built name (known_rule (version_rule problem name))))
      (table_names t)) ≡ built_row t (λ name. plain_said t (version_rule problem name))
  version-same = refl

  machine-same : all_statements (map (λ name. term_formula path condition t (where_built name (known_rule (machine_rule problem name))))
      (table_names t)) ≡ built_row t (λ name. plain_said t (machine_rule problem name))
  machine-same = refl

  -- the rows that are built are those of the rules
  pub rows-same : map (row_said problem t path condition) (rule_rows problem t) ≡ rows_said problem t condition
  rows-same =
      cons-same _ _ _ _ (buildable-row path condition t problem)
      (cons-same _ _ _ _ version-same
      (cons-same _ _ _ _ variants-same
      (cons-same _ _ _ _ (compiler-row path condition t problem)
      (cons-same _ _ _ _ machine-same
      (cons-same _ _ _ _ extra-same
      (cons-same _ _ _ _ (kept-row path condition t problem)
      (cons-same _ _ _ _ (provider-row path condition t problem)
      (cons-same _ _ _ _ used-same
      (cons-same _ _ _ _ together-same no-more)))))))))
