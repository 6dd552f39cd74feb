-- The rule of variants holds where it is kept.
use Rattle.std.proofs.Common.{◌≡◌, refl, sym, ap, ◌∙◌, Bool, true, not, ◌&&◌, List, [], ◌∷◌, filter, Option, Some, None, inl, inr, arith}
use Rattle.std.specs.Prelude.{is_some, length, nat_lt, ◌==◌}
use Rattle.std.specs.List.{list_any}
use Rattle.std.specs.Option.{option_or}
use Rattle.std.specs.Str.{bytes_eq}
use Rattle.std.proofs.lemmas.Bool.{cases_Bool, lt-ltb, ne_eqb}
use Rattle.variant_values.specs.declared.kind.VariantKind.{VariantKind}
use Rattle.variant_values.specs.declared.kind.VariantKind.TheVariants as kinds
use Rattle.clause_formulas.specs.Rules.{keeps_rule}
use Rattle.graph_core.specs.Graphs.{Text, Content, node_of}
use Rattle.graph_core.specs.declared.node.Node.{Node}
use Rattle.condition_rules.specs.Words.{is_one_text, includes, implies, is_some_and, find_last}
use Rattle.condition_rules.specs.Holds.{all_hold, governing}
use Rattle.recipe_data.specs.declared.recipe.VariantRow.{VariantRow}
use Rattle.recipe_data.specs.Right.{is_count_of}
use Rattle.problem.specs.Problems.{Problem, world_of, variants_at}
use Rattle.graph_rules.specs.Built.{allows}
use Rattle.literal_table.specs.Choices.{is_single}
use Rattle.literal_table.specs.Spells.{values_at}
use Rattle.literal_table.proofs.Spelling.{named-so}
use Rattle.graph_formulas.specs.Facts.{is_in, has_variant, has_value, has_single, variant_there}
use Rattle.graph_formulas.proofs.Rules.{some-kept, last-kept, any-last}
use Rattle.graph_formulas.proofs.Kept.{there}
use Rattle.graph_formulas.specs.Terms.{is_true, known_rule, met_rule}
use Rattle.graph_formulas.specs.Variants.{count_rule, allows_rule, definitions, variant_rule, keeps_one_variant}
use Rattle.graph_formulas.proofs.Directives.{not-or}

or-none : {T : Type 0} (o : Option T) → option_or o None ≡ o
or-none None = refl
or-none (Some y) = refl

-- the last of those that pass two tests
last-filter : {T : Type 0} (a b : T → Bool) (xs : List T) → find_last b (filter a xs) ≡ find_last (λ x. a x && b x) xs
last-filter a b [] = refl
last-filter a b (x ∷ xs) = elim (cases_Bool (a x)) [
  | inl t ↦ rw (t, last-filter a b xs) refl
  | inr f ↦ rw (f, last-filter a b xs) (sym (or-none (find_last (λ x. a x && b x) xs)))
]

only : (values xs : List Text) → not (list_any (λ value. not (is_one_text values value)) xs) ≡ includes values xs
only values [] = refl
only values (x ∷ xs) = elim (cases_Bool (is_one_text values x)) [ inl t ↦ rw t (only values xs) | inr f ↦ rw f refl ]

filled : (xs : List Text) → list_any (λ value. true) xs ≡ nat_lt 0 (length xs)
filled [] = refl
filled (x ∷ xs) = sym (lt-ltb 0 (length (x ∷ xs)) (omega arith))

single : (xs : List Text) → is_single xs ≡ (length xs == 1)
single [] = refl
single (x ∷ []) = refl
single (x ∷ y ∷ xs) = sym (ne_eqb (length (x ∷ y ∷ xs)) 1 (λ h. omega (arith, h)))

module _ (problem : Problem) (graph : Content) (name : Text) (node : Node) (here : node_of graph name ≡ Some node) (variant : Text) where
  count-kept : (kind : VariantKind) → keeps_rule (is_in graph) (count_rule name variant kind)
      ≡ is_count_of kind (length (values_at node.variants variant))
  count-kept kinds.Bool = there (world_of problem) graph name node here (has_single variant) ∙ single (values_at node.variants variant)
  count-kept kinds.Single = there (world_of problem) graph name node here (has_single variant) ∙ single (values_at node.variants variant)
  count-kept kinds.Multi = there (world_of problem) graph name node here (has_value variant (λ value. true))
      ∙ filled (values_at node.variants variant)

  allows-kept : (row : VariantRow) → keeps_rule (is_in graph) (allows_rule name variant row) ≡ allows (values_at node.variants variant) row
  allows-kept row = rw (
    there (world_of problem) graph name node here (has_value variant (λ value. not (is_one_text row.values value))),
    only row.values (values_at node.variants variant),
    count-kept row.kind,
  ) refl

  -- the rule of one variant
  pub variant-kept : keeps_rule (is_true (world_of problem) graph) (variant_rule problem name variant) ≡ keeps_one_variant problem
      graph node variant
  unfolding governing
  variant-kept =
      let holds = λ (row : VariantRow). all_hold (world_of problem) row.when graph name in
      rw (
        there (world_of problem) graph name node here (has_variant variant),
        some-kept (is_true (world_of problem) graph) (λ row. met_rule name row.when) holds (λ row. refl) (definitions problem name variant),
        any-last holds (definitions problem name variant),
        last-kept (is_true (world_of problem) graph) (λ row. known_rule (allows_rule name variant row))
            (allows (values_at node.variants variant)) allows-kept (λ row. met_rule name row.when) holds (λ row. refl)
            (definitions problem name variant),
        last-filter (λ row. bytes_eq row.name variant) holds (variants_at problem name),
        not-or (is_some (find_last (λ row. bytes_eq row.name variant && holds row) (variants_at problem name)))
            (variant_there node.variants variant),
        not-or (variant_there node.variants variant)
            (is_some_and (find_last (λ row. bytes_eq row.name variant && holds row) (variants_at problem name))
            (allows (values_at node.variants variant))),
      )
      (ap (λ n. implies
      (is_some (find_last (λ (row : VariantRow). bytes_eq row.name variant && all_hold (world_of problem) row.when graph n)
      (variants_at problem n))) (variant_there node.variants variant)
      && implies (variant_there node.variants variant)
      (is_some_and (find_last (λ (row : VariantRow). bytes_eq row.name variant && all_hold (world_of problem) row.when graph n)
      (variants_at problem n)) (allows (values_at node.variants variant)))) (sym (named-so graph name node here)))
