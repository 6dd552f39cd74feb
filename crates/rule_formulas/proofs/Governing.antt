-- The last definition of a variant that is met.
use Rattle.std.proofs.Common.{◌≡◌, refl, sym, ap, ◌∙◌, ℕ, ◌-◌, ◌/◌, ◌<◌, ◌≤◌, List, [], ◌∷◌, map, take, drop, length, not}
use Rattle.std.specs.Borrow.{Bor}
use Rattle.std.proofs.lemmas.List.{length-map}
use Rattle.variant_values.specs.declared.kind.VariantKind.{VariantKind}
use Rattle.variant_values.specs.declared.kind.VariantKind.TheVariants as kinds
use Rattle.clause_formulas.specs.Statements.{Statement, any_statement, both_statements, implication_of, opposite}
use Rattle.clause_formulas.specs.Rules.{Proposition, in_words}
use Rattle.graph_core.specs.Graphs.{Text}
use Rattle.recipe_data.specs.OfSpecGrammar.Condition.{Condition}
use Rattle.recipe_data.specs.declared.recipe.VariantRow.{VariantRow}
use Rattle.literal_table.specs.Tables.{Table}
use Rattle.problem.specs.Problems.{Problem}
use Rattle.condition_rules.specs.Words.{is_one_text}
use Rattle.graph_formulas.specs.Facts.{has_value, node_has, word_said}
use Rattle.graph_formulas.specs.Lists.{some, half_length, last_in_turn, last_halved, last_one}
use Rattle.graph_formulas.specs.Words.{rule_said}
use Rattle.graph_formulas.specs.Terms.{Term, term_said, known_rule, met_rule}
use Rattle.graph_formulas.specs.Variants.{count_rule, allows_rule, definitions, variant_there_rule, variant_rule, variants_rule}
use Rattle.word_formulas.specs.Builders.{no_paths, plain_said}
use Rattle.word_formulas.proofs.PathFree.{each-agree, some-agree}
use Rattle.word_formulas.proofs.Steps.{some-said, both-same}
use Rattle.rule_formulas.specs.Governing.{Definitions, met_said, last_parts, met_by, allowed_by, last_said}
use Rattle.rule_formulas.proofs.Halves.{halved-none, halved-short, halved-long, some-mapped, halved-mapped, halved-agree}

module _ (t : Table) (condition : Text → Condition → Statement) (name variant : Text) where
  abbrev g : Term → Statement
  g = term_said no_paths condition t

  abbrev met : VariantRow → Proposition Term
  met row = met_rule name row.when

  abbrev allowed : VariantRow → Proposition Term
  allowed row = known_rule (allows_rule name variant row)

  abbrev own : Bor VariantRow → VariantRow
  own row = row.now

  met-said : (rows : Definitions) → met_said condition name rows ≡ in_words g (some (met_by name) rows)
  met-said rows = sym (some-said g (met_by name) rows)

  pub met-is : (rows : Definitions) (ds : List VariantRow) → map own rows ≡ ds → met_said condition name rows ≡ in_words g (some met ds)
  met-is rows ds same = met-said rows ∙ ap (in_words g) (some-mapped met met own rows) ∙ ap (λ ds. in_words g (some met ds)) same

  in-turn-said : (rows : Definitions) → any_statement (last_parts t condition name variant rows)
      ≡ in_words g (last_in_turn (met_by name) (allowed_by name variant) rows)
  in-turn-said [] = refl
  in-turn-said (row ∷ rows) = rw (met-said rows, in-turn-said rows) refl

  pub turn-none : (times : ℕ) (rows : Definitions) → times ≡ 0
      → any_statement (last_parts t condition name variant rows) ≡ last_said t condition name variant times rows
  turn-none times rows e = in-turn-said rows ∙ ap (in_words g) (sym (halved-none (met_by name) (allowed_by name variant) times rows e))

  pub turn-short : (times : ℕ) (rows : Definitions) → length rows ≤ 8
      → any_statement (last_parts t condition name variant rows) ≡ last_said t condition name variant times rows
  turn-short times rows le = in-turn-said rows ∙ ap (in_words g) (sym (halved-short (met_by name) (allowed_by name variant) times rows le))

  pub halves-said : (times : ℕ) (rows : Definitions) (front back : Statement) → (times ≡ 0 → ⊥) → 8 < length rows
      → front ≡ last_said t condition name variant (times - 1) (take (half_length rows) rows)
      → back ≡ last_said t condition name variant (times - 1) (drop (half_length rows) rows)
      → any_statement (both_statements (opposite (met_said condition name (drop (half_length rows) rows))) front ∷ back ∷ [])
      ≡ last_said t condition name
      variant times rows
  halves-said times rows front back some long first second =
      rw (first, second, met-said (drop (half_length rows) rows)) refl
      ∙ ap (in_words g) (sym (halved-long (met_by name) (allowed_by name variant) times rows some long))

  pub last-is : (rows : Definitions) (ds : List VariantRow) → map own rows ≡ ds
      → last_said t condition name variant (length rows / 8) rows ≡ in_words g (last_one met allowed ds)
  last-is rows ds same =
      ap (in_words g) (halved-mapped met allowed own (length rows / 8) rows)
      ∙ ap (λ n. in_words g (last_halved (n / 8) met allowed (map own rows))) (sym (length-map rows own))
      ∙ ap (λ ds. in_words g (last_one met allowed ds)) same

-- the rule of variants speaks of no path, but by conditions
module _ (path : Text → Text → Statement) (condition : Text → Condition → Statement) (t : Table) (problem : Problem) where
  abbrev f : Term → Statement
  f = term_said path condition t

  abbrev h : Term → Statement
  h = term_said no_paths condition t

  count-agree : (name variant : Text) (kind : VariantKind)
      → rule_said path t (count_rule name variant kind) ≡ plain_said t (count_rule name variant kind)
  count-agree name variant kinds.Bool = refl
  count-agree name variant kinds.Single = refl
  count-agree name variant kinds.Multi = refl

  allows-agree : (name variant : Text) (row : VariantRow)
      → rule_said path t (allows_rule name variant row) ≡ plain_said t (allows_rule name variant row)
  allows-agree name variant row =
      ap (λ s. both_statements
      (opposite (word_said no_paths t (node_has name (has_value variant (λ value. not (is_one_text row.values value)))))) s)
      (count-agree name variant row.kind)

  last-agree : (name variant : Text) (rows : List VariantRow)
      → in_words f (last_one (λ row. met_rule name row.when) (λ row. known_rule (allows_rule name variant row)) rows)
      ≡ in_words h (last_one (λ row. met_rule name row.when) (λ row. known_rule (allows_rule name variant row)) rows)
  last-agree name variant rows = halved-agree f h (λ row. met_rule name row.when) (λ row. known_rule (allows_rule name variant row))
      (λ row. refl) (allows-agree name variant) (length rows / 8) rows

  variant-agree : (name variant : Text) → in_words f (variant_rule problem name variant) ≡ in_words h (variant_rule problem name variant)
  variant-agree name variant = both-same _ _ _ _
      (ap (λ s. implication_of s (in_words h (variant_there_rule name variant)))
      (some-agree f h (λ row. met_rule name row.when) (λ row. refl) (definitions problem name variant)))
      (ap (λ s. implication_of (in_words h (variant_there_rule name variant)) s)
      (last-agree name variant (definitions problem name variant)))

  pub variants-agree : (variants : List Text) (name : Text)
      → in_words f (variants_rule problem variants name) ≡ in_words h (variants_rule problem variants name)
  variants-agree variants name = each-agree f h (variant_rule problem name) (variant-agree name) variants
