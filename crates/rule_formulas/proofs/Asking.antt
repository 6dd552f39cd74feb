-- Formulas of edges over rows with the packages that each may ask for.
use Rattle.std.proofs.Common.{◌≡◌, refl, sym, ap, ◌∙◌, Bool, true, false, ◌&&◌, Option, Some, None, map, filter}
use Rattle.std.proofs.lemmas.List.Elements.{filter_agree}
use Rattle.std.specs.Option.{option_and_then}
use Rattle.std.specs.Prelude.{if◌then◌else◌}
use Rattle.std.specs.Str.{bytes_eq}
use Rattle.clause_formulas.specs.Rules.{fact}
use Rattle.clause_formulas.specs.Statements.{Statement, any_statement, both_statements, implication_of}
use Rattle.graph_core.specs.Graphs.{Text}
use Rattle.condition_rules.specs.Words.{is_one_text, is_some_and}
use Rattle.virtuals.specs.Virtuals.{is_virtual}
use Rattle.recipe_data.specs.OfSpecGrammar.Condition.{Condition}
use Rattle.recipe_data.specs.declared.recipe.DependRow.{DependRow}
use Rattle.literal_table.specs.Tables.{Table, packages_of}
use Rattle.problem.specs.Problems.{Problem, world_of, depends_at}
use Rattle.graph_formulas.specs.Edges.{asks_rule, may_ask, virtual_rule, kind_rule, extra_edge_rule}
use Rattle.graph_formulas.specs.Facts.{has_edge}
use Rattle.graph_formulas.specs.Laws.{virtuals_on}
use Rattle.graph_formulas.specs.Lists.{each_keeps}
use Rattle.graph_formulas.specs.Terms.{term_said}
use Rattle.graph_formulas.specs.Words.{names_for}
use Rattle.word_formulas.proofs.Steps.{some-said}
use Rattle.word_formulas.specs.Builders.{no_paths, plain_said}
use Rattle.rule_formulas.proofs.Lists.{any-offered, filter-mapped}
use Rattle.rule_formulas.specs.Asking.{packages_asked, asking_row, may_name, may_name_as, asking_said, kind_said, extra_edge_said}
use Rattle.rule_formulas.specs.Terms.{plain_term, kinds_of, has_of}
use Rattle.rule_formulas.specs.declared.extra_edges.EdgeKind.{EdgeKind}
use Rattle.rule_formulas.specs.declared.extra_edges.EdgeKind.TheVariants as edge

module _ (problem : Problem) (table : Table) where
  -- what a name may ask for was looked up
  name-looked_up : (child : Text) (o : Option Text) → may_name (option_and_then (packages_asked (world_of problem) table) o) o child
      ≡ is_some_and o (λ asked. if is_virtual problem.recipes asked then is_one_text (names_for table asked) child else bytes_eq asked child)
  name-looked_up child None = refl
  name-looked_up child (Some asked) = by-kind (is_virtual problem.recipes asked)
    where
      by-kind : (b : Bool) → may_name (if b then Some (packages_of table asked) else None) (Some asked) child
          ≡ (if b then is_one_text (names_for table asked) child else bytes_eq asked child)
      by-kind true = any-offered child (packages_of table asked)
      by-kind false = refl

  row-looked_up : (kind : EdgeKind) (child : Text) (row : DependRow) → may_name_as kind child (asking_row problem table row)
      ≡ (has_of kind row.kinds && may_ask problem (names_for table) child row)
  row-looked_up kind child row = ap (λ b. has_of kind row.kinds && b) (name-looked_up child row.part.name)

  module _ (condition : Text → Condition → Statement) (name : Text) where
    asking-same : (kind : EdgeKind) (child : Text) → asking_said problem table condition (map (asking_row problem table) (depends_at problem name)) kind name child
        ≡ any_statement (map (λ row. plain_term table condition (asks_rule problem (names_for table) name child row))
        (filter (λ row. has_of kind row.kinds && may_ask problem (names_for table) child row) (depends_at problem name)))
    asking-same kind child =
        let rows = depends_at problem name in
        let formula = λ (row : DependRow). plain_term table condition (asks_rule problem (names_for table) name child row) in
        ap any_statement (sym (filter-mapped (λ asking. formula asking.0) (asking_row problem table) (may_name_as kind child) rows)
        ∙ ap (map formula) (filter_agree (λ row. may_name_as kind child (asking_row problem table row))
        (λ row. has_of kind row.kinds && may_ask problem (names_for table) child row) (row-looked_up kind child) rows))

    kind-same : (kind : EdgeKind) (child : Text) → kind_said problem table condition (map (asking_row problem table) (depends_at problem name)) kind name child
        ≡ plain_term table condition (kind_rule problem (names_for table) (kinds_of kind) (has_of kind) name child)
    kind-same kind child = ap (implication_of (plain_said table (fact (has_edge name child (kinds_of kind)))))
        (asking-same kind child
        ∙ sym (some-said (term_said no_paths condition table) (asks_rule problem (names_for table) name child)
        (filter (λ row. has_of kind row.kinds && may_ask problem (names_for table) child row) (depends_at problem name))))

    -- over the rows of a package it is the rule of the edge
    pub extra_edge-same : (child : Text) → extra_edge_said problem table condition (map (asking_row problem table) (depends_at problem name)) (problem, name) name child
        ≡ plain_term table condition (extra_edge_rule problem (names_for table) (virtuals_on table name child) name child)
    extra_edge-same child = λ i. both_statements
        (both_statements (both_statements (kind-same edge.Build child i) (kind-same edge.Link child i)) (kind-same edge.Run child i))
        (plain_term table condition (each_keeps (virtual_rule problem (names_for table) name child) (virtuals_on table name child)))
