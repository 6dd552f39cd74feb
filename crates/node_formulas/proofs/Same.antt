-- The attributes of a node, one after the other.
use Rattle.std.proofs.Common.{◌≡◌, ap, ◌∙◌}
use Rattle.std.specs.Option.{option_eq}
use Rattle.std.specs.Str.{bytes_eq}
use Rattle.clause_formulas.specs.Statements.{Statement, both_statements}
use Rattle.graph_core.specs.Graphs.{Text}
use Rattle.graph_core.specs.declared.node.Node.{Node}
use Rattle.problem.specs.Problems.{same_compiler}
use Rattle.literal_table.specs.Tables.{Table}
use Rattle.graph_formulas.specs.Facts.{Variants, has_compiler, has_os, has_target, has_prefix}
use Rattle.graph_formulas.specs.Kept.{same_rule}
use Rattle.word_formulas.specs.Builders.{node_said, plain_said}
use Rattle.node_formulas.specs.Attributes.{software_rule}

module _ (t : Table) (name : Text) (k : Node) where
  abbrev os_said : Text → Statement
  os_said text = node_said t name (has_os (λ own. bytes_eq own text))

  abbrev target_said : Text → Statement
  target_said text = node_said t name (has_target (λ own. bytes_eq own text))

  abbrev compiler_said : Statement
  compiler_said = node_said t name (has_compiler (λ own. option_eq same_compiler own k.compiler))

  abbrev prefix_said : Statement
  prefix_said = node_said t name (has_prefix (λ own. option_eq bytes_eq own k.prefix))

  pub same-steps : (own version : Text) (variants : Variants) (os target : Text) (software system : Statement) → own ≡ k.name
      → version ≡ k.version
      → variants ≡ k.variants → os ≡ k.os → target ≡ k.target → software ≡ plain_said t (software_rule name own version variants)
      → system ≡ both_statements (both_statements software compiler_said) (os_said os)
      → both_statements (both_statements system (target_said target)) prefix_said ≡ plain_said t (same_rule name k)
  same-steps own version variants os target software system a b v o g s m =
      ap (λ f. both_statements (both_statements f (target_said target)) prefix_said) (m
      ∙ ap (λ f. both_statements (both_statements f compiler_said) (os_said os)) s)
      ∙ ap (λ n. both_statements (both_statements
      (both_statements (both_statements (plain_said t (software_rule name n version variants)) compiler_said) (os_said os))
      (target_said target)) prefix_said) a
      ∙ ap (λ n. both_statements (both_statements
      (both_statements (both_statements (plain_said t (software_rule name k.name n variants)) compiler_said) (os_said os))
      (target_said target)) prefix_said) b
      ∙ ap (λ vs. both_statements (both_statements
      (both_statements (both_statements (plain_said t (software_rule name k.name k.version vs)) compiler_said) (os_said os))
      (target_said target)) prefix_said) v
      ∙ ap (λ n. both_statements (both_statements
      (both_statements (both_statements (plain_said t (software_rule name k.name k.version k.variants)) compiler_said) (os_said n))
      (target_said target)) prefix_said) o
      ∙ ap (λ n. both_statements (both_statements
      (both_statements (both_statements (plain_said t (software_rule name k.name k.version k.variants)) compiler_said) (os_said k.os))
      (target_said n)) prefix_said) g
