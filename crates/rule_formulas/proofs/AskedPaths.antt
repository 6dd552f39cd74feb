-- The formulas of the node that a name asks for, where rules speak of paths.
use Rattle.std.proofs.Common.{◌≡◌, refl, sym, ap, ◌∙◌, true, false, map}
use Rattle.clause_store.specs.declared.Lit.{Lit}
use Rattle.clause_formulas.specs.Statements.{Statement, any_statement}
use Rattle.clause_formulas.specs.Rules.{fact, both_of}
use Rattle.condition_rules.specs.Worlds.{World}
use Rattle.graph_core.specs.Graphs.{Text}
use Rattle.literal_table.specs.Tables.{Table, packages_of}
use Rattle.virtuals.specs.Virtuals.{is_virtual}
use Rattle.graph_formulas.specs.Facts.{word_said, provides_as}
use Rattle.graph_formulas.specs.Parts.{asked_rule}
use Rattle.graph_formulas.specs.Words.{names_for, rule_said}
use Rattle.word_formulas.specs.Asked.{NodeRule}
use Rattle.word_formulas.proofs.AskedSteps.{over-offered}
use Rattle.word_formulas.proofs.Steps.{some-said}

module _ (path : Text → Text → Statement) (table : Table) (world : World) (asked : Text) (keeps : NodeRule) where
  abbrev pub provided : Text → Statement
  provided name = rule_said path table (both_of (fact (provides_as asked name)) (keeps name))

  -- where a virtual is asked for
  pub path-virtual : is_virtual world.recipes asked ≡ true
      → any_statement (map (λ (c : Text × Lit). provided c.0) (packages_of table asked)) ≡ rule_said path table
      (asked_rule world (names_for table) asked keeps)
  path-virtual is = rw is (ap any_statement (over-offered provided (packages_of table asked))
      ∙ sym (some-said (word_said path table) (λ name. both_of (fact (provides_as asked name)) (keeps name)) (names_for table asked)))

  -- where a package is
  pub path-package : is_virtual world.recipes asked ≡ false
      → rule_said path table (keeps asked) ≡ rule_said path table (asked_rule world (names_for table) asked keeps)
  path-package is = rw is refl
