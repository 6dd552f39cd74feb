-- The formulas of the node that a name asks for.
use Rattle.std.proofs.Common.{◌≡◌, refl, sym, ap, subst, ◌∙◌, true, false, [], ◌∷◌, map, IfOk, Result, Ok}
use Rattle.std.specs.Str.{bytes_eq}
use Rattle.spec_grammar.specs.declared.part.Part.{Part}
use Rattle.clause_formulas.specs.Statements.{Statement, any_statement, both_statements}
use Rattle.clause_formulas.specs.Rules.{fact, both_of}
use Rattle.condition_rules.specs.Worlds.{World}
use Rattle.graph_core.specs.Graphs.{Text}
use Rattle.literal_table.specs.Choices.{Choices, choice_values}
use Rattle.literal_table.specs.Tables.{Table, packages_of}
use Rattle.virtuals.specs.Virtuals.{is_virtual}
use Rattle.graph_formulas.specs.Facts.{word_said, provides_as}
use Rattle.graph_formulas.specs.Parts.{asked_rule, provides_rule, rest_rule, meets_rule, suits_rule}
use Rattle.graph_formulas.specs.Words.{names_for}
use Rattle.graph_formulas.specs.Edges.{asked_child}
use Rattle.word_formulas.specs.Asked.{NodeRule, keeping_said}
use Rattle.word_formulas.specs.Builders.{no_paths, given_said, plain_said}
use Rattle.word_formulas.proofs.Steps.{some-said, given-said}

-- what holds of a result that is there
pub ok-at : {T E : Type 0} (r : Result T E) (x : T) (P : T → Type 0) → r ≡ Ok x → IfOk r P → P x
ok-at r x P is h = subst (λ r. IfOk r P) is h

pub over-offered : {T : Type 0} (f : T → Statement) (cs : Choices T) → map (λ c. f c.0) cs ≡ map f (choice_values cs)
over-offered f [] = refl
over-offered f (c ∷ cs) = ap (λ l. f c.0 ∷ l) (over-offered f cs)

module _ (table : Table) (world : World) (asked : Text) (keeps : NodeRule) where
  pub asked-virtual : is_virtual world.recipes asked ≡ true
      → any_statement (map (keeping_said table asked keeps) (packages_of table asked))
      ≡ plain_said table (asked_rule world (names_for table) asked keeps)
  asked-virtual is =
      rw is (ap any_statement (over-offered (λ name. plain_said table (both_of (fact (provides_as asked name)) (keeps name)))
      (packages_of table asked))
      ∙ sym (some-said (word_said no_paths table) (λ name. both_of (fact (provides_as asked name)) (keeps name)) (names_for table asked)))

  pub asked-package : is_virtual world.recipes asked ≡ false
      → plain_said table (keeps asked) ≡ plain_said table (asked_rule world (names_for table) asked keeps)
  asked-package is = rw is refl

module _ (table : Table) (world : World) (part : Part) (asked name : Text) where
  pub suits-virtual : is_virtual world.recipes asked ≡ true
      → both_statements (plain_said table (provides_rule world name asked part.versions)) (plain_said table (rest_rule world name part))
      ≡ plain_said table (suits_rule world part asked name)
  suits-virtual is = rw is refl

  pub suits-package : is_virtual world.recipes asked ≡ false
      → plain_said table (meets_rule world name part) ≡ plain_said table (suits_rule world part asked name)
  suits-package is = rw is refl

module _ (table : Table) (world : World) (child asked : Text) where
  pub child-provides : is_virtual world.recipes asked ≡ true
      → plain_said table (fact (provides_as asked child)) ≡ plain_said table (asked_child world child asked)
  child-provides is = rw is refl

  pub child-given : is_virtual world.recipes asked ≡ false
      → given_said (bytes_eq asked child) ≡ plain_said table (asked_child world child asked)
  child-given is = rw is (given-said (word_said no_paths table) (bytes_eq asked child))
