-- The formulas of what rows ask for speak of no path.
use Rattle.std.proofs.Common.{◌≡◌, refl, Bool, true, false, List, Option, Some, None}
use Rattle.std.specs.Prelude.{if◌then◌else◌}
use Rattle.std.specs.Str.{bytes_eq}
use Rattle.spec_grammar.specs.declared.part.Part.{Part}
use Rattle.clause_formulas.specs.Statements.{Statement}
use Rattle.clause_formulas.specs.Rules.{Proposition, in_words, fact, both_of}
use Rattle.recipe_data.specs.declared.recipe.DependRow.{DependRow}
use Rattle.condition_rules.specs.Worlds.{World}
use Rattle.graph_core.specs.Graphs.{Text}
use Rattle.literal_table.specs.Tables.{Table}
use Rattle.problem.specs.Problems.{Problem, world_of}
use Rattle.virtuals.specs.Virtuals.{is_virtual}
use Rattle.graph_formulas.specs.Facts.{GraphWord, word_said, provides_as, has_edge, has_virtual}
use Rattle.graph_formulas.specs.Lists.{settled_test, one_keeps, some}
use Rattle.graph_formulas.specs.Parts.{asked_rule, suits_rule, provides_rule, rest_rule, meets_rule}
use Rattle.graph_formulas.specs.Words.{rule_said}
use Rattle.graph_formulas.specs.Directives.{answer_rule, edge_to, suits_asked}
use Rattle.graph_formulas.specs.Edges.{asked_child}
use Rattle.word_formulas.specs.Asked.{NodeRule, asks_child}
use Rattle.word_formulas.specs.Builders.{no_paths, plain_said}
use Rattle.word_formulas.proofs.PathFree.{some-agree, given-agree, rest-agree, meets-agree, provides-agree}
use Rattle.word_formulas.proofs.Steps.{both-same}

module _ (path : Text → Text → Statement) (table : Table) where
  abbrev f : GraphWord → Statement
  f = word_said path table

  abbrev g : GraphWord → Statement
  g = word_said no_paths table

  named-agree : {T : Type 0} (rule : T → Proposition GraphWord) → ((x : T) → in_words f (rule x) ≡ in_words g (rule x)) → (o : Option T)
      → in_words f (one_keeps o rule) ≡ in_words g (one_keeps o rule)
  named-agree rule same None = refl
  named-agree rule same (Some x) = same x

  asked-agree : (world : World) (packages : Text → List Text) (asked : Text) (rule : NodeRule)
      → ((n : Text) → in_words f (rule n) ≡ in_words g (rule n))
      → in_words f (asked_rule world packages asked rule) ≡ in_words g (asked_rule world packages asked rule)
  asked-agree world packages asked rule same = if-virtual (is_virtual world.recipes asked)
    where
      if-virtual : (b : Bool) → in_words f (if b then some (λ name. both_of (fact (provides_as asked name)) (rule name)) (packages asked)
          else rule asked)
          ≡ in_words g (if b then some (λ name. both_of (fact (provides_as asked name)) (rule name)) (packages asked) else rule asked)
      if-virtual true = some-agree f g (λ name. both_of (fact (provides_as asked name)) (rule name))
          (λ name. both-same (f (provides_as asked name)) (in_words f (rule name)) (g (provides_as asked name)) (in_words g (rule name))
          refl (same name)) (packages asked)
      if-virtual false = same asked

  pub suits-agree : (world : World) (part : Part) (asked name : Text)
      → in_words f (suits_rule world part asked name) ≡ in_words g (suits_rule world part asked name)
  suits-agree world part asked name = if-virtual (is_virtual world.recipes asked)
    where
      if-virtual : (b : Bool) → in_words f (if b then both_of (provides_rule world name asked part.versions) (rest_rule world name part)
          else meets_rule world name part)
          ≡ in_words g (if b then both_of (provides_rule world name asked part.versions) (rest_rule world name part) else meets_rule
          world name part)
      if-virtual true = both-same _ _ _ _ (provides-agree path table world name asked part.versions) (rest-agree path table world name part)
      if-virtual false = meets-agree path table world name part

  pub edge-agree : (problem : Problem) (packages : Text → List Text) (name : Text) (row : DependRow)
      → rule_said path table (edge_to problem packages name row) ≡ plain_said table (edge_to problem packages name row)
  edge-agree problem packages name row =
      named-agree (λ asked. asked_rule (world_of problem) packages asked (answer_rule problem packages name row asked))
      (λ asked. asked-agree (world_of problem) packages asked (answer_rule problem packages name row asked)
      (answered asked (is_virtual problem.recipes asked))) row.part.name
    where
      answered : (asked : Text) (b : Bool) (child : Text)
          → in_words f (if b then both_of (fact (has_edge name child row.kinds)) (fact (has_virtual name child asked)) else fact
          (has_edge name child row.kinds))
          ≡ in_words g (if b then both_of (fact (has_edge name child row.kinds)) (fact (has_virtual name child asked)) else fact
          (has_edge name child row.kinds))
      answered asked true child = refl
      answered asked false child = refl

  pub suits_asked-agree : (problem : Problem) (packages : Text → List Text) (row : DependRow)
      → rule_said path table (suits_asked problem packages row) ≡ plain_said table (suits_asked problem packages row)
  suits_asked-agree problem packages row =
      named-agree (λ asked. asked_rule (world_of problem) packages asked (suits_rule (world_of problem) row.part asked))
      (λ asked. asked-agree (world_of problem) packages asked (suits_rule (world_of problem) row.part asked)
      (suits-agree (world_of problem) row.part asked)) row.part.name

  pub asks_child-agree : (problem : Problem) (child : Text) (row : DependRow)
      → rule_said path table (asks_child problem child row) ≡ plain_said table (asks_child problem child row)
  asks_child-agree problem child row =
      named-agree (asked_child (world_of problem) child) (λ asked. if-virtual asked (is_virtual problem.recipes asked)) row.part.name
    where
      if-virtual : (asked : Text) (b : Bool) → in_words f
          (if b then fact (provides_as asked child) else settled_test (bytes_eq asked child))
          ≡ in_words g (if b then fact (provides_as asked child) else settled_test (bytes_eq asked child))
      if-virtual asked true = refl
      if-virtual asked false = given-agree f g (bytes_eq asked child)
