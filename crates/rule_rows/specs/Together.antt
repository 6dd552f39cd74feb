-- Two packages that provide blas and lapack by one directive, and a program that takes the one of each, or both of one.
use Rattle.std.specs.Prelude.{true, [], ◌∷◌, codes, None}
use Rattle.recipe_data.specs.declared.recipe.ProvideRow.{ProvideRow}
use Rattle.recipe_data.specs.declared.recipe.Recipe.{Recipe}
use Rattle.graph_core.specs.Graphs.{Text, Content}
use Rattle.graph_core.specs.declared.node.Node.{Node}
use Rattle.problem.specs.Problems.{Problem}
use Rattle.rule_rows.specs.Build.{named, spec, always, version, depends_on, to_build_and_link, recipe, built, edge_naming, problem}

abbrev pub blas : Text
blas = codes "blas"

abbrev pub lapack : Text
lapack = codes "lapack"

abbrev pub provide : Text → ProvideRow
provide name = record { name = name; versions = None; when = always; number = 1 }

-- `provides("blas", "lapack")`
abbrev pub of_both : Text → Recipe
of_both name = record (recipe name (version 0 (codes "1") ∷ [])) { provides = provide blas ∷ provide lapack ∷ [] }

abbrev pub app : Recipe
app = record (recipe (codes "app") (version 0 (codes "1") ∷ [])) {
  depends = depends_on 1 (named blas) to_build_and_link always ∷ depends_on 2 (named lapack) to_build_and_link always ∷ [];
}

abbrev pub apart : Problem
apart = problem (app ∷ of_both (codes "one") ∷ of_both (codes "two") ∷ []) (spec (named (codes "app")) ∷ [])

-- the same where the settings ask for both together
abbrev pub together : Problem
together = record apart { settings = record apart.settings { provided_together = true } }

abbrev pub node : Text → Node
node name = built name (codes "1") []

-- blas of the one, lapack of the other
abbrev pub mixed : Content
mixed = record {
  nodes = node (codes "app") ∷ node (codes "one") ∷ node (codes "two") ∷ [];
  edges = edge_naming (blas ∷ []) (codes "app") (codes "one") to_build_and_link
      ∷ edge_naming (lapack ∷ []) (codes "app") (codes "two") to_build_and_link ∷ [];
  providers = (blas, codes "one") ∷ (lapack, codes "two") ∷ [];
}

-- both of one
abbrev pub both_of_one : Content
both_of_one = record {
  nodes = node (codes "app") ∷ node (codes "one") ∷ [];
  edges = edge_naming (blas ∷ lapack ∷ []) (codes "app") (codes "one") to_build_and_link ∷ [];
  providers = (blas, codes "one") ∷ (lapack, codes "one") ∷ [];
}
