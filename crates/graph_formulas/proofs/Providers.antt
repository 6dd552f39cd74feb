-- A rule of all providers holds where it does for each virtual; some node passes where one at the names does.
use Rattle.std.proofs.Common.{◌≡◌, refl, sym, ap, ◌∙◌, Bool, true, false, not, ◌||◌, ◌&&◌, List, [], ◌∷◌, Option, Some, None, inl, inr}
use Rattle.std.specs.List.{list_any, list_all}
use Rattle.std.specs.Str.{bytes_eq}
use Rattle.std.proofs.lemmas.Bool.{cases_Bool}
use Rattle.clause_formulas.specs.Rules.{Proposition, keeps_rule}
use Rattle.graph_core.specs.Graphs.{Text}
use Rattle.condition_rules.specs.Words.{is_one_text, if_written, is_some_and}
use Rattle.graph_core.specs.Graphs.{Content, node_of, provider_of}
use Rattle.graph_core.specs.declared.node.Node.{Node}
use Rattle.problem.specs.Problems.{Problem, world_of}
use Rattle.graph_formulas.proofs.Rules.{each-kept}
use Rattle.graph_formulas.specs.Terms.{Term, is_true}
use Rattle.graph_formulas.specs.Edges.{of_provider}
use Rattle.graph_formulas.proofs.ListTests.{all-picked, all-true}

pub of-provider-kept : (problem : Problem) (packages : Text → List Text) (graph : Content)
    → ((virtual p : Text) → provider_of graph virtual ≡ Some p → is_one_text (packages virtual) p ≡ true)
    → (rule : Text × Text → Proposition Term) (test : Text × Text → Bool)
    → ((p : Text × Text) → keeps_rule (is_true (world_of problem) graph) (rule p) ≡ test p)
    → (virtual : Text) → keeps_rule (is_true (world_of problem) graph) (of_provider packages rule virtual)
    ≡ if_written (provider_of graph virtual) (λ p. test (virtual, p))
of-provider-kept problem packages graph listed rule test same virtual =
    each-kept (is_true (world_of problem) graph) _ (λ p. not (is_some_and (provider_of graph virtual) (λ q. bytes_eq q p))
    || test (virtual, p)) (λ p. ap (λ b. not (is_some_and (provider_of graph virtual) (λ q. bytes_eq q p)) || b) (same (virtual, p)))
    (packages virtual)
    ∙ of-provider-kept-cases (provider_of graph virtual) (listed virtual)
  where
    of-provider-kept-cases : (o : Option Text) → ((p : Text) → o ≡ Some p → is_one_text (packages virtual) p ≡ true)
        → list_all (λ p. not (is_some_and o (λ q. bytes_eq q p)) || test (virtual, p)) (packages virtual)
        ≡ if_written o (λ p. test (virtual, p))
    of-provider-kept-cases None has = all-true (packages virtual)
    of-provider-kept-cases (Some q) has = all-picked (λ p. test (virtual, p)) q (packages virtual) ∙ rw (has q refl) refl

-- some node, by names
pub any-node : (graph : Content) (test : Node → Bool) (names : List Text)
    → list_all (λ n. not (test n)) graph.nodes ≡ list_all (λ n. if_written (node_of graph n) (λ m. not (test m))) names
    → list_any test graph.nodes ≡ list_any (λ n. is_some_and (node_of graph n) test) names
any-node graph test names same = sym (not-all test graph.nodes) ∙ ap not same ∙ by-names names
  where
    not-all : (test : Node → Bool) (xs : List Node) → not (list_all (λ n. not (test n)) xs) ≡ list_any test xs
    not-all test [] = refl
    not-all test (x ∷ xs) = elim (cases_Bool (test x)) [ inl t ↦ rw t refl | inr f ↦ rw f (not-all test xs) ]

    any-node-cases : (o : Option Node) → not (if_written o (λ m. not (test m))) ≡ is_some_and o test
    any-node-cases None = refl
    any-node-cases (Some x) = not-not (test x)
      where
        not-not : (a : Bool) → not (not a) ≡ a
        not-not true = refl
        not-not false = refl

    by-names : (ns : List Text) → not (list_all (λ n. if_written (node_of graph n) (λ m. not (test m))) ns)
        ≡ list_any (λ n. is_some_and (node_of graph n) test) ns
    by-names [] = refl
    by-names (n ∷ ns) = not-and (if_written (node_of graph n) (λ m. not (test m)))
        (list_all (λ n. if_written (node_of graph n) (λ m. not (test m))) ns) ∙ rw (any-node-cases (node_of graph n), by-names ns) refl
      where
        not-and : (a b : Bool) → not (a && b) ≡ (not a || not b)
        not-and true b = refl
        not-and false b = refl
