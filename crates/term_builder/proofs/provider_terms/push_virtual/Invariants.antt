use Rattle.std.proofs.Common.{◌≡◌, ◌++◌, flat_map, drop}
use Rattle.std.specs.Str.{bytes_eq}
use Rattle.clause_formulas.specs.Statements.{atom}
use Rattle.graph_rules.specs.Weights.{provider_weight}
use Rattle.term_builder.specs.Tests.{only_if}
use Rattle.term_builder.proofs.provider_terms.push_virtual.Given as goal

abbrev pub invariant-loop-choice : goal.invariant-loop-choice
invariant-loop-choice l =
    l.terms.items
    ++ flat_map (λ c. only_if (bytes_eq c.0 l.fn.name)
    (record { weight = provider_weight l.fn.problem (l.fn.virtuals.name, c.0); formula = atom c.1 }))
    (drop l.choice-index l.fn.virtuals.packages)
    ≡ l.fn.terms.items
    ++ flat_map (λ c. only_if (bytes_eq c.0 l.fn.name)
    (record { weight = provider_weight l.fn.problem (l.fn.virtuals.name, c.0); formula = atom c.1 }))
    l.fn.virtuals.packages
