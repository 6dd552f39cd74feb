use Rattle.std.specs.Str.{bytes_eq}
use Rattle.std.proofs.lemmas.List.{drop_all}
use Rattle.clause_formulas.specs.Statements.{atom}
use Rattle.graph_rules.specs.Weights.{provider_weight}
use Rattle.term_builder.specs.Tests.{only_if}
use Rattle.term_builder.proofs.Pushed.{pushed-if, ended}
use Rattle.term_builder.proofs.provider_terms.push_virtual.Goals as goal

pub returns : goal.returns
returns c =
    ended (λ choice. only_if (bytes_eq choice.0 c.args.name.now)
    (record { weight = provider_weight c.args.problem.now (c.args.virtuals.now.name, choice.0); formula = atom choice.1 }))
    c.args.virtuals.now.packages c.as_slice-choice-items.result.now c.loop-choice.choice-index c.loop-choice.terms.items
    c.args.terms.now.items _
    c.as_slice-choice-items.ensures (drop_all c.loop-choice.choice-index c.as_slice-choice-items.result.now c.loop-choice-test.false)
    c.loop-choice.invariant
    (pushed-if (λ choice. bytes_eq choice.0 c.args.name.now)
    (λ choice. record { weight = provider_weight c.args.problem.now (c.args.virtuals.now.name, choice.0); formula = atom choice.1 })
    c.args.virtuals.now.packages)
