use Rattle.std.proofs.Common.{rules, ◌≡◌, true}
use Rattle.cost_terms.specs.Differ.{is_some_compiler, same_compilers}
use Rattle.cost_terms.proofs.DigitSteps.{on-ok}
use Rattle.term_builder.proofs.DifferSteps.{can-step}
use Rattle.term_builder.proofs.difference_terms.push_compilers_differ.Goals as goal

pub returns : goal.returns
returns c =
    let can : c.can_compilers_differ.result ≡ true = search rules in
    on-ok c.push_differ.result _ _ (λ pushed. can-step is_some_compiler same_compilers c.args.there c.args.xs.now c.args.ys.now
    c.can_compilers_differ.result
    c.args.terms.now.items _ _ _ _ c.can_compilers_differ.ensures can c.in_ok-left.ensures c.in_ok-right.ensures c.in_ok-same.ensures
    pushed) c.push_differ.ensures
