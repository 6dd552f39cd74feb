use Rattle.std.proofs.Common.{rules, ◌≡◌, true}
use Rattle.std.specs.Str.{bytes_eq}
use Rattle.cost_terms.specs.Differ.{is_any_text}
use Rattle.cost_terms.proofs.DigitSteps.{on-ok}
use Rattle.std.proofs.Common.{◌∙◌}
use Rattle.term_builder.proofs.DifferSteps.{texts-filled, can-step}
use Rattle.term_builder.proofs.difference_terms.push_texts_differ.Goals as goal

pub returns : goal.returns
returns c =
    let can : c.can_texts_differ.result ≡ true = search rules in
    on-ok c.push_differ.result _ _ (λ pushed. can-step is_any_text bytes_eq c.args.there c.args.xs.now c.args.ys.now
    c.can_texts_differ.result
    c.args.terms.now.items _ _ _ _ c.can_texts_differ.ensures can (c.always.ensures ∙ texts-filled c.args.xs.now) (c.always-2.ensures
    ∙ texts-filled c.args.ys.now)
    c.in_ok-same.ensures pushed) c.push_differ.ensures
