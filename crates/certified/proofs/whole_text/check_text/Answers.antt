use Rattle.std.proofs.Common.{◌∙◌, sym, [], Bor, List, Bool}
use Rattle.std.specs.Option.{option_map}
use Rattle.log_checker.specs.Steps.{begun}
use Rattle.certified.proofs.TextLaws.{text-accepted}
use Rattle.certified.proofs.whole_text.check_text.Goals as goal

pub returns-clause-answer : goal.returns-clause-answer
returns-clause-answer g c =
    let values = option_map (λ (v : Bor (List Bool)). v.now) c.args.values in
    c.finish.ensures
    ∙ (c.in_ok-take_text.ensures (begun c.args.clauses.now c.args.bits.now values) [] c.in_ok-checker.ensures.begun).answer

pub returns-clause-shown : goal.returns-clause-shown
returns-clause-shown g c =
    let values = option_map (λ (v : Bor (List Bool)). v.now) c.args.values in
    λ q. ((text-accepted c.args.clauses.now c.args.bits.now values c.args.text.now c.in_ok-checker.ensures.in_order).0
    (sym (c.in_ok-take_text.ensures (begun c.args.clauses.now c.args.bits.now values) [] c.in_ok-checker.ensures.begun).answer
    ∙ sym c.finish.ensures ∙ q)).2
