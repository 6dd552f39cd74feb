use Rattle.std.proofs.Common.{sym, ap, ◌∙◌}
use Rattle.std.specs.Option.{option_map}
use Rattle.run_task.proofs.Shown.{begun_not, certificate_unspelled, some_read, some_shown}
use Rattle.run_task.proofs.certificate.check_costs.Goals as goal

pub returns-in-Some-clause-read : goal.returns-in-Some-clause-read
returns-in-Some-clause-read g c =
    some_read c.args.path.now c.args._problem.now _ c.check_log.result c.args.encoded.now c.requires.built c.args.numbers.now
    c.in-Some.values.items c.as_slice.result.now c.lits-bits.result.now c.lits-bits.ensures
    (sym c.in_ok-values.ensures ∙ ap (option_map (λ v. v.items)) c.in-Some.is) c.as_slice.ensures.value c.check_log.ensures.read

pub returns-in-Some-clause-shown : goal.returns-in-Some-clause-shown
returns-in-Some-clause-shown g c =
    some_shown c.args.path.now c.args._problem.now _ c.check_log.result c.args.encoded.now c.requires.built c.args.numbers.now
    c.in-Some.values.items c.as_slice.result.now c.lits-bits.result.now c.lits-bits.ensures
    (sym c.in_ok-values.ensures ∙ ap (option_map (λ v. v.items)) c.in-Some.is) c.as_slice.ensures.value c.check_log.ensures.read
    c.text_laws.ensures.accepted c.verdict_laws.ensures.certified c.requires.encoded c.check_log.ensures.in_order

pub returns-in-None-clause-read : goal.returns-in-None-clause-read
returns-in-None-clause-read g c =
    certificate_unspelled c.args.path.now c.args._problem.now _ _
    (begun_not c.args._problem.now c.args.encoded.now c.requires.built c.args.numbers.now
    (sym c.in_ok-values.ensures ∙ ap (option_map (λ v. v.items)) c.in-None.is))
