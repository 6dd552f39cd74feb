use Rattle.std.proofs.Common.{[]}
use Rattle.reason_minimum.proofs.round.refuting.Goals as goal

pub reasons-requires : goal.reasons-requires
reasons-requires c = ([], c.requires.refuted)

pub returns-clause-unmet : goal.returns-clause-unmet
returns-clause-unmet c = λ v meets.
    c.reason_laws.ensures.no_model c.args.clauses.now c.args.log.now c.in_ok-demands.demands v c.requires.in_order ([], c.requires.refuted)
    c.in_ok-demands.ensures meets
