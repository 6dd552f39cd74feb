use Rattle.log_trim.proofs.FoundLaws.{optimal-sound, refuted-sound, optimal-found, refuted-found}
use Rattle.log_trim.proofs.found.trim_found.Goals as goal

pub trim-requires : goal.trim-requires
trim-requires c =
    optimal-sound c.args._clauses.now c.args._bits.now c.args._budget c.args.found _ _ c.in-Optimal.is c.requires

pub trim-requires-in-Refuted : goal.trim-requires-in-Refuted
trim-requires-in-Refuted c =
    refuted-sound c.args._clauses.now c.args._bits.now c.args._budget c.args.found _ c.in-Refuted.is c.requires

pub returns-in_ok-log-in-Optimal-clause-found : goal.returns-in_ok-log-in-Optimal-clause-found
returns-in_ok-log-in-Optimal-clause-found c =
    optimal-found c.args._clauses.now c.args._bits.now c.args._budget c.args.found _ _ _ c.in-Optimal.is
    c.in_ok-log-in-Optimal.ensures c.requires

pub returns-in_ok-log-in-Refuted-clause-found : goal.returns-in_ok-log-in-Refuted-clause-found
returns-in_ok-log-in-Refuted-clause-found c =
    refuted-found c.args._clauses.now c.args._bits.now c.args._budget c.args.found _ _ c.in-Refuted.is
    c.in_ok-log-in-Refuted.ensures c.requires
