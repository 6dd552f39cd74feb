use Rattle.std.proofs.Common.{length}
use Rattle.log_checker.specs.declared.step.Why.TheVariants.{UnknownId}
use Rattle.log_checker.specs.Steps.{ids_known}
use Rattle.log_checker.proofs.Faults.{ids_known-in, unless-true}
use Rattle.log_checker.proofs.lines.chain_why.Goals as goal

pub check_chain-requires : goal.check_chain-requires
check_chain-requires c = ids_known-in (length c.args.known.now) c.args.chain.now
    (unless-true (ids_known (length c.args.known.now) c.args.chain.now) UnknownId c.requires)
