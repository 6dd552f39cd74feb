use Rattle.std.proofs.Common.{[], ap, sym}
use Rattle.std.specs.Prelude.{unwrap_or}
use Rattle.log_checker.proofs.Flat.{clause-of}
use Rattle.log_checker.proofs.known.lits_of.Goals as goal

pub returns-clause-value : goal.returns-clause-value
returns-clause-value c = sym (ap (λ o. unwrap_or o []) (clause-of c.args.known.now _ _ c.get.ensures.value))
