use Rattle.std.specs.Option.{option_copied}
use Rattle.install_plan.proofs.ChainLaws.{IsDown}
use Rattle.install_plan.proofs.chain.chain_of.Given as goal

abbrev pub invariant-loop-done : goal.invariant-loop-done
invariant-loop-done l = IsDown l.graph l.waves l.done (option_copied l.above) l.chain
