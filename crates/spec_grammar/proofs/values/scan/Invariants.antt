use Rattle.std.proofs.Common.{◌≡◌, take, Some}
use Rattle.version_order.specs.Machine.{run}
use Rattle.spec_grammar.specs.Values.{after}
use Rattle.spec_grammar.proofs.values.scan.Given as goal

abbrev pub invariant-loop-index : goal.invariant-loop-index
invariant-loop-index l = run after l.fn.start (take l.index l.text) ≡ Some l.run
