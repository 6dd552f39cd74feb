use Rattle.std.proofs.Common.{◌≡◌, ◌++◌, take}
use Rattle.run_output.specs.Report.{names_text}
use Rattle.run_output.proofs.order.write_names.Given as goal

abbrev pub invariant-loop-name : goal.invariant-loop-name
invariant-loop-name l = l.out.items ≡ l.fn.out.items ++ names_text (take l.name-index l.names)
