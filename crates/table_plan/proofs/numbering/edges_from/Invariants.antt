use Rattle.std.proofs.Common.{◌≡◌, ◌+◌, take}
use Rattle.table_plan.specs.Numbers.{edge_lits_from, edge_widths}
use Rattle.table_plan.proofs.numbering.edges_from.Given as goal

abbrev pub invariant-loop-e : goal.invariant-loop-e
invariant-loop-e l = record {
  made : l.edges.items ≡ edge_lits_from l.initial.next (take l.e-index l.possible);
  next : l.next ≡ l.initial.next + edge_widths (take l.e-index l.possible);
}
