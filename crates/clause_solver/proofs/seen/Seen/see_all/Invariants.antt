use Rattle.std.proofs.Common.{◌≡◌, length, drop, take}
use Rattle.clause_store.specs.Lits.{AllBelow}
use Rattle.clause_solver.specs.Seen.{AreSeen}
use Rattle.clause_solver.proofs.seen.Seen.see_all.Given as goal

abbrev pub invariant-loop-code : goal.invariant-loop-code
invariant-loop-code l = record {
  in_range : AllBelow (length l.self) (drop l.code-index l.lits);
  is_seen : AreSeen l.fn.self l.self (take l.code-index l.lits);
  same : length l.self ≡ length l.fn.self;
}
