use Rattle.std.proofs.Common.{sym, subst}
use Rattle.clause_solver.specs.Solvers.{SolverValue}
use Rattle.std.specs.Prelude.{IfOk}
use Rattle.clause_store.specs.Lits.{AllBelow}
use Rattle.optimum_search.specs.Finding.{IsSearching, FixesBit}
use Rattle.optimum_search.proofs.fix_bits.fix_next_bit.Goals as goal

pub fix_bit-requires-clause-searching : goal.fix_bit-requires-clause-searching
fix_bit-requires-clause-searching c = subst (IsSearching c.args.bits.now c.args.budget c.args.at) (sym c.decide_number_first.ensures)
    c.requires.searching

pub fix_bit-requires-clause-in_range : goal.fix_bit-requires-clause-in_range
fix_bit-requires-clause-in_range c = subst (λ (s : SolverValue). AllBelow s.vars c.args.bits.now) (sym c.decide_number_first.ensures)
    c.requires.in_range

pub returns : goal.returns
returns c = subst (λ (s : SolverValue). IfOk c.fix_bit.result (FixesBit c.args.bits.now c.args.budget c.args.at s c.fix_bit.new.solver))
    c.decide_number_first.ensures c.fix_bit.ensures
