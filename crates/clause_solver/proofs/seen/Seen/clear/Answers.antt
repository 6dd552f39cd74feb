use Rattle.std.proofs.Common.{false, ◌∙◌}
use Rattle.std.proofs.lemmas.List.{length-set}
use Rattle.clause_solver.proofs.Listing.{listed-pop}
use Rattle.clause_solver.proofs.seen.Seen.clear.Goals as goal

pub loop-var-preserved : goal.loop-var-preserved
loop-var-preserved c =
    let f = c.loop-var.self-inside in record {
      listed = listed-pop f.table.items f.listed.items c.pop.new.self.items c.in-Some.var c.loop-var.invariant.listed
          c.in-Some.ensures.items;
      same = length-set f.table.items c.in-Some.var false ∙ c.loop-var.invariant.same;
    }
