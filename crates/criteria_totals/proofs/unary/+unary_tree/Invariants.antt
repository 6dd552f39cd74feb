use Rattle.std.proofs.Common.{length}
use Rattle.criteria_totals.proofs.unary.+unary_tree.Given as goal

abbrev pub decreases-unary_tree : goal.decreases-unary_tree
decreases-unary_tree l = length l.terms.now
