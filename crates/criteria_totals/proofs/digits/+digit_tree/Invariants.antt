use Rattle.std.proofs.Common.{length}
use Rattle.criteria_totals.proofs.digits.+digit_tree.Given as goal

abbrev pub decreases-digit_tree : goal.decreases-digit_tree
decreases-digit_tree l = length l.terms.now
