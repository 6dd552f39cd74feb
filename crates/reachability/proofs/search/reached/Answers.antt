use Rattle.std.proofs.Common.{ap, ◌∙◌, ◌+◌, length}
use Rattle.std.proofs.lemmas.List.{length-replicate}
use Rattle.reachability.proofs.SearchLaws.{no_marks, one_row}
use Rattle.reachability.proofs.search.reached.Goals as goal

pub search-requires-clause-fresh : goal.search-requires-clause-fresh
search-requires-clause-fresh c = λ q lt marked. no_marks _ (0 + q) (rw c.in_ok-marks.ensures at marked)

pub returns : goal.returns
returns c = one_row _ _ _ _ c.requires.within (ap length c.in_ok-marks.ensures ∙ length-replicate _ _) c.in_ok-search.ensures
