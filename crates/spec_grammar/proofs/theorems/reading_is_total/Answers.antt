use Rattle.spec_grammar.proofs.TotalText.{reading_total}
use Rattle.spec_grammar.proofs.theorems.reading_is_total.Goals as goal

pub returns : goal.returns
returns c = record { total = reading_total }
