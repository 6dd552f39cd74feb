use Rattle.version_order.proofs.CutLaws.{cut_separator, cut_change, digits_whole, letters_whole}
use Rattle.version_order.proofs.theorems.cutting_laws.Goals as goal

pub returns-clause-at_separator : goal.returns-clause-at_separator
returns-clause-at_separator c = cut_separator

pub returns-clause-at_change : goal.returns-clause-at_change
returns-clause-at_change c = cut_change

pub returns-clause-digits : goal.returns-clause-digits
returns-clause-digits c = digits_whole

pub returns-clause-letters : goal.returns-clause-letters
returns-clause-letters c = letters_whole
