use Rattle.spec_grammar.proofs.AsciiLaws.{right_ascii}
use Rattle.spec_grammar.proofs.RightLaws.{one_reading, one_fault, only_memory}
use Rattle.spec_grammar.proofs.theorems.reading_laws.Goals as goal

pub returns : goal.returns
returns c = record { one_reading = one_reading; one_fault = one_fault; right = only_memory; ascii = right_ascii }
