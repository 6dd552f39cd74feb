use Rattle.spec_grammar.proofs.WriteLaws.{read_again, named, ordered, valued}
use Rattle.spec_grammar.proofs.theorems.writing_laws.Goals as goal

pub returns : goal.returns
returns c = record { read_again = read_again; named = named; ordered = ordered; valued = valued }
