use Rattle.std.proofs.Common.{◌∙◌, sym}
use Rattle.spec_grammar.proofs.CompilerLaws.{caret_read, caret_stuck}
use Rattle.spec_grammar.proofs.read_item.caret.Goals as goal

pub returns-then-starts_with_byte-clause-fault : goal.returns-then-starts_with_byte-clause-fault
returns-then-starts_with_byte-clause-fault c = caret_stuck c.args.text.now (sym c.starts_with_byte.ensures ∙ c.if-starts_with_byte.true)

pub returns-clause-found : goal.returns-clause-found
returns-clause-found c = caret_read c.args.text.now (sym c.starts_with_byte.ensures ∙ c.if-starts_with_byte.false)
