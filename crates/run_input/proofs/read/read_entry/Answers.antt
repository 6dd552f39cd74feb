use Rattle.std.proofs.Common.{◌++◌}
use Rattle.variant_values.specs.Texts.{IsInByteOrder}
use Rattle.run_input.specs.Sources.{names_of}
use Rattle.run_input.proofs.InOrder.{without, file_rises, never}
use Rattle.run_input.proofs.read.read_entry.Goals as goal

pub returns-then-not-is_name-clause-order : goal.returns-then-not-is_name-clause-order
returns-then-not-is_name-clause-order g c = λ names ordered. without (names_of c.args.sources.now) c.args.name.now names ordered

pub returns-in-Ok-clause-order : goal.returns-in-Ok-clause-order
returns-in-Ok-clause-order g c = λ names ordered.
    file_rises c.args.sources.now c.args.name.now c.in-Ok.bytes.items names c.add.new.self c.add.result c.add.ensures.left ordered

pub returns-in-Err-TooLong-clause-order : goal.returns-in-Err-TooLong-clause-order
returns-in-Err-TooLong-clause-order g c = λ names ordered. never (IsInByteOrder (names_of c.args.sources.now ++ names)) c.refuse.result
    c.refuse.ensures.stops

pub returns-in-Err-Missing-clause-order : goal.returns-in-Err-Missing-clause-order
returns-in-Err-Missing-clause-order g c = λ names ordered. without (names_of c.args.sources.now) c.args.name.now names ordered
