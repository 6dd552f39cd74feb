use Rattle.std.proofs.Common.{◌≡◌, drop}
use Rattle.scenario_reader.specs.Quotes.{unquoted}
use Rattle.scenario_reader.specs.declared.quote_step.Mode.TheVariants.{Start}
use Rattle.scenario_reader.proofs.quote.read_parts.Given as goal

abbrev pub invariant-loop-b : goal.invariant-loop-b
invariant-loop-b l = unquoted l.mode (l.quote.made.items, l.quote.part.items) (drop l.b-index l.line)
    ≡ unquoted Start (l.initial.quote.made.items, l.initial.quote.part.items) l.line
