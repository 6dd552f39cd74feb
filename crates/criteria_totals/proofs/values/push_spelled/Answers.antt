use Rattle.criteria_totals.proofs.SpellingLaws.{spell-low, spell-high}
use Rattle.criteria_totals.proofs.values.push_spelled.Goals as goal

pub returns-then-top-le64 : goal.returns-then-top-le64
returns-then-top-le64 c = rw (spell-low c.args.top c.args.number c.if-top-le64.true) c.push_unary.ensures

pub returns-else-top-le64 : goal.returns-else-top-le64
returns-else-top-le64 c = rw (spell-high c.args.top c.args.number c.if-top-le64.false, ← c.size.ensures.value) c.push_binary.ensures
