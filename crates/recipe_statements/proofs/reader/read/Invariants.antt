use Rattle.std.proofs.Common.{◌≡◌, ◌≤◌}
use Rattle.recipe_statements.specs.Inside.{view, whole}
use Rattle.recipe_statements.proofs.reader.read.Given as goal

abbrev pub invariant-loop-i : goal.invariant-loop-i
invariant-loop-i l = (l.reader.first ≤ l.i) × (l.reader.passed ≤ l.i)
    × (whole l.bytes l.tokens l.i (view l.reader) ≡ whole l.bytes l.tokens 0 (view l.fn.reader))
