use Rattle.std.proofs.Common.{◌≡◌, ◌≤◌, drop}
use Rattle.recipe_statements.specs.Lines.{behind_bracket}
use Rattle.recipe_statements.proofs.token.behind.Given as goal

abbrev pub invariant-loop-i : goal.invariant-loop-i
invariant-loop-i l = (l.inner ≤ l.i) × (behind_bracket 0 l.tokens ≡ behind_bracket l.inner (drop l.i l.tokens))
