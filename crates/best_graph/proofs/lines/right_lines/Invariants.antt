use Rattle.std.proofs.Common.{drop}
use Rattle.proof_log.specs.Lines.{AllLines}
use Rattle.proof_log.specs.Texts.{IsLine}
use Rattle.best_graph.proofs.lines.right_lines.Given as goal

abbrev pub invariant-loop-line : goal.invariant-loop-line
invariant-loop-line l = AllLines IsLine (drop l.line-index l.lines) → AllLines IsLine l.lines
