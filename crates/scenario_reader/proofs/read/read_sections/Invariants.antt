use Rattle.std.proofs.Common.{◌≡◌, ◌≤◌, ◌+◌, length}
use Rattle.scenario_reader.specs.Lines.{lines_of}
use Rattle.scenario_reader.specs.Sections.{sections_after, sections_of}
use Rattle.scenario_reader.proofs.read.read_sections.Given as goal

abbrev pub invariant-loop-rest : goal.invariant-loop-rest
invariant-loop-rest l = record {
  same : sections_after l.number l.draft (lines_of l.rest) ≡ sections_of l.text;
  count : l.number + length l.rest ≤ length l.text + 1;
}

abbrev pub decreases-loop-rest : goal.decreases-loop-rest
decreases-loop-rest l = length l.rest
