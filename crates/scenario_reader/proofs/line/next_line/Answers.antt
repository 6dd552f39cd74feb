use Rattle.std.proofs.Common.{rules}
use Rattle.scenario_reader.proofs.Lines.{cut_line, cut_last}
use Rattle.scenario_reader.proofs.line.next_line.Goals as goal

pub returns-then-is_empty-clause-lines : goal.returns-then-is_empty-clause-lines
returns-then-is_empty-clause-lines c = cut_last c.args.text.now _ c.split_at.result.1.now _ c.line_len.ensures.run c.line_len.ensures.bound
    c.split_at.ensures.front c.split_at.ensures.back (search rules) c.requires

pub returns-clause-lines : goal.returns-clause-lines
returns-clause-lines c = cut_line c.args.text.now _ c.split_at.result.1.now _ _ c.line_len.ensures.run c.split_at.ensures.front
    c.split_at.ensures.back c.split_at-2.ensures.back (search rules)
