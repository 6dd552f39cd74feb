use Rattle.outside_desk.proofs.Writings.{AppendsGone}
use Rattle.outside_desk.proofs.real_files.write_whole.Given as goal

abbrev pub invariant-writings : goal.invariant-writings
invariant-writings g l = AppendsGone (g.W.Write.contents l.fn.writer) (g.W.Write.contents l.writer) l.bytes l.rest
