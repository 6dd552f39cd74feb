use Rattle.std.proofs.Common.{sym}
use Rattle.spec_grammar.proofs.PartLaws.{target_range, target_alone}
use Rattle.spec_grammar.proofs.values_set.target_of.Goals as goal

pub returns-in_ok-end_of-in-Some-2 : goal.returns-in_ok-end_of-in-Some-2
returns-in_ok-end_of-in-Some-2 c =
    let cut = c.in-Some.ensures in
    rw (c.in_ok-end_of-in-Some.ensures, c.in_ok-end_of-in-Some-2.ensures, cut.1, cut.2) (sym (target_range c.args.text.now cut.0))

pub returns-in_ok-truth-in-None : goal.returns-in_ok-truth-in-None
returns-in_ok-truth-in-None c = rw c.in_ok-truth-in-None.ensures (sym (target_alone c.args.text.now c.in-None.ensures))
