use Rattle.std.proofs.Common.{sym}
use Rattle.clause_store.proofs.Entries.{at_id-both, at_id-no_entry}
use Rattle.clause_store.proofs.list.ClauseList.entry.Goals as goal

pub returns-in-Some-2 : goal.returns-in-Some-2
returns-in-Some-2 c =
    sym (at_id-both c.args.self.now.entries c.args.id _ _ (cc (c.in_ok-clause.ensures, c.in-Some-2.is))
    (cc (c.label.ensures, c.in-Some.is)))

pub returns-in-None : goal.returns-in-None
returns-in-None c = sym (at_id-no_entry c.args.self.now.entries c.args.id (cc (c.in_ok-clause.ensures, c.in-None.is)))
