use Rattle.std.proofs.Common.{sym, subst}
use Rattle.log_checker.specs.Links.{AreIndexed}
use Rattle.log_checker.proofs.Links.{indexed-push}
use Rattle.log_checker.proofs.store.Store.add.Goals as goal

pub invariant_of-self-2 : goal.invariant_of-self-2
invariant_of-self-2 c = (
  c.self.invariant.0,
  subst (AreIndexed c.self.inside.factor c.self.inside.heads.items c.self.inside.links.items) (sym c.in_ok-push.ensures.ok) (
      indexed-push c.self.inside.factor c.self.inside.heads.items c.self.inside.links.items c.self.inside.known
      (record { clause = c.args.lits.now; by_bit = c.args.by_bit }) c.self.invariant.1),
)
