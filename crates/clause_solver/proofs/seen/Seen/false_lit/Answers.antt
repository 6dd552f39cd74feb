use Rattle.std.proofs.Common.{◌∙◌, refl, sym}
use Rattle.clause_watch.proofs.Meaning.{value-free}
use Rattle.clause_solver.proofs.Listing.{false-lit}
use Rattle.clause_solver.proofs.seen.Seen.false_lit.Goals as goal

pub returns-in-Some : goal.returns-in-Some
returns-in-Some c = (
  refl,
  sym c.has.ensures
      ∙ c.if-not-has.false,
  false-lit c.args.watch.now.placed c.args.var _ c.in-Some.value refl refl c.in-Some.ensures,
)

pub returns-in-None : goal.returns-in-None
returns-in-None c = λ t. value-free c.args.watch.now.placed c.args.var (sym c.in-None.ensures)
