use Rattle.std.proofs.Common.{sym, ◌∙◌}
use Rattle.clause_store.proofs.Meaning.{AllBelow-clause_of}
use Rattle.clause_rows.proofs.sums.of_clause.Goals as goal

pub add-requires : goal.add-requires
add-requires c = AllBelow-clause_of c.args.clauses.now.vars c.args.lits.now _ c.requires (sym c.in_ok-clause.ensures ∙ c.in-Some.is)
