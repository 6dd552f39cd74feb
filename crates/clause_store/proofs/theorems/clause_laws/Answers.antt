use Rattle.clause_store.proofs.Sets.{has-clause_of, IsClause-clause_of, none-both_signs, both_signs-none, same_clause}
use Rattle.clause_store.proofs.Meaning.{clause_of-Some, clause_of-None, AllBelow-clause_of}
use Rattle.clause_store.proofs.theorems.clause_laws.Goals as goal

pub returns : goal.returns
returns c = record {
  members = has-clause_of;
  in_order = IsClause-clause_of;
  in_range = AllBelow-clause_of;
  meaning = clause_of-Some;
  always = clause_of-None;
  both_signs = λ ls. (none-both_signs ls, both_signs-none ls);
  same = same_clause;
}
