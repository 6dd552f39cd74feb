use Rattle.clause_formulas.proofs.Words.{eval-opposite, eval-all_of, eval-both, eval-implies, eval-one_of, all_of-below, one_of-below}
use Rattle.clause_formulas.proofs.theorems.word_laws.Goals as goal

pub returns : goal.returns
returns c = record {
  negated = eval-opposite;
  all = eval-all_of;
  both = eval-both;
  implies = eval-implies;
  one = eval-one_of;
  all_in_range = all_of-below;
  one_in_range = one_of-below;
}
