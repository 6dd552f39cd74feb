use Rattle.std.proofs.Common.{◌-◌, length, arith}
use Rattle.std.proofs.lemmas.Bool.{ltb-true}
use Rattle.clause_store.specs.Lits.{var_of}
use Rattle.clause_store.proofs.Places.{below-last}
use Rattle.clause_store.proofs.clause.ends_below.Goals as goal

pub returns : goal.returns
returns c t = below-last (var_of c.args.lit) c.args.lits.now (length c.args.lits.now - 1) _ c.requires (omega arith) (ltb-true _ _ t)
