use Rattle.std.proofs.Common.{rules, ltb}
use Rattle.std.proofs.lemmas.List.Sorted.{IsPartitionPoint-from_clause}
use Rattle.clause_store.specs.Lits.{var_of}
use Rattle.clause_store.proofs.Places.{clause-parted, place-parted}
use Rattle.clause_store.proofs.clause.find_place.Goals as goal

pub returns : goal.returns
returns c =
    let n = var_of c.args.lit in
    let point = IsPartitionPoint-from_clause (λ k. ltb (var_of k) n) _ _ c.partition_point.ensures.partitioned
    (clause-parted n _ c.requires) (λ a r q k. search rules) in
    place-parted _ c.args.lit _ c.partition_point.ensures.bound point
