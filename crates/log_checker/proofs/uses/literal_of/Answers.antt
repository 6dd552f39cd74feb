use Rattle.std.proofs.Common.{◌∙◌, true, ltb, rules, sym}
use Rattle.std.proofs.lemmas.List.Sorted.{IsPartitionPoint-from_clause}
use Rattle.clause_store.specs.Lits.{var_of}
use Rattle.clause_store.proofs.Places.{clause-parted, place-parted}
use Rattle.proof_log.proofs.Counting.{lit}
use Rattle.log_checker.proofs.Reused.{at-found, at-other, at-none}
use Rattle.log_checker.proofs.uses.literal_of.Goals as goal

pub returns-then-is_of : goal.returns-then-is_of
returns-then-is_of c =
    let n = c.args.var in
    let point = IsPartitionPoint-from_clause (λ k. ltb (var_of k) n) _ _ c.partition_point-place.ensures.partitioned
    (clause-parted n _ c.requires) (λ a r q k. search rules) in
    let place = place-parted _ (lit n true) _ c.partition_point-place.ensures.bound point in
    at-found c.args.lits.now n _ c.requires place c.in-Some.lit (sym c.lit_in.ensures ∙ c.in-Some.is) (sym c.is_of.ensures
    ∙ c.if-is_of.true)

pub returns-else-is_of : goal.returns-else-is_of
returns-else-is_of c =
    let n = c.args.var in
    let point = IsPartitionPoint-from_clause (λ k. ltb (var_of k) n) _ _ c.partition_point-place.ensures.partitioned
    (clause-parted n _ c.requires) (λ a r q k. search rules) in
    let place = place-parted _ (lit n true) _ c.partition_point-place.ensures.bound point in
    at-other c.args.lits.now n _ c.requires place c.in-Some.lit (sym c.lit_in.ensures ∙ c.in-Some.is) (sym c.is_of.ensures
    ∙ c.if-is_of.false)

pub returns-in-None : goal.returns-in-None
returns-in-None c =
    let n = c.args.var in
    let point = IsPartitionPoint-from_clause (λ k. ltb (var_of k) n) _ _ c.partition_point-place.ensures.partitioned
    (clause-parted n _ c.requires) (λ a r q k. search rules) in
    let place = place-parted _ (lit n true) _ c.partition_point-place.ensures.bound point in
    at-none c.args.lits.now n _ c.requires place (sym c.lit_in.ensures ∙ c.in-None.is)
