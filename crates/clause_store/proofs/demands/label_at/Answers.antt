use Rattle.std.proofs.Common.{rules, ltb, sym, arith}
use Rattle.std.proofs.lemmas.List.Sorted.{IsPartitionPoint-from_clause}
use Rattle.clause_store.specs.declared.demands.Demanded.{Demanded}
use Rattle.clause_store.proofs.Labels.{demands-parted, label-there, label-absent}
use Rattle.clause_store.proofs.demands.label_at.Goals as goal

pub returns-then-at-demands : goal.returns-then-at-demands
returns-then-at-demands c =
    let point = IsPartitionPoint-from_clause (λ (d : Demanded). ltb d.place c.args.place) _ _ c.partition_point-at.ensures.partitioned
    (demands-parted c.args.place _ c.requires) (λ a r q k. search rules) in
    sym (label-absent c.args.place _ (record { place = 0; demand = 0 }) _ c.requires point (λ h e. absurd (omega arith)))

pub returns-then-found-place : goal.returns-then-found-place
returns-then-found-place c = sym (label-there c.args.place _ _ _ c.requires c.if-at-demands.false c.if-found-place.true)

pub returns-else-found-place : goal.returns-else-found-place
returns-else-found-place c =
    let point = IsPartitionPoint-from_clause (λ (d : Demanded). ltb d.place c.args.place) _ _ c.partition_point-at.ensures.partitioned
    (demands-parted c.args.place _ c.requires) (λ a r q k. search rules) in
    sym (label-absent c.args.place _ (record { place = 0; demand = 0 }) _ c.requires point (λ h e. c.if-found-place.false e))
