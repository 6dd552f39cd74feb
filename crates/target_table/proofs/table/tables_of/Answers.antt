use Rattle.std.proofs.lemmas.List.{length-map}
use Rattle.reachability.proofs.HeadLaws.{numbers_within}
use Rattle.target_table.specs.declared.entry.TargetEntry.{TargetEntry}
use Rattle.target_table.proofs.TableLaws.{table_of, no_cycle, own_ancestor}
use Rattle.target_table.proofs.table.tables_of.Goals as goal

pub new-requires : goal.new-requires
new-requires c = rw (c.as_slice.ensures.value, ← length-map c.args.entries.now (λ (e : TargetEntry). e.name))
    (numbers_within _ _ _ c.in_ok-arcs.ensures.arcs)

pub returns-then-has_cycle-clause-fault : goal.returns-then-has_cycle-clause-fault
returns-then-has_cycle-clause-fault c =
    let table = table_of c.args.entries.now c.in_ok-places.ensures.once _ c.in_ok-arcs.ensures.arcs _ c.as_slice.ensures.value _
    c.in_ok-ancestors.ensures in
    let on = c.if-has_cycle.ensures in
    (c.in_ok-places.ensures.once, c.in_ok-arcs.ensures.known, own_ancestor c.args.entries.now _ table on.0 on.1 on.2)

pub returns-clause-ancestors : goal.returns-clause-ancestors
returns-clause-ancestors c = table_of c.args.entries.now c.in_ok-places.ensures.once _ c.in_ok-arcs.ensures.arcs _ c.as_slice.ensures.value
    _ c.in_ok-ancestors.ensures

pub returns-clause-targets : goal.returns-clause-targets
returns-clause-targets c =
    let table = table_of c.args.entries.now c.in_ok-places.ensures.once _ c.in_ok-arcs.ensures.arcs _ c.as_slice.ensures.value _
    c.in_ok-ancestors.ensures in
    record {
      once = c.in_ok-places.ensures.once;
      known = c.in_ok-arcs.ensures.known;
      acyclic =
          no_cycle c.args.entries.now _ table c.if-has_cycle.ensures;
    }
