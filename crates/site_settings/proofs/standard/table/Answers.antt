use Rattle.std.proofs.Common.{List, subst}
use Rattle.target_table.specs.Targets.{IsTargetFault}
use Rattle.target_table.specs.declared.entry.TargetEntry.{TargetEntry}
use Rattle.site_settings.proofs.standard.table.Goals as goal

pub want_of_memory-requires : goal.want_of_memory-requires
want_of_memory-requires c = subst (λ (entries : List TargetEntry). IsTargetFault entries c.in-Err.fault) c.in_ok-targets.ensures
    c.in-Err.ensures.fault
