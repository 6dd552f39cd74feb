use Rattle.std.proofs.Common.{map, length}
use Rattle.std.specs.List.{range_with_len}
use Rattle.site_settings.specs.declared.settings.PackageEntry.{PackageEntry}
use Rattle.problem.specs.declared.demand.Demand.TheVariants.{Setting}
use Rattle.problem.proofs.NumberLaws.{flat_step}
use Rattle.problem.proofs.demands.add_all_settings.Goals as goal

pub loop-entry-preserved : goal.loop-entry-preserved
loop-entry-preserved c = flat_step (λ (e : PackageEntry). map (Setting e.name) (range_with_len 0 (length e.require))) c.args.packages.now
    c.loop-entry.entry-index c.entry-item.result _ _ _ c.loop-entry-test.true c.entry-item.is
    (rw c.len.ensures at c.in_ok-add_settings.ensures) c.loop-entry.invariant
