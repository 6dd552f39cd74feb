use Rattle.std.proofs.Common.{◌≡◌, refl}
use Rattle.target_table.specs.declared.fault.TargetFault.TheVariants.{OutOfMemory}
use Rattle.site_settings.specs.Standard.{targets}
use Rattle.site_settings.proofs.StandardTargets.{only_memory}
use Rattle.site_settings.proofs.standard.want_of_memory.Goals as goal

pub unreachable-requires : goal.unreachable-requires
unreachable-requires c =
    let fault = c.args.fault in
    let h : fault ≡ OutOfMemory = only_memory targets fault refl (c.fault_laws.ensures.one targets fault c.requires) in
    c.in_default.not-OutOfMemory h
