-- The standard targets are a table.
use Rattle.std.proofs.Common.{◌≡◌, refl, ap, ◌∙◌, ◌⊎◌, inl, inr, List, Option, Some, None}
use Rattle.graph_core.specs.OfReachability.Paths.{spread, reached, reaches}
use Rattle.target_table.specs.Faults.{fault_of}
use Rattle.target_table.specs.declared.entry.TargetEntry.{TargetEntry}
use Rattle.target_table.specs.declared.fault.TargetFault.{TargetFault}
use Rattle.target_table.specs.declared.fault.TargetFault.TheVariants.{OutOfMemory}
use Rattle.site_settings.specs.Standard.{targets}

are_right : fault_of targets ≡ None
unfolding spread reached reaches
are_right = refl

none_is_some : (found : Option TargetFault) (fault : TargetFault) → found ≡ None → found ≡ Some fault → fault ≡ OutOfMemory
none_is_some found fault h k = cc

-- so only want of memory is left
pub only_memory : (entries : List TargetEntry) (fault : TargetFault) → entries ≡ targets → (fault ≡ OutOfMemory)
    ⊎ (fault_of entries ≡ Some fault) → fault ≡ OutOfMemory
only_memory entries fault is (inl h) = h
only_memory entries fault is (inr h) = none_is_some (fault_of entries) fault (ap fault_of is ∙ are_right) h
