-- When each fault is given.
use Rattle.std.specs.Prelude.{◌≡◌, ◌≢◌, ℕ, List, [], Some}
use Rattle.version_order.specs.Fronts.{IsBadAt}
use Rattle.version_order.specs.Signs.{IsVersion}
use Rattle.version_order.specs.Items.{IsList, Reads, first_empty}
use Rattle.version_order.specs.declared.item.Item.{Item}
use Rattle.version_order.specs.declared.fault.VersionFault.{VersionFault}
use Rattle.version_order.specs.declared.fault.VersionFault.TheVariants as version
use Rattle.version_order.specs.declared.fault.VersionSetFault.{VersionSetFault}
use Rattle.version_order.specs.declared.fault.VersionSetFault.TheVariants as set

abbrev pub IsVersionFault : List ℕ → VersionFault → Type 0
IsVersionFault text version.Empty = text ≡ []
IsVersionFault text (version.BadByte p) = (text ≢ []) × IsBadAt IsVersion text p
IsVersionFault text version.OutOfMemory = Unit {0}

abbrev pub IsSetFault : List ℕ → VersionSetFault → Type 0
IsSetFault text set.Empty = text ≡ []
IsSetFault text (set.BadByte p) = (text ≢ []) × IsBadAt IsList text p
IsSetFault text (set.EmptyRange p) = (items : List Item) × Reads text items × (first_empty 0 items ≡ Some p)
IsSetFault text set.OutOfMemory = Unit {0}
