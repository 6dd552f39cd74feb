-- What is answered and said where input is refused.
use Rattle.std.specs.Prelude.{ℕ, List, [], ◌∷◌, codes, decimal}
use Rattle.run_answers.specs.SpecFault.{SpecFault}
use Rattle.run_answers.specs.SettingsFault.{SettingsFault}
use Rattle.run_answers.specs.RecipeFault.{RecipeFault}
use Rattle.run_answers.specs.DbFault.{DbFault}
use Rattle.run_answers.specs.DatabaseTexts as database
use Rattle.run_answers.specs.LockFault.{LockFault}
use Rattle.run_answers.specs.LockFault.TheVariants as faults
use Rattle.run_answers.specs.Rule.{Rule}
use Rattle.run_answers.specs.FaultTexts.{spec_fault_text, settings_fault_text, recipe_fault_text, lock_fault_text, rule_name}
use Rattle.run_answers.specs.Lines.{joined_texts, line}
use Rattle.run_answers.specs.declared.line_fault.LineFault.{LineFault}
use Rattle.run_answers.specs.declared.line_fault.LineFault.TheVariants as line_faults
use Rattle.run_answers.specs.declared.root_fault.RootFault.{RootFault}
use Rattle.run_answers.specs.declared.root_fault.RootFault.TheVariants as root_faults
use Rattle.run_answers.specs.declared.refusal.Refusal.{Refusal}
use Rattle.run_answers.specs.declared.refusal.Refusal.TheVariants as refusals
use Rattle.run_answers.specs.declared.status.Status.{Status}
use Rattle.run_answers.specs.declared.status.Status.TheVariants as statuses

-- what a fault of a lock file is answered by: it is no lock file at all, or one that is refused
abbrev pub lock_status : LockFault → Status
lock_status faults.NotJson = statuses.BadInput
lock_status (faults.WrongKind at) = statuses.BadInput
lock_status (faults.TwiceNamed name) = statuses.Refused
lock_status (faults.HashDiffers written computed) = statuses.Refused
lock_status (faults.Dangling parent child) = statuses.Refused
lock_status faults.OutOfMemory = statuses.BadInput

abbrev pub status_of : Refusal → Status
status_of refusals.DatabaseTooLarge = statuses.TooLarge
status_of (refusals.BadDatabase fault) = statuses.BadInput
status_of (refusals.MissingInput path) = statuses.BadInput
status_of refusals.SettingsTooLarge = statuses.TooLarge
status_of (refusals.BadSettings fault) = statuses.BadInput
status_of refusals.TooManyRecipes = statuses.TooLarge
status_of (refusals.RecipeTooLarge name) = statuses.TooLarge
status_of refusals.RecipesTooLarge = statuses.TooLarge
status_of (refusals.BadRecipe name fault) = statuses.BadInput
status_of (refusals.NameClash name) = statuses.BadInput
status_of refusals.SpecsTooLarge = statuses.TooLarge
status_of (refusals.BadSpecs e) = statuses.BadInput
status_of refusals.TooManyRoots = statuses.TooLarge
status_of (refusals.UnknownRoot name) = statuses.BadInput
status_of (refusals.VirtualRoot name) = statuses.BadInput
status_of (refusals.WrongPlatform platform) = statuses.BadInput
status_of refusals.TooManyPackages = statuses.TooLarge
status_of refusals.LockTooLarge = statuses.TooLarge
status_of (refusals.BadLock fault) = lock_status fault
status_of refusals.OtherRoots = statuses.Refused
status_of (refusals.BrokenRule rule node number) = statuses.Refused
status_of refusals.CertificateTooLarge = statuses.TooLarge
status_of (refusals.BadCertificate number fault) = statuses.Refused
status_of (refusals.InRoot root fault) = statuses.Refused

unfoldable pub missing_line : List ℕ → List ℕ
missing_line path = line (codes "bad input: missing " ∷ path ∷ [])

unfoldable pub bad_settings_line : SettingsFault → List ℕ
bad_settings_line fault = line (codes "bad input: settings: " ∷ settings_fault_text fault ∷ [])

unfoldable pub bad_recipe_line : List ℕ → RecipeFault → List ℕ
bad_recipe_line name fault = line (codes "bad input: recipe " ∷ name ∷ codes ": " ∷ recipe_fault_text fault ∷ [])

unfoldable pub bad_database_line : DbFault → List ℕ
bad_database_line fault = line (codes "bad input: database: " ∷ database.fault_text fault ∷ [])

unfoldable pub bad_specs_line : SpecFault → List ℕ
bad_specs_line fault = line (codes "bad input: specs: " ∷ spec_fault_text fault ∷ [])

unfoldable pub unknown_line : List ℕ → List ℕ
unknown_line name = line (codes "bad input: specs: UnknownRoot " ∷ name ∷ [])

unfoldable pub clash_line : List ℕ → List ℕ
clash_line name = line (codes "bad input: names: NameClash " ∷ name ∷ [])

unfoldable pub virtual_line : List ℕ → List ℕ
virtual_line name = line (codes "bad input: specs: VirtualRoot " ∷ name ∷ [])

unfoldable pub platform_line : List ℕ → List ℕ
platform_line platform = line (codes "bad input: specs: WrongPlatform " ∷ platform ∷ [])

abbrev pub lock_front : LockFault → List ℕ
lock_front faults.NotJson = codes "bad input: lock: "
lock_front (faults.WrongKind at) = codes "bad input: lock: "
lock_front (faults.TwiceNamed name) = codes "refused: lock "
lock_front (faults.HashDiffers written computed) = codes "refused: lock "
lock_front (faults.Dangling parent child) = codes "refused: lock "
lock_front faults.OutOfMemory = codes "bad input: lock: "

unfoldable pub bad_lock_line : LockFault → List ℕ
bad_lock_line fault = line (lock_front fault ∷ lock_fault_text fault ∷ [])

unfoldable pub broken_line : Rule → List ℕ → ℕ → List ℕ
broken_line rule node number = line (codes "refused: graph " ∷ rule_name rule ∷ codes " " ∷ node ∷ codes " " ∷ decimal number ∷ [])

unfoldable pub too_large_line : List ℕ → List ℕ
too_large_line name = line (codes "too large: recipe " ∷ name ∷ [])

abbrev pub line_fault_name : LineFault → List ℕ
line_fault_name line_faults.BadLine = codes "BadLine"
line_fault_name line_faults.WrongCounts = codes "WrongCounts"
line_fault_name line_faults.OutOfOrder = codes "OutOfOrder"
line_fault_name line_faults.UnknownId = codes "UnknownId"
line_fault_name line_faults.NoPivot = codes "NoPivot"
line_fault_name line_faults.TwoPivots = codes "TwoPivots"
line_fault_name line_faults.NotContained = codes "NotContained"
line_fault_name line_faults.WrongBit = codes "WrongBit"
line_fault_name line_faults.NotNew = codes "NotNew"
line_fault_name line_faults.Unfinished = codes "Unfinished"

unfoldable pub bad_certificate_line : ℕ → LineFault → List ℕ
bad_certificate_line number fault =
    line (codes "refused: certificate line " ∷ decimal number ∷ codes " " ∷ line_fault_name fault ∷ [])

-- of the lock file or the certificate of one root of many: what is said of one alone, with the root's number behind `refused: `
unfoldable pub other_root_line : ℕ → List ℕ
other_root_line root = line (codes "refused: root " ∷ decimal root ∷ codes ": roots" ∷ [])

unfoldable pub root_lock_line : ℕ → LockFault → List ℕ
root_lock_line root fault = line (codes "refused: root " ∷ decimal root ∷ codes ": lock " ∷ lock_fault_text fault ∷ [])

unfoldable pub root_rule_line : ℕ → Rule → List ℕ → ℕ → List ℕ
root_rule_line root rule node number =
    line (codes "refused: root " ∷ decimal root ∷ codes ": graph " ∷ rule_name rule ∷ codes " " ∷ node ∷ codes " " ∷ decimal number ∷ [])

unfoldable pub certificate_text : ℕ → LineFault → List ℕ
certificate_text number fault = joined_texts (codes "certificate line " ∷ decimal number ∷ codes " " ∷ line_fault_name fault ∷ [])

unfoldable pub root_certificate_line : ℕ → ℕ → LineFault → List ℕ
root_certificate_line root number fault = line (codes "refused: root " ∷ decimal root ∷ codes ": " ∷ certificate_text number fault ∷ [])

abbrev pub line_of_root : ℕ → RootFault → List ℕ
line_of_root root root_faults.Root = other_root_line root
line_of_root root (root_faults.Lock fault) = root_lock_line root fault
line_of_root root (root_faults.Rule rule node number) = root_rule_line root rule node number
line_of_root root (root_faults.Certificate number fault) = root_certificate_line root number fault

-- the line that is said
unfoldable pub line_of_refusal : Refusal → List ℕ
line_of_refusal refusals.DatabaseTooLarge = line (codes "too large: database" ∷ [])
line_of_refusal (refusals.BadDatabase fault) = bad_database_line fault
line_of_refusal (refusals.MissingInput path) = missing_line path
line_of_refusal refusals.SettingsTooLarge = line (codes "too large: settings" ∷ [])
line_of_refusal (refusals.BadSettings fault) = bad_settings_line fault
line_of_refusal refusals.TooManyRecipes = line (codes "too large: recipes" ∷ [])
line_of_refusal (refusals.RecipeTooLarge name) = too_large_line name
line_of_refusal refusals.RecipesTooLarge = line (codes "too large: recipe bytes" ∷ [])
line_of_refusal (refusals.BadRecipe name fault) = bad_recipe_line name fault
line_of_refusal (refusals.NameClash name) = clash_line name
line_of_refusal refusals.SpecsTooLarge = line (codes "too large: specs" ∷ [])
line_of_refusal (refusals.BadSpecs fault) = bad_specs_line fault
line_of_refusal refusals.TooManyRoots = line (codes "too large: roots" ∷ [])
line_of_refusal (refusals.UnknownRoot name) = unknown_line name
line_of_refusal (refusals.VirtualRoot name) = virtual_line name
line_of_refusal (refusals.WrongPlatform platform) = platform_line platform
line_of_refusal refusals.TooManyPackages = line (codes "too large: packages" ∷ [])
line_of_refusal refusals.LockTooLarge = line (codes "too large: lock" ∷ [])
line_of_refusal (refusals.BadLock fault) = bad_lock_line fault
line_of_refusal refusals.OtherRoots = line (codes "refused: roots" ∷ [])
line_of_refusal (refusals.BrokenRule rule node number) = broken_line rule node number
line_of_refusal refusals.CertificateTooLarge = line (codes "too large: certificate" ∷ [])
line_of_refusal (refusals.BadCertificate number fault) = bad_certificate_line number fault
line_of_refusal (refusals.InRoot root fault) = line_of_root root fault

-- ---- one root of many

abbrev pub lock_in_root_by : Status → ℕ → LockFault → Refusal
lock_in_root_by statuses.Refused root fault = refusals.InRoot root (root_faults.Lock fault)
lock_in_root_by other root fault = refusals.BadLock fault

-- a fault of one lock file as that of a root's
abbrev pub lock_in_root : ℕ → LockFault → Refusal
lock_in_root root fault = lock_in_root_by (lock_status fault) root fault

-- a refusal of the lock file or the certificate of the root with this number: one that is Refused says which root, any other is as it is
abbrev pub in_root : ℕ → Refusal → Refusal
in_root root refusals.OtherRoots = refusals.InRoot root root_faults.Root
in_root root (refusals.BadLock fault) = lock_in_root root fault
in_root root (refusals.BrokenRule rule node number) = refusals.InRoot root (root_faults.Rule rule node number)
in_root root (refusals.BadCertificate number fault) = refusals.InRoot root (root_faults.Certificate number fault)
in_root root other = other
