-- A file of settings has two bytes for each thing that is counted in them.
use Rattle.std.proofs.Common.{◌≡◌, refl, ap, ℕ, ◌+◌, ◌*◌, ◌≤◌, List, [], ◌∷◌, length, Option, Some, None, Ok, codes, arith}
use Rattle.std.specs.List.{sum_by}
use Rattle.serde_json.specs.Data.{Data, Members, no_members}
use Rattle.json_readers.specs.Faults.{Reading}
use Rattle.json_readers.specs.Objects.{known}
use Rattle.file_limits.specs.Weights.{weight, members_weight, weight_at}
use Rattle.file_limits.specs.WeightBounds.{TextsBearWeight, KeysShareWeight}
use Rattle.json_readers.proofs.Steps.{bind_ok, known_ok}
use Rattle.json_readers.proofs.Steps as step
use Rattle.file_limits.specs.SpecSizes.{TextsBearValues}
use Rattle.target_table.specs.Faults.{fault_of}
use Rattle.target_table.specs.declared.entry.TargetEntry.{TargetEntry}
use Rattle.target_table.specs.declared.fault.TargetFault.{TargetFault}
use Rattle.settings_reader.specs.Keys.{platform_at, budget_at, os_at, target_entries_at, compilers_at, provider_entries_at, provided_together_at}
use Rattle.settings_reader.specs.Order.{head_of, tail_of}
use Rattle.settings_reader.specs.Packages.{ArePackagesAt}
use Rattle.settings_reader.specs.Settings.{IsSettings, table_or, settings_keys}
use Rattle.site_settings.specs.declared.settings.PackageEntry.{PackageEntry}
use Rattle.site_settings.specs.declared.settings.Settings.{Settings}
use Rattle.problem.specs.Limits.{provider_names, size_of_settings}
use Rattle.site_settings.specs.Standard.{standard}
use Rattle.file_limits.specs.SettingsSizes.{FilesBearSettings}
use Rattle.file_limits.proofs.Externals.{packages_at_most}
use Rattle.file_limits.proofs.Lists.{compilers_at_most, os_at_most, providers_at_most, targets_at_most}
use Rattle.settings_reader.proofs.Outcomes.{ok_no, ok_same, said_ok, then_ok}
use Rattle.file_limits.proofs.Outcomes.{AtMost}

-- the types of what is read before the table of targets and behind it, which their crate keeps to itself
abbrev read : {T : Type 0} → Reading T → Type 0
read {T = T} reading = T

abbrev Head : Type 0
Head = read (head_of no_members)

abbrev Tail : Type 0
Tail = read (tail_of no_members)

-- ---- the keys before the table of targets, and behind it

head_most : (ms : Members) (head : Head) → head_of ms ≡ Ok head
    → 2 * length head.os + 2 * length head.targets ≤ weight_at ms (codes "os") + weight_at ms (codes "targets") + 4
unfolding head_of
head_most ms head e =
    let platform = bind_ok (platform_at ms) _ head e in
    let budget = bind_ok (budget_at ms) _ head platform.2 in
    let os = bind_ok (os_at ms) _ head budget.2 in
    let targets = bind_ok (target_entries_at ms) _ head os.2 in
    let same = step.ok_same _ head targets.2 in
    omega (
      arith,
      os_at_most ms os.0 os.1,
      targets_at_most ms targets.0 targets.1,
      ap (λ (h : Head). length h.os) same,
      ap (λ (h : Head). length h.targets) same,
    )

tail_most : (ms : Members) (tail : Tail) → tail_of ms ≡ Ok tail
    → 2 * length tail.compilers + 2 * sum_by provider_names tail.providers
    ≤ weight_at ms (codes "compilers") + weight_at ms (codes "providers") + 2
unfolding tail_of
tail_most ms tail e =
    let compilers = bind_ok (compilers_at ms) _ tail e in
    let providers = bind_ok (provider_entries_at ms) _ tail compilers.2 in
    let together = bind_ok (provided_together_at ms) _ tail providers.2 in
    let same = step.ok_same _ tail together.2 in
    omega (
      arith,
      compilers_at_most ms compilers.0 compilers.1,
      providers_at_most ms providers.0 providers.1,
      ap (λ (t : Tail). length t.compilers) same,
      ap (λ (t : Tail). sum_by provider_names t.providers) same,
    )

table_same : (entries targets : List TargetEntry) (fault : Option TargetFault) → Ok targets ≡ table_or entries fault → targets ≡ entries
table_same entries targets None e = ok_same targets entries e
table_same entries targets (Some fault) e = absurd (ok_no targets _ e)

-- ---- settings

abbrev counted : List (List ℕ)
counted = codes "os" ∷ codes "targets" ∷ codes "compilers" ∷ codes "providers" ∷ codes "packages" ∷ []

counted_sum : (f : List ℕ → ℕ) → sum_by f counted
    ≡ f (codes "os") + f (codes "targets") + f (codes "compilers") + f (codes "providers") + f (codes "packages")
counted_sum f = omega arith

abbrev settings_with : Head → List TargetEntry → Tail → List PackageEntry → Settings
settings_with head targets tail packages = record {
  platform = head.platform;
  conflict_budget = head.conflict_budget;
  os = head.os;
  targets = targets;
  compilers =
      tail.compilers;
  providers = tail.providers;
  provided_together = tail.provided_together;
  packages = packages;
}

parts_most : TextsBearValues → KeysShareWeight → (ms : Members) (head : Head) (targets : List TargetEntry) (tail : Tail)
    (packages : List PackageEntry) (settings : Settings) → head_of ms ≡ Ok head → targets ≡ head.targets → tail_of ms ≡ Ok tail
    → ArePackagesAt head.platform ms (Ok packages) → settings ≡ settings_with head targets tail packages
    → 2 * size_of_settings settings ≤ members_weight ms + 6
parts_most bear share ms head targets tail packages settings first same second entries is =
    omega (
      arith,
      share counted ms refl,
      counted_sum (weight_at ms),
      head_most ms head first,
      ap length same,
      tail_most ms tail second,
      packages_at_most bear head.platform ms packages entries,
      ap size_of_settings is,
    )

settings_most : TextsBearValues → KeysShareWeight → (d : Data) → AtMost (λ s. 2 * size_of_settings s) (weight d + 6) (IsSettings d)
settings_most bear share d settings h =
    let ms = then_ok _ _ settings h in
    let head = then_ok _ _ settings ms.2 in
    let targets = then_ok _ _ settings head.2 in
    let tail = then_ok _ _ settings targets.2 in
    let packages = then_ok (ArePackagesAt head.0.platform ms.0) _ settings tail.2 in
    let within = parts_most bear share ms.0 head.0 targets.0 tail.0 packages.0 settings (said_ok (head_of ms.0) head.0 head.1)
    (table_same head.0.targets targets.0 (fault_of head.0.targets) targets.1) (said_ok (tail_of ms.0) tail.0 tail.1) packages.1
    (ok_same settings (settings_with head.0 targets.0 tail.0 packages.0) packages.2) in
    omega (arith, within, ap weight (known_ok settings_keys d ms.0 (said_ok (known settings_keys d) ms.0 ms.1)))

-- a file has two bytes for each thing that is counted in its settings, but for six
pub files-bear-settings : TextsBearWeight → KeysShareWeight → TextsBearValues → FilesBearSettings
files-bear-settings texts share bear bytes settings (d, json, is) =
    omega (arith, texts bytes d json, settings_most bear share d settings is)

-- the standard settings count no more than three
pub standard-is-small : 2 * size_of_settings standard ≤ 6
standard-is-small = omega arith
