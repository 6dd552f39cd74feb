-- What a file says of packages weighs two for each external, for each value of its variants, and for each requirement.
use Rattle.std.proofs.Common.{◌≡◌, refl, ap, ℕ, ◌+◌, ◌*◌, ◌≤◌, List, [], ◌∷◌, length, Option, Some, None, Result, Ok, Err, codes, arith}
use Rattle.std.proofs.lemmas.Option.{none-some}
use Rattle.std.proofs.lemmas.List.Sums.{sum_by-cons}
use Rattle.std.specs.List.{sum_by}
use Rattle.serde_json.specs.Data.{Data, null, boolean, number, string, array, object, Members}
use Rattle.serde_json.specs.Find.{get_member}
use Rattle.json_readers.specs.Maps.{named}
use Rattle.json_readers.specs.Objects.{known, need}
use Rattle.json_readers.specs.Texts.{text_of}
use Rattle.json_texts.specs.Forms.{name_meaning}
use Rattle.file_limits.specs.Weights.{weight, weight_at}
use Rattle.file_limits.proofs.Keys.{key-weight, keys-share}
use Rattle.file_limits.proofs.Readers.{CountsWithin, need-counts}
use Rattle.json_readers.proofs.Steps.{known_ok, named_ok}
use Rattle.spec_grammar.specs.Meaning.{empty_part}
use Rattle.spec_grammar.specs.declared.mode.Mode.TheVariants.{Specs}
use Rattle.spec_grammar.specs.declared.part.Spec.{Spec}
use Rattle.spec_grammar.specs.declared.fault.SpecFault.{SpecFault}
use Rattle.file_limits.specs.SpecSizes.{spec_values, all_values, TextsBearValues}
use Rattle.settings_reader.specs.Told.{Below}
use Rattle.settings_reader.specs.Parsed.{IsListAt, IsOptional}
use Rattle.settings_reader.specs.Externals.{IsDescribed, IsExternal, IsReadAs, described_of, is_alone, only_described, parts_of, with_prefix}
use Rattle.settings_reader.specs.Externals as external
use Rattle.settings_reader.specs.Packages as packages
use Rattle.settings_reader.specs.Required.{AreRequiredAt}
use Rattle.settings_reader.specs.Packages.{ArePackages, ArePackagesAt, IsPackage}
use Rattle.site_settings.specs.declared.settings.ExternalEntry.{ExternalEntry}
use Rattle.site_settings.specs.declared.settings.PackageEntry.{PackageEntry}
use Rattle.problem.specs.Limits.{variant_members, external_members, size_of_package}
use Rattle.settings_reader.proofs.Outcomes.{below_ok, ok_no, ok_same, said_ok, then_ok}
use Rattle.settings_reader.proofs.Valued.{part_variants, some_if, some_described}
use Rattle.file_limits.proofs.Outcomes.{AtMost, listed_at_most, members_at_most, optional_at_most}
use Rattle.file_limits.proofs.Required.{required_at_most}
use Rattle.file_limits.proofs.Sums.{sum-twice, sum-twice-each}

-- ---- what one spec says

-- the type of what a spec says of a node, which its crate keeps to itself
abbrev inside : {T : Type 0} → Option T → Type 0
inside {T = T} o = T

abbrev Described : Type 0
Described = inside (parts_of (empty_part None))

only_most : (name platform : List ℕ) (specs : List Spec) (d : Described) → only_described name platform specs ≡ Some d
    → variant_members d.variants ≤ all_values specs
only_most name platform [] d e = absurd (none-some d e)
only_most name platform (spec ∷ []) d e =
    let same = part_variants spec.top d (some_if (is_alone name platform spec) (parts_of spec.top) d e) in
    omega (arith, ap variant_members same, sum_by-cons spec_values spec [])
only_most name platform (spec ∷ other ∷ specs) d e = absurd (none-some d e)

read_most : TextsBearValues → (name platform text : List ℕ) (d : Described) (read : Result (List Spec) SpecFault) → IsReadAs text read
    → Ok d ≡ described_of name platform read → 2 * variant_members d.variants ≤ length text
read_most bear name platform text d (Ok specs) spells is =
    omega (
      arith,
      bear Specs text specs spells,
      only_most name platform specs d (some_described (only_described name platform specs) d is),
    )
read_most bear name platform text d (Err fault) right is = absurd (ok_no d _ is)

-- ---- externals

-- a text as it stands weighs its length
text_most : CountsWithin (λ text. length text + 2) (text_of Some)
text_most null text e = absurd cc
text_most (boolean b) text e = absurd cc
text_most (number n) text e = absurd cc
text_most (string s) text e = let same : s ≡ text = cc in omega (arith, ap length same)
text_most (array ds) text e = absurd cc
text_most (object ms) text e = absurd cc

-- the external itself, and the values of its variants
abbrev external_size : ExternalEntry → ℕ
external_size entry = 2 * external_members entry + 2

external_most : TextsBearValues → (name platform : List ℕ) (d : Data) → AtMost external_size (weight d) (IsExternal name platform d)
external_most bear name platform d entry h =
    let ms = then_ok _ _ entry h in
    let text = then_ok _ _ entry ms.2 in
    let described = then_ok (Below (codes "spec") (IsDescribed name platform text.0)) _ entry text.2 in
    let prefix = then_ok _ _ entry described.2 in
    let told = below_ok (codes "spec") (IsDescribed name platform text.0) described.0 described.1 in
    omega (
      arith,
      ap weight (known_ok external.external_keys d ms.0 (said_ok (known external.external_keys d) ms.0 ms.1)),
      need-counts _ (text_of Some) text_most (codes "spec") ms.0 text.0 (said_ok (need (text_of Some) (codes "spec") ms.0) text.0 text.1),
      key-weight ms.0 (codes "spec"),
      read_most bear name platform text.0 described.0 told.read told.right told.is,
      ap external_members (ok_same entry (with_prefix described.0 prefix.0) prefix.2),
    )

-- ---- packages

abbrev counted : List (List ℕ)
counted = codes "externals" ∷ codes "require" ∷ []

counted_sum : (f : List ℕ → ℕ) → sum_by f counted ≡ f (codes "externals") + f (codes "require")
counted_sum f = omega arith

abbrev package_size : PackageEntry → ℕ
package_size entry = 2 * size_of_package entry

package_most : TextsBearValues → (name platform : List ℕ) (d : Data) → AtMost package_size (weight d) (IsPackage name platform d)
package_most bear name platform d entry h =
    let ms = then_ok _ _ entry h in
    let versions = then_ok _ _ entry ms.2 in
    let buildable = then_ok _ _ entry versions.2 in
    let externals = then_ok (IsListAt (IsExternal name platform) (codes "externals") ms.0) _ entry buildable.2 in
    let require = then_ok (AreRequiredAt ms.0) _ entry externals.2 in
    omega (
      arith,
      ap weight (known_ok packages.package_keys d ms.0 (said_ok (known packages.package_keys d) ms.0 ms.1)),
      listed_at_most external_size (IsExternal name platform) (external_most bear name platform) (codes "externals") ms.0 externals.0
          externals.1,
      required_at_most ms.0 require.0 require.1,
      keys-share counted ms.0 refl,
      counted_sum (weight_at ms.0),
      sum-twice-each external_members externals.0,
      ap size_of_package (ok_same entry _ require.2),
    )

packages_most : TextsBearValues → (platform : List ℕ) (d : Data) → AtMost (sum_by package_size) (weight d) (ArePackages platform d)
packages_most bear platform d entries h =
    let ms = then_ok _ _ entries h in
    omega (
      arith,
      ap weight (named_ok name_meaning d ms.0 (said_ok (named name_meaning d) ms.0 ms.1)),
      members_at_most package_size (λ name v. IsPackage name platform v) (λ name. package_most bear name platform) ms.0 entries ms.2,
    )

-- what is said of packages weighs two for each external and each of its values
pub packages_at_most : TextsBearValues → (platform : List ℕ) (ms : Members) (entries : List PackageEntry)
    → ArePackagesAt platform ms (Ok entries) → 2 * sum_by size_of_package entries ≤ weight_at ms (codes "packages")
packages_at_most bear platform ms entries h =
    let found = get_member (codes "packages") ms in
    omega (
      arith,
      optional_at_most package_size (ArePackages platform) (packages_most bear platform) found entries
          (below_ok (codes "packages") (IsOptional (ArePackages platform) found) entries h),
      sum-twice size_of_package entries,
    )
