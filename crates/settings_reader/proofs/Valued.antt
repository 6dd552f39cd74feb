-- Each variant that a file writes of an external has a value.
use Rattle.std.proofs.Common.{◌≡◌, refl, sym, ap, subst, ℕ, ◌<◌, Bool, true, false, List, [], ◌∷◌, length, Option, Some, None, option_map, option_and_then, Result, Ok, Err, codes, All, Contains, arith, if◌then◌else◌}
use Rattle.std.proofs.lemmas.Option.{none-some}
use Rattle.std.proofs.lemmas.List.Elements.{All-contains, All-weaker}
use Rattle.std.proofs.lemmas.List.Sums.{list_all-from_AllPass}
use Rattle.std.specs.List.{list_all}
use Rattle.reachability.proofs.CountLaws.{has_first}
use Rattle.serde_json.specs.Data.{Data, Members}
use Rattle.serde_json.specs.Find.{get_member}
use Rattle.spec_grammar.specs.Reading.{Spells}
use Rattle.spec_grammar.specs.Canonical.{AreValued}
use Rattle.spec_grammar.specs.declared.mode.Mode.TheVariants.{Specs}
use Rattle.spec_grammar.specs.declared.part.Part.{Part}
use Rattle.spec_grammar.specs.declared.part.Spec.{Spec}
use Rattle.spec_grammar.specs.declared.fault.SpecFault.{SpecFault}
use Rattle.settings_reader.specs.Told.{Told, Below}
use Rattle.settings_reader.specs.Parsed.{AreEach, IsListOf, IsListAt, IsOptional, items_at, member_pairs}
use Rattle.settings_reader.specs.Externals.{IsDescribed, IsExternal, IsReadAs, compiler_in, described_of, described_or_bad, is_alone, only_described, parts_of, target_in, single_version_in, with_prefix}
use Rattle.settings_reader.specs.Packages.{ArePackages, ArePackagesAt, IsPackage}
use Rattle.settings_reader.specs.Required.{AreRequiredAt}
use Rattle.settings_reader.specs.Settings.{IsSettings}
use Rattle.settings_reader.specs.Files.{IsOfFile}
use Rattle.settings_reader.specs.Values.{is_filled, has_values, are_valued}
use Rattle.settings_reader.specs.declared.external.Described.{Described}
use Rattle.settings_reader.proofs.Outcomes.{ok_same, ok_no, then_ok, below_ok}
use Rattle.site_settings.specs.declared.settings.ExternalEntry.{ExternalEntry}
use Rattle.site_settings.specs.declared.settings.PackageEntry.{PackageEntry}
use Rattle.site_settings.specs.declared.settings.Settings.{Settings}

-- ---- outcomes

some_same : {T : Type 0} (x y : T) → (let l : Option T = Some x in let r : Option T = Some y in l ≡ r) → x ≡ y
some_same x y e = cc

-- ---- lists of which each entry passes

abbrev Passes : {T : Type 0} → (T → Bool) → Told T → Type 0
Passes {T = T} p told = (x : T) → told (Ok x) → p x ≡ true

each_ok : {T : Type 0} (p : T → Bool) (tells : List ℕ → Data → Told T) → ((key : List ℕ) (d : Data) → Passes p (tells key d))
    → (vs : List (List ℕ × Data)) → Passes (list_all p) (AreEach tells vs)
each_ok p tells each [] xs h = subst (λ l. list_all p l ≡ true) (sym (ok_same xs [] h)) refl
each_ok p tells each (v ∷ vs) xs h =
    let first = then_ok (Below v.0 (tells v.0 v.1)) _ xs h in
    let rest = then_ok (AreEach tells vs) _ xs first.2 in
    let here = each v.0 v.1 first.0 (below_ok v.0 (tells v.0 v.1) first.0 first.1) in
    subst (λ l. list_all p l ≡ true) (sym (ok_same xs (first.0 ∷ rest.0) rest.2)) (rw (here, each_ok p tells each vs rest.0 rest.1) refl)

optional_ok : {T : Type 0} (p : T → Bool) (tells : Data → Told (List T)) → ((d : Data) → Passes (list_all p) (tells d))
    → (found : Option Data)
    → Passes (list_all p) (IsOptional tells found)
optional_ok p tells each None xs h = subst (λ l. list_all p l ≡ true) (sym (ok_same xs [] h)) refl
optional_ok p tells each (Some d) xs h = each d xs h

list_ok : {T : Type 0} (p : T → Bool) (tells : Data → Told T) → ((d : Data) → Passes p (tells d)) → (d : Data)
    → Passes (list_all p) (IsListOf tells d)
list_ok p tells each d xs h = let items = then_ok _ _ xs h in each_ok p (λ key. tells) (λ key. each) (items_at 0 items.0) xs items.2

list_at_ok : {T : Type 0} (p : T → Bool) (tells : Data → Told T) → ((d : Data) → Passes p (tells d)) → (key : List ℕ) (ms : Members)
    → Passes (list_all p) (IsListAt tells key ms)
list_at_ok p tells each key ms xs h =
    optional_ok p (IsListOf tells) (list_ok p tells each) (get_member key ms) xs
    (below_ok key (IsOptional (IsListOf tells) (get_member key ms)) xs h)

-- ---- what one spec says

some_then : {A B : Type 0} (f : A → Option B) (o : Option A) (y : B) → option_and_then f o ≡ Some y → (x : A) × (f x ≡ Some y)
some_then f None y e = absurd (none-some y e)
some_then f (Some x) y e = (x, e)

some_map : {A B : Type 0} (f : A → B) (o : Option A) (y : B) → option_map f o ≡ Some y → (x : A) × (f x ≡ y)
some_map f None y e = absurd (none-some y e)
some_map f (Some x) y e = (x, some_same (f x) y e)

-- its variants are those of its part
pub part_variants : (part : Part) (d : Described) → parts_of part ≡ Some d → part.variants ≡ d.variants
part_variants part d e =
    let version = some_then _ (single_version_in part.versions) d e in
    let compiler = some_then _ (compiler_in part.compiler) d version.1 in
    let target = some_map _ (target_in part.targets) d compiler.1 in
    ap (λ (x : Described). x.variants) target.1

-- what is there where a test holds
pub some_if : {T : Type 0} (b : Bool) (o : Option T) (x : T) → (if b then o else None) ≡ Some x → o ≡ Some x
some_if true o x e = e
some_if false o x e = absurd (none-some x e)

abbrev IsFilled : List (List ℕ × List (List ℕ)) → Type 0
IsFilled variants = list_all (λ v. is_filled v.1) variants ≡ true

filled : {T : Type 0} (xs : List T) → 0 < length xs → is_filled xs ≡ true
filled [] some = absurd (omega (arith, some))
filled (x ∷ xs) some = refl

all_filled : (variants : List (List ℕ × List (List ℕ))) → All (λ v. 0 < length v.1) variants → IsFilled variants
all_filled variants some =
    list_all-from_AllPass (λ (v : List ℕ × List (List ℕ)). is_filled v.1) variants
    (All-weaker (λ v. 0 < length v.1) (λ v. is_filled v.1 ≡ true) (λ v some. filled v.1 some) variants some)

-- each spec that a text spells has values
abbrev pub SpecsAreValued : Type 0
SpecsAreValued = (text : List ℕ) (specs : List Spec) (spec : Spec) → Spells Specs text specs → Contains specs spec → AreValued spec

only_filled : SpecsAreValued → (name platform text : List ℕ) (specs : List Spec) (d : Described) → Spells Specs text specs
    → only_described name platform specs ≡ Some d → IsFilled d.variants
only_filled laws name platform text [] d spells e = absurd (none-some d e)
only_filled laws name platform text (spec ∷ []) d spells e =
    let same = part_variants spec.top d (some_if (is_alone name platform spec) (parts_of spec.top) d e) in
    let some = All-contains (λ (p : Part). All (λ v. 0 < length v.1) p.variants) (spec.top ∷ spec.below) spec.top
    (laws text (spec ∷ []) spec spells (has_first spec [])) (has_first spec.top spec.below) in
    subst IsFilled same (all_filled spec.top.variants some)
only_filled laws name platform text (spec ∷ other ∷ specs) d spells e = absurd (none-some d e)

-- what was described is there
pub some_described : (o : Option Described) (d : Described) → Ok d ≡ described_or_bad o → o ≡ Some d
some_described None d is = absurd (ok_no d _ is)
some_described (Some x) d is = ap Some (sym (ok_same d x is))

read_filled : SpecsAreValued → (name platform text : List ℕ) (d : Described) (read : Result (List Spec) SpecFault) → IsReadAs text read
    → Ok d ≡ described_of name platform read → IsFilled d.variants
read_filled laws name platform text d (Ok specs) spells is =
    only_filled laws name platform text specs d spells (some_described (only_described name platform specs) d is)
read_filled laws name platform text d (Err fault) right is = absurd (ok_no d _ is)

-- ---- externals, packages, settings

external_filled : SpecsAreValued → (name platform : List ℕ) (d : Data)
    → Passes (λ external. list_all (λ v. is_filled v.1) external.variants)
    (IsExternal name platform d)
external_filled laws name platform d external h =
    let ms = then_ok _ _ external h in
    let text = then_ok _ _ external ms.2 in
    let described = then_ok (Below (codes "spec") (IsDescribed name platform text.0)) _ external text.2 in
    let prefix = then_ok _ _ external described.2 in
    let told = below_ok (codes "spec") (IsDescribed name platform text.0) described.0 described.1 in
    subst (λ (e : ExternalEntry). IsFilled e.variants) (sym (ok_same external (with_prefix described.0 prefix.0) prefix.2))
    (read_filled laws name platform text.0 described.0 told.read told.right told.is)

package_filled : SpecsAreValued → (name platform : List ℕ) (d : Data) → Passes has_values (IsPackage name platform d)
package_filled laws name platform d entry h =
    let ms = then_ok _ _ entry h in
    let versions = then_ok _ _ entry ms.2 in
    let buildable = then_ok _ _ entry versions.2 in
    let externals = then_ok (IsListAt (IsExternal name platform) (codes "externals") ms.0) _ entry buildable.2 in
    let require = then_ok (AreRequiredAt ms.0) _ entry externals.2 in
    subst (λ (e : PackageEntry). has_values e ≡ true) (sym (ok_same entry _ require.2))
    (list_at_ok (λ (external : ExternalEntry). list_all (λ v. is_filled v.1) external.variants) (IsExternal name platform)
    (external_filled laws name platform) (codes "externals") ms.0 externals.0 externals.1)

packages_filled : SpecsAreValued → (platform : List ℕ) (d : Data) → Passes (list_all has_values) (ArePackages platform d)
packages_filled laws platform d entries h =
    let ms = then_ok _ _ entries h in
    each_ok has_values (λ name d. IsPackage name platform d) (λ name. package_filled laws name platform) (member_pairs ms.0) entries ms.2

settings_filled : SpecsAreValued → (d : Data) → Passes are_valued (IsSettings d)
settings_filled laws d settings h =
    let ms = then_ok _ _ settings h in
    let head = then_ok _ _ settings ms.2 in
    let targets = then_ok _ _ settings head.2 in
    let tail = then_ok _ _ settings targets.2 in
    let packages = then_ok (ArePackagesAt head.0.platform ms.0) _ settings tail.2 in
    let found = get_member (codes "packages") ms.0 in
    subst (λ (s : Settings). are_valued s ≡ true) (sym (ok_same settings _ packages.2))
    (optional_ok has_values (ArePackages head.0.platform) (packages_filled laws head.0.platform) found packages.0
    (below_ok (codes "packages") (IsOptional (ArePackages head.0.platform) found) packages.0 packages.1))

-- what a file says of externals has a value for each variant
pub file_valued : SpecsAreValued → (bytes : List ℕ) (settings : Settings) → IsOfFile bytes settings → are_valued settings ≡ true
file_valued laws bytes settings (d, json, is) = settings_filled laws d settings is
