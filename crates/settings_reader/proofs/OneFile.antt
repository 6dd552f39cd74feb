-- A file says one thing at most.
use Rattle.std.proofs.Common.{◌≡◌, ◌≢◌, sym, ap, ◌∙◌, subst, ℕ, List, [], Option, Some, None, Result, Ok, Err, codes, inl, inr}
use Rattle.std.specs.Option.{unwrap_or}
use Rattle.serde_json.specs.Data.{Data, Members}
use Rattle.serde_json.specs.Find.{as_array, as_str, get_member}
use Rattle.json_readers.specs.Faults.{given}
use Rattle.json_readers.specs.Maps.{named}
use Rattle.json_readers.specs.Objects.{known, may, need}
use Rattle.json_readers.specs.Texts.{text_of, truth_value}
use Rattle.json_readers.proofs.Once.{json_one}
use Rattle.json_texts.specs.Forms.{name_meaning}
use Rattle.settings_reader.specs.Told.{ToldResult, Told, Below, told_by}
use Rattle.settings_reader.specs.Parsed.{IsListOf, IsListAt, IsOptional, items_at, member_pairs}
use Rattle.settings_reader.specs.Versions.{IsVersionSet}
use Rattle.settings_reader.specs.Externals as external_spec
use Rattle.settings_reader.specs.Externals.{IsDescribed, IsExternal}
use Rattle.settings_reader.specs.Lists.{text_list}
use Rattle.settings_reader.specs.Required as required_spec
use Rattle.settings_reader.specs.Required.{AreChoices, AreConditions, AreRequired, AreRequiredAt, IsChoice, IsCondition, IsRequirement, texts_at, IsRequirementBy, IsObject, IsOnly, IsWhen, IsWhenBy, AreRequiredBy}
use Rattle.settings_reader.specs.Packages as package_spec
use Rattle.settings_reader.specs.Packages.{ArePackages, ArePackagesAt, IsPackage}
use Rattle.settings_reader.specs.Order.{head_of, tail_of}
use Rattle.settings_reader.specs.Settings as settings
use Rattle.settings_reader.specs.Settings.{IsSettings, IsTable}
use Rattle.settings_reader.specs.Files.{IsFirstFault, IsSettingsFileFault, IsOfFile, with_pointer}
use Rattle.site_settings.specs.declared.settings.Settings.{Settings}
use Rattle.settings_reader.specs.declared.fault.SettingsFault.{SettingsFault}
use Rattle.settings_reader.specs.declared.fault.SettingsFault.TheVariants as fault
use Rattle.settings_reader.proofs.One.{IsOne, ReadsSetsOnce, ReadsSpecsOnce, said_one, done_one, below_one, then_one, each_one, optional_one, set_in_one, described_one, condition_one}

list_one : {T : Type 0} (tells : Data → Told T) → ((d : Data) → IsOne (tells d)) → (d : Data) → IsOne (IsListOf tells d)
list_one tells one d = then_one (told_by (given (as_array d))) _ (said_one (given (as_array d)))
    (λ ds. each_one (λ key. tells) (λ key. one) (items_at 0 ds))

list_at_one : {T : Type 0} (tells : Data → Told T) → ((d : Data) → IsOne (tells d)) → (key : List ℕ) (ms : Members)
    → IsOne (IsListAt tells key ms)
list_at_one tells one key ms = below_one key (IsOptional (IsListOf tells) (get_member key ms))
    (optional_one (IsListOf tells) (list_one tells one) (get_member key ms))

-- ---- what is asked of a package

choices_one : ReadsSpecsOnce → (key : List ℕ) (ms : Members) → IsOne (AreChoices key ms)
choices_one laws key ms = then_one (told_by (may text_list key ms)) _ (said_one (may text_list key ms))
    (λ texts. below_one key (AreConditions (unwrap_or texts [])) (each_one _ (λ key. condition_one laws) (texts_at 0 (unwrap_or texts []))))

when_by_one : ReadsSpecsOnce → (text : Option (List ℕ)) → IsOne (IsWhenBy text)
when_by_one laws None = done_one _
when_by_one laws (Some text) = then_one (IsCondition text) _ (condition_one laws text) (λ spec. done_one _)

when_one : ReadsSpecsOnce → (ms : Members) → IsOne (IsWhen ms)
when_one laws ms = then_one (told_by (may (text_of Some) (codes "when") ms)) _ (said_one (may (text_of Some) (codes "when") ms))
    (λ text. below_one (codes "when") (IsWhenBy text) (when_by_one laws text))

object_one : ReadsSpecsOnce → (d : Data) → IsOne (IsObject d)
object_one laws d =
    then_one (told_by (known required_spec.keys d)) _ (said_one (known required_spec.keys d)) (λ ms.
    then_one (IsChoice ms) _ (λ a b h k. h ∙ sym k) (λ one_of.
    then_one (AreChoices (codes "any_of") ms) _ (choices_one laws (codes "any_of") ms) (λ any.
    then_one (told_by (may (text_of Some) (codes "message") ms)) _ (said_one (may (text_of Some) (codes "message") ms)) (λ message.
    then_one (AreChoices (codes "one_of") ms) _ (choices_one laws (codes "one_of") ms) (λ one.
    then_one (IsWhen ms) _ (when_one laws ms) (λ when. done_one _))))))

only_one : ReadsSpecsOnce → (text : List ℕ) → IsOne (IsOnly text)
only_one laws text = then_one (IsCondition text) _ (condition_one laws text) (λ spec. done_one _)

item_by_one : ReadsSpecsOnce → (text : Option (List ℕ)) (d : Data) → IsOne (IsRequirementBy text d)
item_by_one laws (Some text) d = only_one laws text
item_by_one laws None d = object_one laws d

required_by_one : ReadsSpecsOnce → (text : Option (List ℕ)) (d : Data) → IsOne (AreRequiredBy text d)
required_by_one laws (Some text) d = then_one (IsOnly text) _ (only_one laws text) (λ entry. done_one _)
required_by_one laws None d = list_one IsRequirement (λ v. item_by_one laws (as_str v) v) d

required_at_one : ReadsSpecsOnce → (ms : Members) → IsOne (AreRequiredAt ms)
required_at_one laws ms = below_one (codes "require") (IsOptional AreRequired (get_member (codes "require") ms))
    (optional_one AreRequired (λ d. required_by_one laws (as_str d) d) (get_member (codes "require") ms))

external_one : ReadsSpecsOnce → (name platform : List ℕ) (d : Data) → IsOne (IsExternal name platform d)
external_one laws name platform d =
    then_one (told_by (known external_spec.external_keys d)) _ (said_one (known external_spec.external_keys d)) (λ ms.
    then_one (told_by (need (text_of Some) (codes "spec") ms)) _ (said_one (need (text_of Some) (codes "spec") ms)) (λ text.
    then_one (Below (codes "spec") (IsDescribed name platform text)) _
    (below_one (codes "spec") (IsDescribed name platform text) (described_one laws name platform text)) (λ d.
    then_one (told_by (need (text_of Some) (codes "prefix") ms)) _ (said_one (need (text_of Some) (codes "prefix") ms))
    (λ prefix. done_one _))))

package_one : ReadsSetsOnce → ReadsSpecsOnce → (name platform : List ℕ) (d : Data) → IsOne (IsPackage name platform d)
package_one sets specs name platform d =
    then_one (told_by (known package_spec.package_keys d)) _ (said_one (known package_spec.package_keys d)) (λ ms.
    then_one (IsListAt IsVersionSet (codes "versions") ms) _
    (list_at_one IsVersionSet (λ v. set_in_one sets (as_str v)) (codes "versions") ms) (λ versions.
    then_one (told_by (may truth_value (codes "buildable") ms)) _ (said_one (may truth_value (codes "buildable") ms)) (λ buildable.
    then_one (IsListAt (IsExternal name platform) (codes "externals") ms) _
    (list_at_one (IsExternal name platform) (external_one specs name platform) (codes "externals") ms) (λ externals.
    then_one (AreRequiredAt ms) _ (required_at_one specs ms) (λ require. done_one _)))))

packages_one : ReadsSetsOnce → ReadsSpecsOnce → (platform : List ℕ) (d : Data) → IsOne (ArePackages platform d)
packages_one sets specs platform d = then_one (told_by (named name_meaning d)) _ (said_one (named name_meaning d))
    (λ ms. each_one _ (λ name. package_one sets specs name platform) (member_pairs ms))

-- the settings of a value have one outcome
pub settings_one : ReadsSetsOnce → ReadsSpecsOnce → (d : Data) → IsOne (IsSettings d)
settings_one sets specs d =
    then_one (told_by (known settings.settings_keys d)) _ (said_one (known settings.settings_keys d)) (λ ms.
    then_one (told_by (head_of ms)) _ (said_one (head_of ms)) (λ head.
    then_one (IsTable head.targets) _ (λ a b h k. h ∙ sym k) (λ targets.
    then_one (told_by (tail_of ms)) _ (said_one (tail_of ms)) (λ tail.
    then_one (ArePackagesAt head.platform ms) _
    (below_one (codes "packages") _ (optional_one (ArePackages head.platform) (packages_one sets specs head.platform)
    (get_member (codes "packages") ms))) (λ packages. done_one _)))))

-- ---- files

abbrev ok_or : {T E : Type 0} → T → Result T E → T
ok_or x (Ok y) = y
ok_or x (Err e) = x

abbrev err_or : {T E : Type 0} → E → Result T E → E
err_or e (Ok x) = e
err_or e (Err f) = f

-- the same value has one outcome
same_one : ReadsSetsOnce → ReadsSpecsOnce → (d e : Data) (a b : ToldResult Settings) → d ≡ e → IsSettings d a → IsSettings e b → a ≡ b
same_one sets specs d e a b is h k = let P : Data → Type 0 = λ v. IsSettings v a in settings_one sets specs e a b (subst P is h) k

-- a file says one settings at most
pub file_one : ReadsSetsOnce → ReadsSpecsOnce → (bytes : List ℕ) (a b : Settings) → IsOfFile bytes a → IsOfFile bytes b → a ≡ b
file_one sets specs bytes a b h k = ap (ok_or a) (same_one sets specs h.0 k.0 (Ok a) (Ok b) (json_one bytes h.0 k.0 h.1 k.1) h.2 k.2)

first_one : ReadsSetsOnce → ReadsSpecsOnce → (d e : Data) (f g : SettingsFault) → d ≡ e → IsFirstFault d f → IsFirstFault e g → f ≡ g
first_one sets specs d e f g is h k =
    h.is ∙ ap (λ m. with_pointer m.what m.at) (ap (err_or h.misread)
    (same_one sets specs d e (Err h.misread) (Err k.misread) is h.first k.first)) ∙ sym k.is

-- a file has one fault at most besides want of memory
pub fault_one : ReadsSetsOnce → ReadsSpecsOnce → (bytes : List ℕ) (f g : SettingsFault) → IsSettingsFileFault bytes f
    → IsSettingsFileFault bytes g
    → f ≢ fault.OutOfMemory → g ≢ fault.OutOfMemory → f ≡ g
fault_one sets specs bytes f g (inl h) k nf ng = absurd (nf h)
fault_one sets specs bytes f g (inr h) (inl k) nf ng = absurd (ng k)
fault_one sets specs bytes f g (inr (inl h)) (inr (inl k)) nf ng = h.0 ∙ sym k.0
fault_one sets specs bytes f g (inr (inl h)) (inr (inr k)) nf ng = absurd (h.1 k.0 k.1)
fault_one sets specs bytes f g (inr (inr h)) (inr (inl k)) nf ng = absurd (k.1 h.0 h.1)
fault_one sets specs bytes f g (inr (inr h)) (inr (inr k)) nf ng = first_one sets specs h.0 k.0 f g (json_one bytes h.0 k.0 h.1 k.1) h.2 k.2

ok_is_not_err : {T E : Type 0} (x : T) (e : E) → Ok x ≡ Err e → ⊥
ok_is_not_err x e h = cc

-- a file of settings is refused for want of memory alone
pub right_one : ReadsSetsOnce → ReadsSpecsOnce → (bytes : List ℕ) (settings : Settings) (f : SettingsFault) → IsOfFile bytes settings
    → IsSettingsFileFault bytes f → f ≡ fault.OutOfMemory
right_one sets specs bytes settings f h (inl k) = k
right_one sets specs bytes settings f h (inr (inl k)) = absurd (k.1 h.0 h.1)
right_one sets specs bytes settings f h (inr (inr k)) =
    absurd (ok_is_not_err settings k.2.misread
    (same_one sets specs h.0 k.0 (Ok settings) (Err k.2.misread) (json_one bytes h.0 k.0 h.1 k.1) h.2 k.2.first))
