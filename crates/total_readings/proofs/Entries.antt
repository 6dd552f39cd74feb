-- What is said of packages has an outcome: conditions, choices, externals.
use Rattle.std.proofs.Common.{◌≢◌, refl, subst, ◌⊎◌, inl, inr, ℕ, List, [], ◌∷◌, Ok, Err, Option, Some, None, codes}
use Rattle.std.specs.Option.{unwrap_or}
use Rattle.serde_json.specs.Data.{Data, Members}
use Rattle.serde_json.specs.Find.{as_str, get_member}
use Rattle.json_readers.specs.Objects.{known, need, may}
use Rattle.json_readers.specs.Maps.{named}
use Rattle.json_readers.specs.Texts.{text_of, truth_value}
use Rattle.json_texts.specs.Forms.{name_meaning}
use Rattle.spec_grammar.specs.Reading.{Spells}
use Rattle.spec_grammar.specs.Faults.{IsFault}
use Rattle.spec_grammar.specs.declared.fault.SpecFault.{SpecFault}
use Rattle.spec_grammar.specs.declared.fault.SpecFault.TheVariants.{OutOfMemory}
use Rattle.spec_grammar.specs.declared.mode.Mode.{Mode}
use Rattle.spec_grammar.specs.declared.mode.Mode.TheVariants as mode
use Rattle.spec_grammar.specs.declared.part.Spec.{Spec}
use Rattle.spec_grammar.proofs.SingleLaws.{single}
use Rattle.settings_reader.specs.Told.{Below, told_by}
use Rattle.settings_reader.specs.Lists.{text_list}
use Rattle.settings_reader.specs.Parsed.{IsListAt, IsOptional, member_pairs}
use Rattle.settings_reader.specs.Versions.{IsVersionSet}
use Rattle.settings_reader.specs.Externals.{IsDescribed, IsExternal, described_of, external_keys, with_prefix}
use Rattle.settings_reader.specs.Required.{AreChoices, AreConditions, AreRequired, AreRequiredAt, AreRequiredBy, IsChoice, IsCondition, IsRequirement, IsRequirementBy, IsObject, IsOnly, IsWhen, IsWhenBy, choice_by, required_entry, everywhere, keys, only, condition_told, texts_at}
use Rattle.settings_reader.specs.Packages.{ArePackages, ArePackagesAt, IsPackage, package_keys}
use Rattle.total_readings.proofs.Steps.{Some-told, then_some, computed, is_done, below_some, each_some, list_some, optional_some, list_at_some}
use Rattle.total_readings.proofs.Sets.{set_some}

-- each text of specs has a reading, or a fault other than want of memory
abbrev pub AreTotal : Type 0
AreTotal = (m : Mode) (text : List ℕ) → ((specs : List Spec) × Spells m text specs)
    ⊎ ((fault : SpecFault) × IsFault m text fault × (fault ≢ OutOfMemory))

module _ (total : AreTotal) where
  -- ---- conditions

  condition_some : (text : List ℕ) → Some-told (IsCondition text)
  condition_some text = elim (total mode.Condition text) [
    | inl (specs, spells) ↦
        let one = single mode.Condition text specs refl spells in
        (condition_told (Ok one.0), record { read = Ok one.0; right = subst (Spells mode.Condition text) one.1 spells; is = refl })
    | inr (fault, is, other) ↦ (condition_told (Err fault), record { read = Err fault; right = (is, other); is = refl })
  ]

  choices_some : (key : List ℕ) (ms : Members) → Some-told (AreChoices key ms)
  choices_some key ms =
      then_some (told_by (may text_list key ms)) _ (computed (may text_list key ms)) (λ texts.
      below_some key (AreConditions (unwrap_or texts []))
      (each_some (λ at text. IsCondition text) (λ at text. condition_some text) (texts_at 0 (unwrap_or texts []))))

  choice_some : (ms : Members) → Some-told (IsChoice ms)
  choice_some ms = (choice_by (get_member (codes "any_of") ms) (get_member (codes "one_of") ms), refl)

  when_by_some : (o : Option (List ℕ)) → Some-told (IsWhenBy o)
  when_by_some None = is_done everywhere
  when_by_some (Some text) = then_some (IsCondition text) _ (condition_some text) (λ spec. is_done (record { specs = spec ∷ [] }))

  when_some : (ms : Members) → Some-told (IsWhen ms)
  when_some ms =
      then_some (told_by (may (text_of Some) (codes "when") ms)) _ (computed (may (text_of Some) (codes "when") ms)) (λ text.
      below_some (codes "when") (IsWhenBy text) (when_by_some text))

  object_some : (d : Data) → Some-told (IsObject d)
  object_some d =
      then_some (told_by (known keys d)) _ (computed (known keys d)) (λ ms.
      then_some (IsChoice ms) _ (choice_some ms) (λ one_of.
      then_some (AreChoices (codes "any_of") ms) _ (choices_some (codes "any_of") ms) (λ any.
      then_some (told_by (may (text_of Some) (codes "message") ms)) _ (computed (may (text_of Some) (codes "message") ms)) (λ message.
      then_some (AreChoices (codes "one_of") ms) _ (choices_some (codes "one_of") ms) (λ one.
      then_some (IsWhen ms) _ (when_some ms) (λ when. is_done (required_entry one_of any one when)))))))

  only_some : (text : List ℕ) → Some-told (IsOnly text)
  only_some text = then_some (IsCondition text) _ (condition_some text) (λ spec. is_done (only spec))

  item_by_some : (o : Option (List ℕ)) (d : Data) → Some-told (IsRequirementBy o d)
  item_by_some (Some text) d = only_some text
  item_by_some None d = object_some d

  item_some : (d : Data) → Some-told (IsRequirement d)
  item_some d = item_by_some (as_str d) d

  required_by_some : (o : Option (List ℕ)) (d : Data) → Some-told (AreRequiredBy o d)
  required_by_some (Some text) d = then_some (IsOnly text) _ (only_some text) (λ entry. is_done (entry ∷ []))
  required_by_some None d = list_some IsRequirement item_some d

  required_some : (ms : Members) → Some-told (AreRequiredAt ms)
  required_some ms =
      below_some (codes "require") (IsOptional AreRequired (get_member (codes "require") ms))
      (optional_some AreRequired (λ d. required_by_some (as_str d) d) (get_member (codes "require") ms))

  -- ---- externals

  described_some : (name platform text : List ℕ) → Some-told (IsDescribed name platform text)
  described_some name platform text = elim (total mode.Specs text) [
    | inl (specs, spells) ↦ (described_of name platform (Ok specs), record { read = Ok specs; right = spells; is = refl })
    | inr (fault, is, other) ↦ (described_of name platform (Err fault), record { read = Err fault; right = (is, other); is = refl })
  ]

  external_some : (name platform : List ℕ) (d : Data) → Some-told (IsExternal name platform d)
  external_some name platform d =
      then_some (told_by (known external_keys d)) _ (computed (known external_keys d)) (λ ms.
      then_some (told_by (need (text_of Some) (codes "spec") ms)) _ (computed (need (text_of Some) (codes "spec") ms)) (λ text.
      then_some (Below (codes "spec") (IsDescribed name platform text)) _
      (below_some (codes "spec") (IsDescribed name platform text) (described_some name platform text)) (λ described.
      then_some (told_by (need (text_of Some) (codes "prefix") ms)) _ (computed (need (text_of Some) (codes "prefix") ms)) (λ prefix.
      is_done (with_prefix described prefix)))))

  -- ---- packages

  package_some : (name platform : List ℕ) (d : Data) → Some-told (IsPackage name platform d)
  package_some name platform d =
      then_some (told_by (known package_keys d)) _ (computed (known package_keys d)) (λ ms.
      then_some (IsListAt IsVersionSet (codes "versions") ms) _ (list_at_some IsVersionSet set_some (codes "versions") ms) (λ versions.
      then_some (told_by (may truth_value (codes "buildable") ms)) _ (computed (may truth_value (codes "buildable") ms)) (λ buildable.
      then_some (IsListAt (IsExternal name platform) (codes "externals") ms) _
      (list_at_some (IsExternal name platform) (external_some name platform) (codes "externals") ms) (λ externals.
      then_some (AreRequiredAt ms) _ (required_some ms) (λ require. is_done _)))))

  packages_by_some : (platform : List ℕ) (d : Data) → Some-told (ArePackages platform d)
  packages_by_some platform d =
      then_some (told_by (named name_meaning d)) _ (computed (named name_meaning d)) (λ ms.
      each_some (λ name d. IsPackage name platform d) (λ name d. package_some name platform d) (member_pairs ms))

  pub packages_some : (platform : List ℕ) (ms : Members) → Some-told (ArePackagesAt platform ms)
  packages_some platform ms =
      below_some (codes "packages") (IsOptional (ArePackages platform) (get_member (codes "packages") ms))
      (optional_some (ArePackages platform) (packages_by_some platform) (get_member (codes "packages") ms))
