-- What is asked of the nodes of a package.
use Rattle.std.specs.Prelude.{◌≡◌, ◌≢◌, ℕ, ◌+◌, decimal, Bool, true, false, List, [], ◌∷◌, codes, Option, Some, None, if◌then◌else◌, Result, Ok, Err}
use Rattle.std.specs.Option.{unwrap_or}
use Rattle.serde_json.specs.Data.{Data, Members}
use Rattle.serde_json.specs.Find.{as_str, get_member}
use Rattle.spec_grammar.specs.Reading.{Spells}
use Rattle.spec_grammar.specs.Faults.{IsFault}
use Rattle.spec_grammar.specs.declared.mode.Mode.TheVariants as mode
use Rattle.spec_grammar.specs.declared.part.Condition.{Condition}
use Rattle.spec_grammar.specs.declared.part.Spec.{Spec}
use Rattle.spec_grammar.specs.declared.fault.SpecFault.{SpecFault}
use Rattle.spec_grammar.specs.declared.fault.SpecFault.TheVariants.{OutOfMemory}
use Rattle.json_readers.specs.Objects.{known, may}
use Rattle.json_readers.specs.Texts.{text_of}
use Rattle.settings_reader.specs.Told.{ToldResult, Told, ◌>>=◌, Below, done, misread, told_by}
use Rattle.settings_reader.specs.Parsed.{AreEach, IsListOf, IsOptional}
use Rattle.settings_reader.specs.Lists.{text_list}
use Rattle.settings_reader.specs.declared.stop.What.TheVariants.{Spec as SpecWrong, WrongKind}
use Rattle.site_settings.specs.declared.settings.RequireEntry.{RequireEntry}

-- ---- texts of conditions

-- the condition that the text spells, or its fault
abbrev pub IsReadAsCondition : List ℕ → Result Spec SpecFault → Type 0
IsReadAsCondition text (Ok spec) = Spells mode.Condition text (spec ∷ [])
IsReadAsCondition text (Err fault) = IsFault mode.Condition text fault × (fault ≢ OutOfMemory)

-- by what the text is read as
abbrev pub condition_told : Result Spec SpecFault → ToldResult Spec
condition_told (Ok spec) = Ok spec
condition_told (Err fault) = Err (misread (SpecWrong fault) [])

pub record IsCondition (text : List ℕ) (out : ToldResult Spec) : Type 0 where
  pub read : Result Spec SpecFault
  pub right : IsReadAsCondition text read
  pub is : out ≡ condition_told read

-- texts, from a place on; the place is the key
abbrev pub texts_at : ℕ → List (List ℕ) → List (List ℕ × List ℕ)
texts_at i [] = []
texts_at i (text ∷ more) = (decimal i, text) ∷ texts_at (i + 1) more

abbrev pub AreConditions : List (List ℕ) → Told (List Spec)
AreConditions texts = AreEach (λ key text. IsCondition text) (texts_at 0 texts)

-- ---- lists of choices

-- the conditions at a key, none where it is not there; that they are texts, and some, is looked at first
abbrev pub AreChoices : List ℕ → Members → Told (List Spec)
AreChoices key ms = do
  texts ← told_by (may text_list key ms)
  Below key (AreConditions (unwrap_or texts []))

-- exactly one of the two keys is there: that of a list of which one condition alone is to hold, or the other
abbrev pub choice_by : Option Data → Option Data → ToldResult Bool
choice_by (Some any) None = Ok false
choice_by None (Some one) = Ok true
choice_by (Some any) (Some one) = Err (misread WrongKind [])
choice_by None None = Err (misread WrongKind [])

abbrev pub IsChoice : Members → Told Bool
IsChoice ms out = out ≡ choice_by (get_member (codes "any_of") ms) (get_member (codes "one_of") ms)

-- ---- where it is asked

abbrev pub everywhere : Condition
everywhere = record { specs = [] }

abbrev pub IsWhenBy : Option (List ℕ) → Told Condition
IsWhenBy None = done everywhere
IsWhenBy (Some text) = do
  spec ← IsCondition text
  done (record { specs = spec ∷ [] })

abbrev pub IsWhen : Members → Told Condition
IsWhen ms = do
  text ← told_by (may (text_of Some) (codes "when") ms)
  Below (codes "when") (IsWhenBy text)

-- ---- items

abbrev pub keys : List (List ℕ)
keys = codes "any_of" ∷ codes "message" ∷ codes "one_of" ∷ codes "when" ∷ []

abbrev pub required_entry : Bool → List Spec → List Spec → Condition → RequireEntry
required_entry one_of any one when = record { specs = if one_of then one else any; one_of = one_of; when = when }

abbrev pub IsObject : Data → Told RequireEntry
IsObject d = do
  ms ← told_by (known keys d)
  one_of ← IsChoice ms
  any ← AreChoices (codes "any_of") ms
  message ← told_by (may (text_of Some) (codes "message") ms)
  one ← AreChoices (codes "one_of") ms
  when ← IsWhen ms
  done (required_entry one_of any one when)

-- one condition, everywhere
abbrev pub only : Spec → RequireEntry
only spec = record { specs = spec ∷ []; one_of = false; when = everywhere }

abbrev pub IsOnly : List ℕ → Told RequireEntry
IsOnly text = do
  spec ← IsCondition text
  done (only spec)

-- a text, or an object
abbrev pub IsRequirementBy : Option (List ℕ) → Data → Told RequireEntry
IsRequirementBy (Some text) d = IsOnly text
IsRequirementBy None d = IsObject d

abbrev pub IsRequirement : Data → Told RequireEntry
IsRequirement d = IsRequirementBy (as_str d) d

-- ---- all that is asked

-- a text alone is its one item
abbrev pub AreOnly : List ℕ → Told (List RequireEntry)
AreOnly text = do
  entry ← IsOnly text
  done (entry ∷ [])

-- a text alone, or a list of items
abbrev pub AreRequiredBy : Option (List ℕ) → Data → Told (List RequireEntry)
AreRequiredBy (Some text) d = AreOnly text
AreRequiredBy None d = IsListOf IsRequirement d

abbrev pub AreRequired : Data → Told (List RequireEntry)
AreRequired d = AreRequiredBy (as_str d) d

abbrev pub AreRequiredAt : Members → Told (List RequireEntry)
AreRequiredAt ms = Below (codes "require") (IsOptional AreRequired (get_member (codes "require") ms))
