-- Externals.
use Rattle.std.specs.Prelude.{◌≡◌, ◌≢◌, ℕ, ◌||◌, ◌&&◌, Bool, true, false, List, [], ◌∷◌, Option, Some, None, is_none, option_map, option_and_then, if◌then◌else◌, codes, Result, Ok, Err}
use Rattle.std.specs.Str.{bytes_eq}
use Rattle.serde_json.specs.Data.{Data}
use Rattle.version_order.specs.Sets.{single_of}
use Rattle.version_order.specs.declared.item.Item.{Item}
use Rattle.spec_grammar.specs.Reading.{Spells}
use Rattle.spec_grammar.specs.Faults.{IsFault}
use Rattle.spec_grammar.specs.declared.mode.Mode.TheVariants.{Specs}
use Rattle.spec_grammar.specs.declared.part.Part.{Part}
use Rattle.spec_grammar.specs.declared.part.Spec.{Spec}
use Rattle.spec_grammar.specs.declared.part.TargetItem.{TargetItem}
use Rattle.spec_grammar.specs.declared.fault.SpecFault.{SpecFault}
use Rattle.spec_grammar.specs.declared.fault.SpecFault.TheVariants.{OutOfMemory}
use Rattle.json_readers.specs.Objects.{known, need}
use Rattle.json_readers.specs.Texts.{text_of}
use Rattle.settings_reader.specs.Told.{ToldResult, Told, ◌>>=◌, Below, done, misread, told_by}
use Rattle.settings_reader.specs.declared.stop.What.TheVariants.{Spec as SpecWrong, BadExternal}
use Rattle.graph_core.specs.declared.node.Compiler.{Compiler}
use Rattle.settings_reader.specs.declared.external.Described.{Described}
use Rattle.site_settings.specs.declared.settings.ExternalEntry.{ExternalEntry}

-- ---- what one spec says

-- the version of a set that is the one item `w` or `=w`
abbrev pub single_version_in : Option (List Item) → Option (List ℕ)
single_version_in versions = option_and_then single_of versions

-- the compiler, which may be missing; None where its version is left open
abbrev pub compiler_in : Option (List ℕ × Option (List Item)) → Option (Option Compiler)
compiler_in None = Some None
compiler_in (Some c) = option_map (λ version. Some (record { name = c.0; version = version })) (single_version_in c.1)

abbrev pub single_target_of : List TargetItem → Option (Option (List ℕ))
single_target_of [] = None
single_target_of (t ∷ []) = if t.range then None else Some t.low
single_target_of (t ∷ u ∷ items) = None

-- the target, which may be missing; None where it is not one target alone
abbrev pub target_in : Option (List TargetItem) → Option (Option (List ℕ))
target_in None = Some None
target_in (Some items) = single_target_of items

-- what a part says of its node; None where it leaves the version, the compiler or the target open
abbrev pub parts_of : Part → Option Described
parts_of part =
    option_and_then (λ version. option_and_then (λ compiler. option_map (λ target.
    record { version = version; variants = part.variants; compiler = compiler; os = part.os; target = target })
    (target_in part.targets)) (compiler_in part.compiler)) (single_version_in part.versions)

abbrev pub is_that_word : Option (List ℕ) → List ℕ → Bool
is_that_word None text = false
is_that_word (Some word) text = bytes_eq word text

abbrev pub is_nothing : List Part → Bool
is_nothing [] = true
is_nothing (part ∷ parts) = false

-- a spec of this name and platform, without `^`
abbrev pub is_alone : List ℕ → List ℕ → Spec → Bool
is_alone name platform spec = is_nothing spec.below && is_that_word spec.top.name name
    && (is_none spec.top.platform || is_that_word spec.top.platform platform)

-- what the one spec says
abbrev pub only_described : List ℕ → List ℕ → List Spec → Option Described
only_described name platform [] = None
only_described name platform (spec ∷ []) = if is_alone name platform spec then parts_of spec.top else None
only_described name platform (spec ∷ other ∷ specs) = None

-- ---- what a text says

abbrev pub described_or_bad : Option Described → ToldResult Described
described_or_bad None = Err (misread BadExternal [])
described_or_bad (Some d) = Ok d

-- by what the text is read as
abbrev pub described_of : List ℕ → List ℕ → Result (List Spec) SpecFault → ToldResult Described
described_of name platform (Ok specs) = described_or_bad (only_described name platform specs)
described_of name platform (Err fault) = Err (misread (SpecWrong fault) [])

-- the specs that the text spells, or its fault
abbrev pub IsReadAs : List ℕ → Result (List Spec) SpecFault → Type 0
IsReadAs text (Ok specs) = Spells Specs text specs
IsReadAs text (Err fault) = IsFault Specs text fault × (fault ≢ OutOfMemory)

pub record IsDescribed (name platform text : List ℕ) (out : ToldResult Described) : Type 0 where
  pub read : Result (List Spec) SpecFault
  pub right : IsReadAs text read
  pub is : out ≡ described_of name platform read

-- ---- an entry

abbrev pub with_prefix : Described → List ℕ → ExternalEntry
with_prefix d prefix = record {
  version = d.version;
  variants = d.variants;
  compiler = d.compiler;
  os = d.os;
  target =
      d.target;
  prefix = prefix;
}

abbrev pub external_keys : List (List ℕ)
external_keys = codes "prefix" ∷ codes "spec" ∷ []

abbrev pub IsExternal : List ℕ → List ℕ → Data → Told ExternalEntry
IsExternal name platform d = do
  ms ← told_by (known external_keys d)
  text ← told_by (need (text_of Some) (codes "spec") ms)
  described ← Below (codes "spec") (IsDescribed name platform text)
  prefix ← told_by (need (text_of Some) (codes "prefix") ms)
  done (with_prefix described prefix)
