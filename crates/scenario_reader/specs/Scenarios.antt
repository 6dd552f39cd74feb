-- What the sections of a text say.
use Rattle.std.specs.Prelude.{ℕ, List, [], ◌∷◌, Bool, true, false, not, ◌&&◌, if◌then◌else◌, Option, Some, None, Result, Ok, Err}
use Rattle.scenario_reader.specs.Faults.{and_then}
use Rattle.scenario_reader.specs.Kinds.{is_kind}
use Rattle.scenario_reader.specs.Texts.{text_of}
use Rattle.scenario_reader.specs.Devices.{device_of, is_clash}
use Rattle.scenario_reader.specs.Sections.{sections_of, content_of}
use Rattle.scenario_reader.specs.declared.entry.Entry.{Entry}
use Rattle.scenario_reader.specs.declared.device.Device.{Device}
use Rattle.scenario_reader.specs.declared.scenario.Scenario.{Scenario}
use Rattle.scenario_reader.specs.declared.kind.Kind.{Kind}
use Rattle.scenario_reader.specs.declared.kind.Kind.TheVariants as kinds
use Rattle.scenario_reader.specs.declared.fault.Fault.{Fault}
use Rattle.scenario_reader.specs.declared.fault.FaultKind.{FaultKind}
use Rattle.scenario_reader.specs.declared.fault.FaultKind.TheVariants as faults

abbrev pub fault_at : {A : Type 0} → ℕ → FaultKind → Result A Fault
fault_at line kind = Err (record { line = line; kind = kind })

-- the section of that kind
abbrev pub find : Kind → List Entry → Option Entry
find kind [] = None
find kind (entry ∷ entries) = if is_kind entry.kind kind then Some entry else find kind entries

-- ---- words

abbrev pub is_empty : List ℕ → Bool
is_empty [] = true
is_empty (b ∷ bs) = false

abbrev pub or_fault : {A : Type 0} → ℕ → FaultKind → Option A → Result A Fault
or_fault line kind (Some a) = Ok a
or_fault line kind None = fault_at line kind

abbrev pub word_at : Bool → ℕ × List ℕ → Result (List ℕ) Fault
word_at quoted item =
    if is_empty item.1 && not quoted then fault_at item.0 faults.Blank
    else or_fault item.0 faults.NotText (text_of item.1)

-- what each line stands for, or the first fault
abbrev pub each : {A : Type 0} → (ℕ × List ℕ → Result A Fault) → List (ℕ × List ℕ) → Result (List A) Fault
each at [] = Ok []
each at (item ∷ items) = and_then (λ a. and_then (λ more. Ok (a ∷ more)) (each at items)) (at item)

abbrev pub words_of : Entry → Result (List (List ℕ)) Fault
words_of entry = each (word_at entry.quoted) entry.items

abbrev pub words_found : Option Entry → Result (List (List ℕ)) Fault
words_found (Some entry) = words_of entry
words_found None = fault_at 0 faults.NoWords

abbrev pub words_in : List Entry → Result (List (List ℕ)) Fault
words_in entries = words_found (find kinds.Words entries)

-- ---- devices

abbrev pub device_at : ℕ × List ℕ → Result Device Fault
device_at item = or_fault item.0 faults.Device (device_of item.1)

abbrev pub unless_clash : ℕ → List Device → Result (List Device) Fault
unless_clash line devices = if is_clash devices then fault_at line faults.EveryCall else Ok devices

abbrev pub devices_in : Entry → Result (List Device) Fault
devices_in entry = and_then (unless_clash entry.line) (each device_at entry.items)

abbrev pub devices_of : Option Entry → Result (List Device) Fault
devices_of (Some entry) = devices_in entry
devices_of None = Ok []

-- ---- the status

-- the one line of a section
abbrev pub status_by : ℕ → List (ℕ × List ℕ) → Result (List ℕ) Fault
status_by line [] = fault_at line faults.Status
status_by line (item ∷ []) = word_at false item
status_by line (item ∷ more ∷ others) = fault_at line faults.Status

abbrev pub status_of : Entry → Result (List ℕ) Fault
status_of entry = status_by entry.line entry.items

abbrev pub status_found : Option Entry → Result (List ℕ) Fault
status_found (Some entry) = status_of entry
status_found None = fault_at 0 faults.NoStatus

abbrev pub status_in : List Entry → Result (List ℕ) Fault
status_in entries = status_found (find kinds.Status entries)

-- ---- contents

-- what is said on a stream: nothing, where no section says it
abbrev pub said_of : Option Entry → List ℕ
said_of (Some entry) = content_of entry
said_of None = []

-- the files of the sections of that kind, in their order
abbrev pub files_of : Kind → List Entry → List (List ℕ × List ℕ)
files_of kind [] = []
files_of kind (entry ∷ entries) = if is_kind entry.kind kind then (entry.path, content_of entry)
    ∷ files_of kind entries else files_of kind entries

-- ---- the whole

abbrev pub with_parts : List Entry → List (List ℕ) → List Device → List ℕ → Scenario
with_parts entries words devices status = record {
  words = words;
  files = files_of kinds.File entries;
  devices = devices;
  status = status;
  out = said_of (find kinds.Out entries);
  err = said_of (find kinds.Err entries);
  changed = files_of kinds.Changed entries;
}

unfoldable pub scenario_of : List Entry → Result Scenario Fault
scenario_of entries =
    and_then (λ words. and_then (λ devices. and_then (λ status. Ok (with_parts entries words devices status))
    (status_in entries)) (devices_of (find kinds.Devices entries))) (words_in entries)

-- what a text says
abbrev pub meaning_of : List ℕ → Result Scenario Fault
meaning_of text = and_then scenario_of (sections_of text)
