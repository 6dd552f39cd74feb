-- The sections of a text, by its lines.
use Rattle.std.specs.Prelude.{ℕ, ◌+◌, List, [], ◌∷◌, ◌++◌, Bool, true, false, ◌&&◌, if◌then◌else◌, Option, Some, None, Result, Ok, Err}
use Rattle.std.specs.Str.{bytes_eq}
use Rattle.std.specs.List.{list_any, flat_map}
use Rattle.std.specs.Option.{option_to_list}
use Rattle.scenario_reader.specs.Faults.{and_then}
use Rattle.scenario_reader.specs.Lines.{lines_of}
use Rattle.scenario_reader.specs.Marks.{between, mark_of, plain_front, quoted_front}
use Rattle.scenario_reader.specs.Kinds.{is_kind, kind_of, path_of}
use Rattle.scenario_reader.specs.Texts.{text_of}
use Rattle.scenario_reader.specs.Quotes.{unquote}
use Rattle.scenario_reader.specs.declared.entry.Entry.{Entry}
use Rattle.scenario_reader.specs.declared.draft.Draft.{Draft}
use Rattle.scenario_reader.specs.declared.kind.Kind.{Kind}
use Rattle.scenario_reader.specs.declared.kind.Kind.TheVariants as kinds
use Rattle.scenario_reader.specs.declared.mark.Mark.{Mark}
use Rattle.scenario_reader.specs.declared.mark.Mark.TheVariants as marks
use Rattle.scenario_reader.specs.declared.fault.Fault.{Fault}
use Rattle.scenario_reader.specs.declared.fault.FaultKind.TheVariants as faults

-- ---- lines of a section

-- what a line stands for
abbrev pub item_of : Bool → List ℕ → Option (List ℕ)
item_of quoted line = if quoted then unquote line else Some line

abbrev pub with_item : ℕ → Entry → Option (List ℕ) → Result Entry Fault
with_item number entry None = Err (record { line = number; kind = faults.Quoted })
with_item number entry (Some item) = Ok (record entry { items = entry.items ++ (number, item) ∷ [] })

-- a section with a line more
abbrev pub with_line : ℕ → List ℕ → Entry → Result Entry Fault
with_line number line entry = with_item number entry (item_of entry.quoted line)

-- the bytes of a line in a file: a line that is not quoted has its line feed
abbrev pub line_bytes : Bool → List ℕ → List ℕ
line_bytes quoted item = if quoted then item else item ++ 10 ∷ []

abbrev pub content_of : Entry → List ℕ
content_of entry = flat_map (λ item. line_bytes entry.quoted item.1) entry.items

-- ---- names

abbrev pub is_same_section : Kind → List ℕ → Entry → Bool
is_same_section kind path entry = is_kind entry.kind kind && bytes_eq entry.path path

abbrev pub is_taken : Kind → List ℕ → List Entry → Bool
is_taken kind path entries = list_any (is_same_section kind path) entries

-- the section at hand is over
abbrev pub closed : Draft → Draft
closed draft = record { done = draft.done ++ option_to_list draft.current; current = None }

-- a section begins
abbrev pub begun : ℕ → Bool → Kind → List ℕ → Draft → Result Draft Fault
begun line quoted kind path draft =
    if is_taken kind path draft.done then Err (record { line = line; kind = faults.Twice })
    else Ok (record draft { current = Some (record { line = line; quoted = quoted; kind = kind; path = path; items = [] }) })

abbrev pub begun_at : ℕ → Bool → Kind → Draft → Option (List ℕ) → Result Draft Fault
begun_at line quoted kind draft None = Err (record { line = line; kind = faults.NotText })
begun_at line quoted kind draft (Some path) = begun line quoted kind path (closed draft)

abbrev pub named_so : ℕ → Bool → List ℕ → Draft → Kind → Result Draft Fault
named_so line quoted name draft kind =
    if is_kind kind kinds.Unknown then Err (record { line = line; kind = faults.UnknownWant })
    else begun_at line quoted kind draft (text_of (path_of kind name))

-- a section of that name begins
abbrev pub named : ℕ → Bool → List ℕ → Draft → Result Draft Fault
named line quoted name draft = named_so line quoted name draft (kind_of name)

-- ---- lines of a text

abbrev pub with_current : Draft → Result Entry Fault → Result Draft Fault
with_current draft (Ok entry) = Ok (record draft { current = Some entry })
with_current draft (Err fault) = Err fault

abbrev pub with_in : ℕ → List ℕ → Draft → Option Entry → Result Draft Fault
with_in line text draft None = Ok draft
with_in line text draft (Some entry) = with_current draft (with_line line text entry)

-- a line belongs to the section at hand, or to none
abbrev pub with : ℕ → List ℕ → Draft → Result Draft Fault
with line text draft = with_in line text draft draft.current

abbrev pub take_marked : ℕ → List ℕ → Draft → Mark → Result Draft Fault
take_marked line text draft marks.Inside = with line text draft
take_marked line text draft marks.Plain = named line false (between plain_front text) draft
take_marked line text draft marks.Quoted = named line true (between quoted_front text) draft
take_marked line text draft marks.Broken = Err (record { line = line; kind = faults.Marker })

-- what the line of that number does
abbrev pub take_line : ℕ → List ℕ → Draft → Result Draft Fault
take_line line text draft = take_marked line text draft (mark_of text)

-- the sections after the lines from that number on
abbrev pub sections_after : ℕ → Draft → List (List ℕ) → Result (List Entry) Fault
sections_after number draft [] = Ok (closed draft).done
sections_after number draft (line ∷ lines) = and_then (λ after. sections_after (number + 1) after lines) (take_line number line draft)

-- the sections of a text: lines before the first are a comment
unfoldable pub sections_of : List ℕ → Result (List Entry) Fault
sections_of text = sections_after 1 (record { done = []; current = None }) (lines_of text)
