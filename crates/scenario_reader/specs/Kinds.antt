-- What a section is by its name.
use Rattle.std.specs.Prelude.{ℕ, List, drop, length, Bool, true, false, ◌&&◌, nat_lt, if◌then◌else◌, codes}
use Rattle.std.specs.Str.{bytes_eq}
use Rattle.scenario_reader.specs.Marks.{has_front}
use Rattle.scenario_reader.specs.declared.kind.Kind.{Kind}
use Rattle.scenario_reader.specs.declared.kind.Kind.TheVariants.{Words, Devices, Status, Out, Err, Changed, Unknown, File}

abbrev pub is_kind : Kind → Kind → Bool
is_kind Words Words = true
is_kind Devices Devices = true
is_kind Status Status = true
is_kind Out Out = true
is_kind Err Err = true
is_kind Changed Changed = true
is_kind Unknown Unknown = true
is_kind File File = true
is_kind _ _ = false

unfoldable pub kind_of : List ℕ → Kind
kind_of name =
    if bytes_eq name (codes "words") then Words
    else if bytes_eq name (codes "devices") then Devices
    else if bytes_eq name (codes "want/status") then Status
    else if bytes_eq name (codes "want/out") then Out
    else if bytes_eq name (codes "want/err") then Err
    else if has_front (codes "want/files/") name && nat_lt 11 (length name) then Changed
    else if has_front (codes "want/") name then Unknown
    else File

-- the path of a section's file, and its name where it has none
abbrev pub path_of : Kind → List ℕ → List ℕ
path_of Changed name = drop 11 name
path_of _ name = name
