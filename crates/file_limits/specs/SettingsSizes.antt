-- How large settings are, by their file.
use Rattle.std.specs.Prelude.{◌≡◌, ℕ, ◌+◌, ◌*◌, ◌≤◌, ◌^◌, true, List, length}
use Rattle.settings_reader.specs.Files.{IsOfFile}
use Rattle.site_settings.specs.Standard.{standard}
use Rattle.site_settings.specs.declared.settings.Settings.{Settings}
use Rattle.problem.specs.Limits.{are_small, size_of_settings}

-- A file has at least two bytes for each thing that is counted in its settings. Where it is silent on OSs, targets and
-- compilers, there is one standard of each.
abbrev pub FilesBearSettings : Type 0
FilesBearSettings = (bytes : List ℕ) (settings : Settings) → IsOfFile bytes settings → 2 * size_of_settings settings ≤ length bytes + 6

-- so those of a file within its limit are within theirs
abbrev pub FilesAreSmall : Type 0
FilesAreSmall = (bytes : List ℕ) (settings : Settings) → IsOfFile bytes settings → length bytes ≤ 2 ^ 24 → are_small settings ≡ true

-- and the settings of a run without a file
abbrev pub StandardIsSmall : Type 0
StandardIsSmall = are_small standard ≡ true
