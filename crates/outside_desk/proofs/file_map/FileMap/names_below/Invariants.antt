use Rattle.std.proofs.Common.{◌≡◌, map}
use Rattle.std.specs.List.{filter_map}
use Rattle.std.specs.String.{string_bytes}
use Rattle.outside_desk.specs.Listing.{name_below, with_names, names_in}
use Rattle.outside_desk.proofs.file_map.FileMap.names_below.Given as goal

-- the names so far, with those of the paths to come, are all names
abbrev pub invariant-loop-path : goal.invariant-loop-path
invariant-loop-path l = with_names l.names (filter_map (name_below l.folder) (map string_bytes l.path-iterator)) ≡ names_in l.self l.folder
