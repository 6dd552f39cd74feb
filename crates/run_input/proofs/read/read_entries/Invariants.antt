use Rattle.std.proofs.Common.{◌≡◌, ◌++◌, map, take, drop, IfSome, Ok}
use Rattle.std.specs.String.{string_bytes}
use Rattle.outside_desk.specs.Files.{StillTells}
use Rattle.variant_values.specs.Texts.{IsInByteOrder}
use Rattle.run_input.specs.Sources.{names_of, no_files, with_entries}
use Rattle.run_input.proofs.read.read_entries.Given as goal

-- the files so far are within the limits, and with the entries to come they are those of all entries
abbrev pub invariant-loop-name : goal.invariant-loop-name
invariant-loop-name g l = record {
  same : StillTells (g.D.Desk.files l.fn.desk) (g.D.Desk.files l.desk);
  steady : g.D.Desk.faults l.desk ≡ g.D.Desk.faults l.fn.desk;
  put_faults : g.D.Desk.put_faults l.desk ≡ g.D.Desk.put_faults l.fn.desk;
  order : IsInByteOrder (names_of l.sources ++ map string_bytes (drop l.name-index l.names));
  whole : IfSome (g.D.Desk.files l.desk) (λ files. with_entries files l.repo l.sources (map string_bytes (drop l.name-index l.names))
      ≡ with_entries files l.repo no_files (map string_bytes l.names));
  so_far : IfSome (g.D.Desk.files l.desk) (λ files. with_entries files l.repo no_files (map string_bytes (take l.name-index l.names))
      ≡ Ok l.sources);
}
