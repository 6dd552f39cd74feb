use Rattle.std.proofs.Common.{◌≡◌, take}
use Rattle.std.specs.Prelude.{slice_get}
use Rattle.std.specs.List.{flat_map}
use Rattle.run_output.specs.Report.{line_if_there}
use Rattle.run_output.proofs.packages.found_text.Given as goal

abbrev pub invariant-loop-place : goal.invariant-loop-place
invariant-loop-place l =
    l.text.items ≡ flat_map (λ place. line_if_there (slice_get l.database place)) (take l.place-index l.places)
