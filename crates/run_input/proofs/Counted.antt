-- How many bytes recipe files have together.
use Rattle.std.proofs.Common.{◌≡◌, ◌+◌, List, [], ◌∷◌, ◌++◌}
use Rattle.std.specs.Prelude.{length}
use Rattle.std.proofs.lemmas.List.Sums.{sum_by_push}
use Rattle.run_input.specs.Sources.{Source, bytes_in}

-- a file more
pub counted : (files : List Source) (more : Source) → bytes_in (files ++ more ∷ []) ≡ bytes_in files + length more.1
counted files more = sum_by_push (λ (source : Source). length source.1) files more
