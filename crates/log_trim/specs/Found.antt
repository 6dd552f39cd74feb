-- What a search found, with a shorter log.
use Rattle.optimum_search.specs.declared.found.Found.{Found}
use Rattle.optimum_search.specs.declared.found.Found.TheVariants.{Optimal, Refuted, Spent}
use Rattle.log_trim.specs.Trimmed.{trimmed}

abbrev pub trimmed_found : Found → Found
trimmed_found (Optimal model log) = Optimal model (trimmed log)
trimmed_found (Refuted log) = Refuted (trimmed log)
trimmed_found (Spent log) = Spent log
