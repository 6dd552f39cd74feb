use Rattle.recipe_reader.proofs.KeptLaws.{kept, named}
use Rattle.recipe_reader.proofs.theorems.recipe_laws.Goals as goal

pub returns : goal.returns
returns c = record { kept = kept; named = named }
