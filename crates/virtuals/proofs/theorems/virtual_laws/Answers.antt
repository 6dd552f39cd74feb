use Rattle.virtuals.proofs.VirtualLaws.{has_virtual, first_found}
use Rattle.virtuals.specs.Virtuals.{is_virtual}
use Rattle.virtuals.proofs.theorems.virtual_laws.Goals as goal

pub returns : goal.returns
returns c = record {
  has = has_virtual;
  least =
      λ recipes first other ordered found. first_found (λ recipe. is_virtual recipes recipe.name) recipes first other ordered found;
}
