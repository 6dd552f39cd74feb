use Rattle.variant_values.proofs.Texts.{decides_search}
use Rattle.variant_values.proofs.value_set.ValueSet.contains.Goals as goal

pub returns : goal.returns
returns c = decides_search _ _ _ _ c.search.ensures.found c.search.ensures.absent c.is_ok.ensures.value
