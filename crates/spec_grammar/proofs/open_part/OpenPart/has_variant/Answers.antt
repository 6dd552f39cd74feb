use Rattle.std.proofs.Common.{◌∙◌}
use Rattle.spec_grammar.proofs.PartLaws.{has_variant-is}
use Rattle.spec_grammar.proofs.open_part.OpenPart.has_variant.Goals as goal

pub returns : goal.returns
returns c = rw (← c.self.view_is) (c.contains_key.ensures ∙ has_variant-is c.args.name.now c.self.inside.variants.entries)
