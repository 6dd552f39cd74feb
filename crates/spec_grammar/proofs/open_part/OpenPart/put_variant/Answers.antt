use Rattle.std.proofs.Common.{◌∙◌, refl}
use Rattle.spec_grammar.proofs.PartLaws.{set-is}
use Rattle.spec_grammar.proofs.open_part.OpenPart.put_variant.Goals as goal

pub returns : goal.returns
returns c =
    let set = c.in_ok-insert.ensures.entries ∙ set-is c.args.name c.args.values c.self.inside.variants.entries
    (rw (← c.self.view_is) at c.requires) in
    rw (← c.self.view_is, set) refl
