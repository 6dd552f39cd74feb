use Rattle.std.proofs.Common.{◌∙◌, sym}
use Rattle.recipe_values.proofs.Joins.{gives_ok, gives_err}
use Rattle.recipe_values.proofs.Atoms.{texts_more, texts_fail, texts_end}
use Rattle.recipe_values.proofs.values.add_texts.Goals as goal

pub returns-in-Err : goal.returns-in-Err
returns-in-Err c =
    sym c.atoms.invariant ∙ texts_fail c.atoms.text.items c.in-Err.fault c.args.bytes.now c.args.place c.atoms.left c.pop.new.self
    c.in-Some.atom c.in-Some.ensures (gives_err _ _ _ _ c.in-Err.is c.in_ok-add_atom.ensures)

pub atoms-preserved : goal.atoms-preserved
atoms-preserved c =
    sym (texts_more c.atoms.text.items c.add_atom.new.text.items c.args.bytes.now c.args.place c.atoms.left c.pop.new.self c.in-Some.atom
    c.in-Some.ensures (gives_ok _ _ _ _ c.in-Ok.is c.in_ok-add_atom.ensures)) ∙ c.atoms.invariant

pub returns : goal.returns
returns c =
    sym c.atoms.invariant ∙ texts_end c.atoms.text.items c.args.bytes.now c.args.place c.atoms.left c.in_default.ensures.0
