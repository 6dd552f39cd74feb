use Rattle.std.proofs.Common.{◌∙◌, sym}
use Rattle.recipe_values.proofs.Segments.{elements_more, elements_fail, elements_end}
use Rattle.recipe_values.proofs.brackets.elements.Goals as goal

pub segments-preserved : goal.segments-preserved
segments-preserved c =
    let is = sym c.in_ok-reading.ensures ∙ c.in-Ok.is in
    let more = elements_more c.segments.found c.args.bytes.now c.segments.left c.pop.new.self c.in-Some.segment c.in-Ok.reading
    c.in-Some.ensures is in
    rw (c.in_ok-push-in-Ok.ensures.ok, c.element.ensures) (sym more ∙ c.segments.invariant)

pub returns-in-Err : goal.returns-in-Err
returns-in-Err c =
    let is = sym c.in_ok-reading.ensures ∙ c.in-Err.is in
    sym (elements_fail c.segments.found c.in-Err.fault c.args.bytes.now c.segments.left c.pop.new.self c.in-Some.segment c.in-Some.ensures
    is) ∙ c.segments.invariant

pub returns : goal.returns
returns c =
    sym (elements_end c.segments.found c.args.bytes.now c.segments.left c.in_default.ensures.0) ∙ c.segments.invariant
