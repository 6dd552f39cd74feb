use Rattle.std.proofs.Common.{◌≡◌, ◌∷◌, ◌++◌, length, arith}
use Rattle.std.proofs.lemmas.Grind.{common_steps}
use Rattle.recipe_reader.proofs.PartLaws.{none_yet, one_more, first_faulty}
use Rattle.recipe_reader.proofs.beside.put_together.Goals as goal

pub loop-answer-init : goal.loop-answer-init
loop-answer-init c = record { so_far = rw c.new-recipes.ensures.items none_yet; rest = grind (arith, common_steps) }

pub loop-answer-preserved : goal.loop-answer-preserved
loop-answer-preserved c = record {
  so_far = rw (c.in-Ok.is, c.in-Ok-append.ensures.items, c.into_vec.ensures)
      (one_more c.loop-answer.yielded c.loop-answer.recipes.items c.in-Ok.more c.loop-answer.invariant.so_far);
  rest = grind (arith, common_steps);
}

pub returns-in-Err : goal.returns-in-Err
returns-in-Err c = λ parts all fits.
    let rest : c.loop-answer.yielded ++ (c.in-Some.answer ∷ c.next.new.self.rest.items) ≡ c.args.answers.items =
    grind (arith, common_steps) in
    let count : c.len.result ≡ length c.loop-answer.recipes.items = omega arith in
    let here = rw (← rest, c.in-Err.is) at all in
    first_faulty c.loop-answer.yielded c.next.new.self.rest.items c.loop-answer.recipes.items c.len.result c.in-Err.fault c.behind.result
    c.loop-answer.invariant.so_far count c.behind.ensures parts here fits
