use Rattle.std.proofs.Common.{◌∙◌, sym, subst, arith, All}
use Rattle.std.specs.Str.{IsUtf8}
use Rattle.std.proofs.lemmas.List.Elements.{All-get_or}
use Rattle.spec_grammar.specs.Canonical.{spec_text}
use Rattle.run_task.specs.Problems.{Problem}
use Rattle.run_output.specs.Evidence.{IsFor}
use Rattle.run_output.proofs.EachLaws.{files_all, files_next, held_next, put_stopped, zip_here}
use Rattle.run_output.proofs.Puts.{carried}
use Rattle.run_output.proofs.each_put.put_each.Goals as goal

pub put_at-requires-clause-found : goal.put_at-requires-clause-found
put_at-requires-clause-found g c =
    zip_here IsFor c.args.problems.now c.args.answers.now c.loop-place.place c.index-problems-place.result c.index-answers-place.result
    c.requires.each (omega arith) c.index-problems-place.is c.index-answers-place.is

pub put_at-requires-clause-texts : goal.put_at-requires-clause-texts
put_at-requires-clause-texts g c =
    subst (λ (p : Problem). All (λ spec. IsUtf8 (spec_text spec)) p.roots) (sym c.index-problems-place.is)
    (All-get_or (λ (p : Problem). All (λ spec. IsUtf8 (spec_text spec)) p.roots) c.args.problems.now c.loop-place.place
    c.index-problems-place.result (omega arith) c.requires.texts)

pub loop-place-preserved : goal.loop-place-preserved
loop-place-preserved g c = record {
  put =
      files_next c.args.problems.now c.args.answers.now c.loop-place.place c.index-problems-place.result c.index-answers-place.result
      c.requires.count (omega arith) c.index-problems-place.is c.index-answers-place.is c.args.dir.now _ _ _ c.loop-place.invariant.put
      c.in_ok-put_at.ensures.left;
  held =
      held_next c.args.problems.now c.args.answers.now c.loop-place.place c.index-problems-place.result c.index-answers-place.result
      c.requires.count (omega arith) c.index-problems-place.is c.index-answers-place.is c.args.dir.now _ _ _ c.loop-place.invariant.put
      c.loop-place.invariant.held c.in_ok-put_at.ensures.held;
  faults = c.in_ok-put_at.ensures.faults ∙ c.loop-place.invariant.faults;
  put_faults = c.in_ok-put_at.ensures.steady ∙ c.loop-place.invariant.put_faults;
}

pub returns-in_err-put_at-clause-left : goal.returns-in_err-put_at-clause-left
returns-in_err-put_at-clause-left g c =
    rw (carried c.in_err-put_at.field-0.0 c.from_residual.result c.from_residual.ensures.1)
    (put_stopped c.args.problems.now c.args.answers.now c.loop-place.place c.index-problems-place.result c.index-answers-place.result
    c.requires.count (omega arith) c.index-problems-place.is c.index-answers-place.is c.args.dir.now _ _ _ c.in_err-put_at.field-0.0
    c.loop-place.invariant.put c.in_err-put_at.ensures.left)

pub returns-in_err-put_at-clause-held : goal.returns-in_err-put_at-clause-held
returns-in_err-put_at-clause-held g c =
    held_next c.args.problems.now c.args.answers.now c.loop-place.place c.index-problems-place.result c.index-answers-place.result
    c.requires.count (omega arith) c.index-problems-place.is c.index-answers-place.is c.args.dir.now _ _ _ c.loop-place.invariant.put
    c.loop-place.invariant.held c.in_err-put_at.ensures.held

pub returns-clause-left : goal.returns-clause-left
returns-clause-left g c =
    files_all c.args.dir.now c.loop-place.place c.args.problems.now c.args.answers.now _ _ (omega arith) c.requires.count
    c.loop-place.invariant.put
