use Rattle.std.proofs.Common.{◌∙◌, ap, length, sym}
use Rattle.run_task.specs.Problems.{each_alone}
use Rattle.run_output.specs.Evidence.{IsFor}
use Rattle.run_output.proofs.Apart.{texts_of_all}
use Rattle.run_output.proofs.EachLaws.{zip_length}
use Rattle.run_output.proofs.each_put.write_found_each.Goals as goal

pub each_text-requires-clause-count : goal.each_text-requires-clause-count
each_text-requires-clause-count g c =
    zip_length IsFor (each_alone c.args.whole.now) c.args.answers.now c.requires.each ∙ ap length (sym c.requires.apart)

pub put_each-requires-clause-count : goal.put_each-requires-clause-count
put_each-requires-clause-count g c =
    zip_length IsFor (each_alone c.args.whole.now) c.args.answers.now c.requires.each ∙ ap length (sym c.requires.apart)

pub put_each-requires-clause-texts : goal.put_each-requires-clause-texts
put_each-requires-clause-texts g c = texts_of_all c.args.whole.now c.args.problems.now c.requires.apart c.requires.texts
