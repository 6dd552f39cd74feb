use Rattle.run_output.proofs.Apart.{answers_of_all}
use Rattle.run_output.proofs.each_found.find_each.Goals as goal

pub returns : goal.returns
returns g c =
    answers_of_all c.args.input.now.problem c.budget_of.result c.args.problems.now c.in_ok-answers.answers.items c.budget_of.ensures
    c.requires.apart c.in_ok-answers.ensures
