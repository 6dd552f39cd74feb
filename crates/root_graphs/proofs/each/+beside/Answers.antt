use Rattle.std.proofs.lemmas.Result.{IfOk-at_ok}
use Rattle.problem.specs.Problems.{Problem}
use Rattle.best_graph.specs.Answers.{IsAnswer}
use Rattle.best_graph.specs.declared.answer.Answer.{Answer}
use Rattle.root_groups.proofs.Laws.{zip_halves}
use Rattle.root_graphs.specs.Each.{AreAnswers}
use Rattle.root_graphs.proofs.each.+beside.Goals as goal

pub returns : goal.returns
returns g t c =
    zip_halves (λ (problem : Problem) (answer : Answer). IsAnswer problem c.args.budget answer) c.args.problems.now
    c.split_at.result.0.now c.split_at.result.1.now c.in_ok-one.one.items c.in_ok-other.other.items _ _ c.in_ok-all.ensures
    c.split_at.ensures.front c.split_at.ensures.back
    (IfOk-at_ok (λ v. AreAnswers c.args.budget c.split_at.result.0.now v.items) c.in_ok-one.was c.join-one.ensures.first)
    (IfOk-at_ok (λ v. AreAnswers c.args.budget c.split_at.result.1.now v.items) c.in_ok-other.was c.join-one.ensures.second)
