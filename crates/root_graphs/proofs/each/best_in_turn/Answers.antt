use Rattle.std.proofs.Common.{sym, subst, arith}
use Rattle.std.proofs.lemmas.List.Elements.{All-get_or}
use Rattle.problem.specs.Problems.{Problem}
use Rattle.best_graph.specs.Answers.{IsAnswer}
use Rattle.best_graph.specs.declared.answer.Answer.{Answer}
use Rattle.root_graphs.specs.Each.{IsSolvable}
use Rattle.root_groups.proofs.Laws.{zip_more}
use Rattle.root_graphs.proofs.each.best_in_turn.Goals as goal

pub best_of_one-requires : goal.best_of_one-requires
best_of_one-requires g c =
    subst IsSolvable (sym c.index-problems-i.is)
    (All-get_or IsSolvable c.args.problems.now c.loop-i.i c.index-problems-i.result (omega arith) c.requires.solvable)

pub loop-i-preserved : goal.loop-i-preserved
loop-i-preserved g c =
    rw c.in_ok-push.ensures.items
    (zip_more (λ (problem : Problem) (answer : Answer). IsAnswer problem c.args.budget answer) c.args.problems.now c.loop-i.i
    c.index-problems-i.result c.loop-i.answers.items _ (omega arith) c.index-problems-i.is c.loop-i.invariant c.in_ok-best_of_one.ensures)
