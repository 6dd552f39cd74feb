use Rattle.std.proofs.Common.{[], subst}
use Rattle.clause_solver.specs.Models.{values_in}
use Rattle.clause_store.specs.Clauses.{Clauses}
use Rattle.optimum_search.specs.Finding.{IsFound, MeetsAll}
use Rattle.optimum_search.specs.declared.found.Found.TheVariants.{Optimal, Refuted, Spent}
use Rattle.best_graph.proofs.Found.{nothing-answer, stopped-answer}
use Rattle.best_graph.proofs.best.settled.Goals as goal

pub returns-in-Optimal-clause-model : goal.returns-in-Optimal-clause-model
returns-in-Optimal-clause-model c =
    let s = c.args.rules.now.clauses in
    let found : IsFound s [] c.args._budget (Optimal c.in-Optimal.model c.in-Optimal.log) =
    subst (IsFound s [] c.args._budget) c.in-Optimal.is c.requires.found in
    (values_in c.in-Optimal.model, subst (λ (t : Clauses). MeetsAll (values_in c.in-Optimal.model) t) c.requires.ruled.clauses found.1)

pub returns-in-Refuted-clause-answer : goal.returns-in-Refuted-clause-answer
returns-in-Refuted-clause-answer c =
    let s = c.args.rules.now.clauses in
    let found : IsFound s [] c.args._budget (Refuted c.in-Refuted.log) =
    subst (IsFound s [] c.args._budget) c.in-Refuted.is c.requires.found in
    nothing-answer c.args._problem.now c.args.rules.now c.requires.ruled c.args._budget c.in-Refuted.log
    c.is_of_lines.ensures (c.is_writable.ensures [] found.0.sound found.1) c.requires.decodes found
    (c.found_laws.ensures s [] c.args._budget (Refuted c.in-Refuted.log) c.requires.in_order found)

pub returns-clause-answer : goal.returns-clause-answer
returns-clause-answer c =
    let s = c.args.rules.now.clauses in
    let found : IsFound s [] c.args._budget (Spent c.in-Spent.log) = subst (IsFound s [] c.args._budget) c.in-Spent.is c.requires.found in
    stopped-answer c.args._problem.now c.args.rules.now c.requires.ruled c.args._budget c.in-Spent.log
    c.is_of_lines-in-Spent.ensures (c.is_writable-in-Spent.ensures [] found.sound found.in_range) c.is_finite.ensures c.requires.decodes found
    (c.found_laws.ensures s [] c.args._budget (Spent c.in-Spent.log) c.requires.in_order found)
