use Rattle.std.proofs.Common.{[], subst}
use Rattle.optimum_search.specs.Finding.{IsFound}
use Rattle.optimum_search.specs.declared.found.Found.TheVariants.{Refuted, Spent}
use Rattle.best_graph.proofs.ReasonsShown.{satisfiable, unmet, refuted, spent, finite}
use Rattle.best_graph.proofs.reasons.explanation_of.Goals as goal

pub returns-in-Optimal-clause-means : goal.returns-in-Optimal-clause-means
returns-in-Optimal-clause-means c =
    let s = c.args.rules.now.clauses in
    satisfiable c.args._problem.now c.args.rules.now c.requires.ruled c.requires.decodes c.args._budget c.in-Optimal.model c.in-Optimal.log
    (subst (IsFound s [] c.args._budget) c.in-Optimal.is c.requires.found)

pub returns-in-Refuted-clause-means : goal.returns-in-Refuted-clause-means
returns-in-Refuted-clause-means c =
    let s = c.args.rules.now.clauses in
    let found : IsFound s [] c.args._budget (Refuted c.in-Refuted.log) =
    subst (IsFound s [] c.args._budget) c.in-Refuted.is c.requires.found in
    unmet c.args._problem.now c.args.rules.now c.requires.ruled c.requires.decodes c.args._budget c.reason_laws.ensures.no_model
    c.demand_laws.ensures c.in-Refuted.log
    c.in_ok-demands-in-Refuted.demands c.requires.in_order found
    (c.found_laws.ensures s [] c.args._budget (Refuted c.in-Refuted.log) c.requires.in_order found) c.in_ok-demands-in-Refuted.ensures

pub returns-in-Refuted-clause-rests : goal.returns-in-Refuted-clause-rests
returns-in-Refuted-clause-rests c =
    let s = c.args.rules.now.clauses in
    let found : IsFound s [] c.args._budget (Refuted c.in-Refuted.log) =
    subst (IsFound s [] c.args._budget) c.in-Refuted.is c.requires.found in
    refuted c.args._problem.now c.args.rules.now c.requires.ruled c.requires.decodes c.args._budget c.in-Refuted.log
    c.in_ok-demands-in-Refuted.demands found c.in_ok-demands-in-Refuted.ensures

pub reasons-requires : goal.reasons-requires
reasons-requires c =
    let s = c.args.rules.now.clauses in
    let found : IsFound s [] c.args._budget (Refuted c.in-Refuted.log) =
    subst (IsFound s [] c.args._budget) c.in-Refuted.is c.requires.found in
    ([], found.0)

pub returns-clause-means : goal.returns-clause-means
returns-clause-means c =
    let s = c.args.rules.now.clauses in
    let found : IsFound s [] c.args._budget (Spent c.in-Spent.log) =
    subst (IsFound s [] c.args._budget) c.in-Spent.is c.requires.found in
    finite c.args._problem.now c.args.rules.now c.requires.ruled c.requires.decodes c.args._budget c.in-Spent.log c.is_finite.ensures
    (c.found_laws.ensures s [] c.args._budget (Spent c.in-Spent.log) c.requires.in_order found)

pub returns-clause-rests : goal.returns-clause-rests
returns-clause-rests c =
    let s = c.args.rules.now.clauses in
    let found : IsFound s [] c.args._budget (Spent c.in-Spent.log) =
    subst (IsFound s [] c.args._budget) c.in-Spent.is c.requires.found in
    spent c.args._problem.now c.args.rules.now c.requires.ruled c.requires.decodes c.args._budget c.in-Spent.log found
    (c.found_laws.ensures s [] c.args._budget (Spent c.in-Spent.log) c.requires.in_order found)
