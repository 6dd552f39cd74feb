use Rattle.std.proofs.Common.{sym, ap, subst, ◌∙◌, List, Bool, All, map, arith}
use Rattle.clause_store.specs.Clauses.{Clauses}
use Rattle.clause_solver.specs.Models.{values_in}
use Rattle.graph_core.specs.Graphs.{Content}
use Rattle.graph_decoding.specs.Decoding.{decode, IsStructured}
use Rattle.literal_table.specs.Tables.{Table}
use Rattle.possible_closure.specs.Closures.{closure_of}
use Rattle.problem_formulas.specs.Given.{no_place}
use Rattle.problem_encoding.proofs.Ruled.{unplaced}
use Rattle.reason_minimum.specs.Least.{IsLeast, IsModel, IsMinimal, IsSpentFor}
use Rattle.best_graph.specs.LeastLists.{IsLeastList}
use Rattle.best_graph.proofs.LeastShown.{least-satisfiable, least-list, least-spent, models-structured}
use Rattle.best_graph.proofs.least_reasons.least_explanation_of.Goals as goal

pub returns-in-Satisfiable-clause-means : goal.returns-in-Satisfiable-clause-means
returns-in-Satisfiable-clause-means c =
    let s = c.args.rules.now.clauses in
    let is : IsModel s c.in-Satisfiable.model = subst (IsLeast s c.args._budget) c.in-Satisfiable.is c.requires.found in
    least-satisfiable c.args._problem.now c.requires.decodes c.part_laws.ensures c.in-Satisfiable.model
    (subst (λ (t : Clauses). IsModel t c.in-Satisfiable.model) c.requires.ruled.clauses is)

pub graphs_of-requires : goal.graphs_of-requires
graphs_of-requires c =
    let p = c.args._problem.now in
    let s = c.args.rules.now.clauses in
    let ms = c.in-Minimal.models in
    let found : IsMinimal s c.in-Minimal.demands ms = subst (IsLeast s c.args._budget) c.in-Minimal.is c.requires.found in
    let is = subst (λ (t : Clauses). IsMinimal t c.in-Minimal.demands ms) c.requires.ruled.clauses found in
    let structured = c.closure_laws.ensures.structured p (closure_of p) no_place c.requires.ruled.closure c.requires.ruled.has
    (unplaced p (closure_of p)) in
    let own = models-structured p c.requires.decodes c.part_laws.ensures structured c.in-Minimal.demands c.in-Minimal.demands ms
    is.each_needed in
    let told = subst (λ (t : Table). All (λ (m : List Bool). IsStructured (values_in m) t) ms) (sym c.requires.ruled.is_table) own in
    subst (λ (ks : List (List Bool)). All (λ (m : List Bool). IsStructured (values_in m) c.args.rules.now.table) ks)
    (sym c.as_slice.ensures)
    told

pub returns-in-Minimal-clause-means : goal.returns-in-Minimal-clause-means
returns-in-Minimal-clause-means c =
    let p = c.args._problem.now in
    let s = c.args.rules.now.clauses in
    let ms = c.in-Minimal.models in
    let found : IsMinimal s c.in-Minimal.demands ms = subst (IsLeast s c.args._budget) c.in-Minimal.is c.requires.found in
    let is = subst (λ (t : Clauses). IsMinimal t c.in-Minimal.demands ms) c.requires.ruled.clauses found in
    let own = least-list p c.requires.decodes c.part_laws.ensures c.demand_laws.ensures c.in-Minimal.demands ms is in
    let same = c.in_ok-graphs-in-Minimal.ensures
    ∙ ap (map (λ (m : List Bool). decode (values_in m) c.args.rules.now.table)) c.as_slice.ensures
    ∙ ap (λ (t : Table). map (λ (m : List Bool). decode (values_in m) t) ms) c.requires.ruled.is_table in
    subst (λ (gs : List Content). IsLeastList p c.in-Minimal.demands gs) (sym same) own

pub returns-clause-means : goal.returns-clause-means
returns-clause-means c =
    let s = c.args.rules.now.clauses in
    let is : IsSpentFor s c.args._budget c.in-Spent.demands c.in-Spent.more c.in-Spent.log =
    subst (IsLeast s c.args._budget) c.in-Spent.is c.requires.found in
    omega (arith, is.below_lines, c.is_finite.ensures)

pub returns-clause-rests : goal.returns-clause-rests
returns-clause-rests c =
    let p = c.args._problem.now in
    let s = c.args.rules.now.clauses in
    let found : IsSpentFor s c.args._budget c.in-Spent.demands c.in-Spent.more c.in-Spent.log =
    subst (IsLeast s c.args._budget) c.in-Spent.is c.requires.found in
    let is = subst (λ (t : Clauses). IsSpentFor t c.args._budget c.in-Spent.demands c.in-Spent.more c.in-Spent.log)
    c.requires.ruled.clauses found in
    least-spent p c.requires.decodes c.part_laws.ensures c.demand_laws.ensures c.args._budget c.in-Spent.demands c.in-Spent.more
    c.in-Spent.log is
