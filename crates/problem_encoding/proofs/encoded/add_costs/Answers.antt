use Rattle.std.proofs.Common.{◌≡◌, sym, subst, ap, ◌∙◌, true}
use Rattle.std.specs.List.Sorted.{IsPermutation}
use Rattle.std.specs.List.{filter_map}
use Rattle.std.proofs.lemmas.Result.{IfOk-weaker}
use Rattle.possible_closure.specs.Closures.{closure_of}
use Rattle.ranked_costs.specs.Walks.{post_order}
use Rattle.literal_table.specs.Tables.{table_names, Table}
use Rattle.problem_formulas.specs.Given.{no_place}
use Rattle.ranked_costs.specs.Small.{are_small}
use Rattle.ranked_costs.specs.Built.{terms_for, rank_costs_on}
use Rattle.problem_encoding.specs.Built.{order_in, table_of}
use Rattle.problem_encoding.proofs.Ruled.{unplaced}
use Rattle.problem_encoding.proofs.Whole.{whole, in-range}
use Rattle.problem_encoding.proofs.encoded.add_costs.Goals as goal

pub rank_costs-requires-clause-table : goal.rank_costs-requires-clause-table
rank_costs-requires-clause-table c =
    let p = c.args.problem.now in
    let r = c.requires.ruled in
    (in-range p (closure_of p) no_place r.closure r.has (unplaced p (closure_of p)) c.costs_laws.ensures.range c.args.table.now
    c.args.clauses.now
    c.args.values.now r.is_table r.clauses r.values).0

pub rank_costs-requires-clause-values : goal.rank_costs-requires-clause-values
rank_costs-requires-clause-values c =
    let p = c.args.problem.now in
    let r = c.requires.ruled in
    (in-range p (closure_of p) no_place r.closure r.has (unplaced p (closure_of p)) c.costs_laws.ensures.range c.args.table.now
    c.args.clauses.now
    c.args.values.now r.is_table r.clauses r.values).1

pub rank_costs-requires-clause-small : goal.rank_costs-requires-clause-small
rank_costs-requires-clause-small c =
    let p = c.args.problem.now in
    let r = c.requires.ruled in
    let each : IsPermutation (table_names c.args.table.now) c.as_slice-2.result.now =
    subst (IsPermutation (table_names c.args.table.now)) (sym (c.as_slice-2.ensures.value ∙ c.in_ok-order.ensures))
    (c.order_laws.ensures.each c.args.table.now c.as_slice.result.now) in
    let own : IsPermutation (table_names (table_of p)) c.as_slice-2.result.now =
    subst (λ (t : Table). IsPermutation (table_names t) c.as_slice-2.result.now) r.is_table each in
    subst (λ (t : Table). are_small (terms_for p t c.args.values.now c.as_slice-2.result.now) ≡ true) (sym r.is_table)
    (c.costs_laws.ensures.small p (closure_of p) c.args.values.now c.as_slice-2.result.now c.requires.limits r.closure c.requires.few own)

pub returns-clause-costed : goal.returns-clause-costed
returns-clause-costed c =
    let p = c.args.problem.now in
    let r = c.requires.ruled in
    let each : IsPermutation (table_names c.args.table.now) c.as_slice-2.result.now =
    subst (IsPermutation (table_names c.args.table.now)) (sym (c.as_slice-2.ensures.value ∙ c.in_ok-order.ensures))
    (c.order_laws.ensures.each c.args.table.now c.as_slice.result.now) in
    IfOk-weaker c.rank_costs.result _ _ (λ bits are.
    whole p (closure_of p) no_place r.closure r.has (unplaced p (closure_of p)) c.costs_laws.ensures.ranks c.costs_laws.ensures.spells
    c.closure_laws.ensures.structured c.args.table.now c.args.clauses.now c.args.values.now r.is_table r.clauses r.values
    c.rank_costs.new.clauses bits
    c.as_slice-2.result.now each are) c.rank_costs.ensures.bits

pub returns-clause-built : goal.returns-clause-built
returns-clause-built c =
    let p = c.args.problem.now in
    let roots : c.as_slice.result.now ≡ filter_map (λ spec. spec.top.name) p.roots =
    c.as_slice.ensures.value ∙ c.in_ok-roots.ensures ∙ ap (filter_map (λ spec. spec.top.name)) c.roots.ensures in
    let order : c.as_slice-2.result.now ≡ order_in p c.args.table.now =
    c.as_slice-2.ensures.value ∙ c.in_ok-order.ensures ∙ ap (post_order c.args.table.now) roots in
    IfOk-weaker c.rank_costs.result _ _ (λ bits built.
    ap (rank_costs_on c.args.clauses.now p c.args.table.now c.args.values.now) (sym order) ∙ built) c.rank_costs.ensures.built
